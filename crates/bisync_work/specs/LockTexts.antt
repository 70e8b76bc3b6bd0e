-- The text of a lock: two lines, each ended by a newline. The form is this project's own.
use Rattle.std.specs.Prelude.{◌≡◌, ℤ, pos, ◌+ℤ◌, ◌-◌, ◌^◌, List, ℕ, [], ◌∷◌, ◌++◌, codes, Option, Some, None, FitsSigned, ⊤}
use Rattle.std.specs.Int.{w64, int_min}
use Rattle.bisync_text.specs.Time.{IsTimeText, time_spelling}
use Rattle.bisync_tree.specs.declared.expiries.Until.{Until}
use Rattle.bisync_tree.specs.declared.expiries.Until.TheVariants.{Unreadable, Never, At}

-- the first line, and the second up to its last word
abbrev pub lock_front : List ℕ
lock_front = codes "bisync lock v1\nexpires "

-- a lock's text with this last word
abbrev pub lock_with : List ℕ → List ℕ
lock_with word = lock_front ++ (word ++ 10 ∷ [])

-- a lock without an expiry never ends
abbrev pub SpellsExpiry : Option ℤ → List ℕ → Type 0
SpellsExpiry None word = word ≡ codes "never"
SpellsExpiry (Some moment) word = IsTimeText moment word

-- the text is that of a lock with this expiry
abbrev pub SpellsLock : Option ℤ → List ℕ → Type 0
SpellsLock expiry text = (word : List ℕ) × SpellsExpiry expiry word × (text ≡ lock_with word)

-- an expiry is a moment in 64 bits
abbrev pub IsExpiry : Option ℤ → Type 0
IsExpiry None = ⊤
IsExpiry (Some moment) = FitsSigned w64 moment

-- # The same as a function

abbrev pub expiry_word : Option ℤ → List ℕ
expiry_word None = codes "never"
expiry_word (Some moment) = time_spelling moment

-- the text of a lock with this expiry
abbrev pub lock_text : Option ℤ → List ℕ
lock_text expiry = lock_with (expiry_word expiry)

-- # What a text says

-- until when a lock of this expiry holds
abbrev pub until_of : Option ℤ → Until
until_of None = Never
until_of (Some moment) = At moment

-- the text is that of no lock
abbrev pub IsNoLock : List ℕ → Type 0
IsNoLock text = (expiry : Option ℤ) → IsExpiry expiry → text ≡ lock_text expiry → ⊥

-- until when a lock with this text holds
abbrev pub SaysUntil : Until → List ℕ → Type 0
SaysUntil Unreadable text = IsNoLock text
SaysUntil Never text = text ≡ lock_text None
SaysUntil (At moment) text = FitsSigned w64 moment × (text ≡ lock_text (Some moment))

-- # The expiry of a new lock

abbrev pub latest : ℤ
latest = pos (2 ^ 63 - 1)

-- the moment and the time that a lock holds, at most the greatest `i64`
abbrev pub expiry_of : ℤ → Option ℤ → Option ℤ
expiry_of now None = None
expiry_of now (Some max_lock) = Some (int_min (now +ℤ max_lock) latest)
