-- Until when a lock holds, by its text.
use Rattle.std.proofs.Common.{◌≡◌, ◌↔◌, ℕ, ◌≤◌, ◌<◌, ℤ, List, [], ◌∷◌, ◌++◌, length, take, refl, sym, ◌∙◌, ap, subst, inl, inr, arith, length-append, Option, Some, None, true}
use Rattle.std.proofs.lemmas.Int.{ints}
use Rattle.std.proofs.lemmas.List.{take_all, append_cancel_left, append_cancel_right}
use Rattle.bisync_text.specs.Time.{time_spelling}
use Rattle.bisync_text.proofs.TimeLaws.{own_time_text, length-spelling, one_time_text}
use Rattle.bisync_tree.specs.declared.expiries.Until.{Until}
use Rattle.bisync_tree.specs.declared.expiries.Until.TheVariants.{Unreadable, Never, At}
use Rattle.bisync_device.specs.WorkFolder.{Held, WorkFolder, bytes_of, is_there}
use Rattle.bisync_work.specs.LockTexts.{lock_front, lock_with, lock_text, expiry_word, IsExpiry, SaysUntil, until_of, SpellsLock}
use Rattle.bisync_work.specs.Locks.{Blocks, IsOver, HoldsAt, IsFree, SaysIfThere}
use Rattle.bisync_work.proofs.DigestFileLaws.{front_whole}

-- # Texts

pub length-lock_text : (expiry : Option ℤ) → length (lock_text expiry) ≤ 58
length-lock_text None = omega arith
length-lock_text (Some moment) = omega (arith, length-append (time_spelling moment) (10 ∷ []), length-spelling moment)

word_of : (a b : List ℕ) → lock_with a ≡ lock_with b → a ≡ b
word_of a b e = append_cancel_right a b (10 ∷ []) (append_cancel_left lock_front (a ++ 10 ∷ []) (b ++ 10 ∷ []) e)

never_ends : (moment : ℤ) → lock_text None ≡ lock_text (Some moment) → ⊥
never_ends moment e =
    let sizes : length (lock_text None) ≡ length (lock_text (Some moment)) = ap length e in
    omega (arith, sizes, length-append (time_spelling moment) (10 ∷ []), length-spelling moment)

-- what is a lock's text by the calendar is so by its time text, and no other text is
pub spells_lock : (expiry : Option ℤ) (text : List ℕ) → IsExpiry expiry → SpellsLock expiry text ↔ (text ≡ lock_text expiry)
spells_lock None text fits = (λ h. h.2 ∙ ap lock_with h.1, λ e. (expiry_word None, refl, e))
spells_lock (Some moment) text fits = (
  λ h. h.2 ∙ ap lock_with ((one_time_text moment fits h.0).0 h.1),
  λ e. (time_spelling moment, (one_time_text moment fits (time_spelling moment)).1 refl, e),
)

-- a text says one thing
pub one_until : (a b : Until) (text : List ℕ) → SaysUntil a text → SaysUntil b text → a ≡ b
one_until Unreadable Unreadable text h k = refl
one_until Unreadable Never text h k = absurd (h None tt k)
one_until Unreadable (At moment) text h k = absurd (h (Some moment) k.0 k.1)
one_until Never Unreadable text h k = absurd (k None tt h)
one_until Never Never text h k = refl
one_until Never (At moment) text h k = absurd (never_ends moment (sym h ∙ k.1))
one_until (At moment) Unreadable text h k = absurd (k (Some moment) h.0 h.1)
one_until (At moment) Never text h k = absurd (never_ends moment (sym k ∙ h.1))
one_until (At moment) (At other) text h k =
    ap At (own_time_text other k.0 moment h.0 (word_of (time_spelling moment) (time_spelling other) (sym h.1 ∙ k.1)))

-- a lock's text is read back
pub says-lock_text : (expiry : Option ℤ) → IsExpiry expiry → SaysUntil (until_of expiry) (lock_text expiry)
says-lock_text None fits = refl
says-lock_text (Some moment) fits = (fits, refl)

-- a text that is a lock's is so by the first 129 bytes, too
lock_front_of : (n : ℕ) (expiry : Option ℤ) (front text : List ℕ) → 58 < n → front ≡ take n text → front ≡ lock_text expiry → text ≡ lock_text expiry
lock_front_of n expiry front text room is same =
    let size : length front ≡ length (lock_text expiry) = ap length same in
    let short : length front < n = omega (arith, size, length-lock_text expiry, room) in
    sym (front_whole n front text is short) ∙ same

pub says_whole : (n : ℕ) (until : Until) (front text : List ℕ) → 58 < n → front ≡ take n text → SaysUntil until front → SaysUntil until text
says_whole n Unreadable front text room is says = λ expiry fits same.
    let size : length text ≡ length (lock_text expiry) = ap length same in
    let fits_in : length text ≤ n = omega (arith, size, length-lock_text expiry, room) in
    says expiry fits (is ∙ take_all n text fits_in ∙ same)
says_whole n Never front text room is says = lock_front_of n None front text room is says
says_whole n (At moment) front text room is says = (says.0, lock_front_of n (Some moment) front text room is says.1)

-- # Blocking

over_or_holding : (now : ℤ) (until : Until) → IsOver now until → HoldsAt now until → ⊥
over_or_holding now Unreadable over holds = over
over_or_holding now Never over holds = over
over_or_holding now (At moment) over holds = omega (arith, ints)

-- what is over blocks no run
pub over_is_free : (now : ℤ) (until other : Until) (lock : Held) (text : List ℕ) → bytes_of lock ≡ Some text → SaysUntil until text → IsOver now until → Blocks now other lock → ⊥
over_is_free now until other lock text there says over blocks =
    let same : blocks.text ≡ text = let e = blocks.there in cc in
    let one : other ≡ until = one_until other until text (subst (SaysUntil other) same blocks.says) says in
    over_or_holding now until over (subst (HoldsAt now) one blocks.holds)

-- a lock that was seen in a folder that stayed
pub seen_over : (now : ℤ) (until other : Until) (old new : WorkFolder) → is_there old.lock ≡ true → new ≡ old → SaysIfThere until new.lock → IsOver now until → Blocks now other old.lock → ⊥
seen_over now until other old new there same says over blocks =
    let seen = subst (λ (f : WorkFolder). SaysIfThere until f.lock) same says there in
    over_is_free now until other old.lock seen.0 seen.1 seen.2 over blocks

pub free_or_blocking : (now : ℤ) (until : Until) (lock : Held) → IsFree now lock → Blocks now until lock → ⊥
free_or_blocking now until lock (inl none) blocks = let e : None ≡ Some blocks.text = sym (ap bytes_of none) ∙ blocks.there in cc
free_or_blocking now until lock (inr expired) blocks =
    over_is_free now (At expired.moment) until lock (lock_text (Some expired.moment)) expired.there (expired.fits, refl) expired.over blocks

pub one_blocking : (now : ℤ) (a b : Until) (lock : Held) → Blocks now a lock → Blocks now b lock → a ≡ b
one_blocking now a b lock h k =
    let same : k.text ≡ h.text = let e = h.there in let f = k.there in cc in
    one_until a b h.text h.says (subst (SaysUntil b) same k.says)
