-- Which locks block a run, and what the calls on the lock leave.
use Rattle.std.specs.Prelude.{◌≡◌, ◌⊎◌, ℤ, ◌<ℤ◌, ◌≤ℤ◌, List, ℕ, Bool, true, false, Some, FitsSigned, ⊤}
use Rattle.std.specs.Int.{w64}
use Rattle.bisync_tree.specs.declared.expiries.Until.{Until}
use Rattle.bisync_tree.specs.declared.expiries.Until.TheVariants.{Unreadable, Never, At}
use Rattle.bisync_device.specs.declared.works.WorkName.TheVariants.{Lock}
use Rattle.bisync_device.specs.WorkFolder.{Held, Absent, Kept, Loose, WorkFolder, with_held, is_there, bytes_of}
use Rattle.bisync_work.specs.declared.locks.Taken.{Taken}
use Rattle.bisync_work.specs.declared.locks.Taken.TheVariants as taken
use Rattle.bisync_work.specs.LockTexts.{SaysUntil, lock_text}

-- what holds until then still holds at the moment `now`
abbrev pub HoldsAt : ℤ → Until → Type 0
HoldsAt now Unreadable = ⊤
HoldsAt now Never = ⊤
HoldsAt now (At moment) = now <ℤ moment

-- what held until then is over at the moment `now`
abbrev pub IsOver : ℤ → Until → Type 0
IsOver now Unreadable = ⊥
IsOver now Never = ⊥
IsOver now (At moment) = moment ≤ℤ now

-- a lock is there, and blocks a run at the moment `now`
pub record Blocks (now : ℤ) (until : Until) (lock : Held) : Type 0 where
  pub text : List ℕ
  pub there : bytes_of lock ≡ Some text
  pub says : SaysUntil until text
  pub holds : HoldsAt now until

-- a lock is there whose expiry isn't after the moment `now`
pub record IsExpired (now : ℤ) (lock : Held) : Type 0 where
  pub moment : ℤ
  pub fits : FitsSigned w64 moment
  pub there : bytes_of lock ≡ Some (lock_text (Some moment))
  pub over : moment ≤ℤ now

-- no lock is there, or an expired one
abbrev pub IsFree : ℤ → Held → Type 0
IsFree now lock = (lock ≡ Absent) ⊎ IsExpired now lock

-- # What the calls leave

-- all but `lock` and `lock-new`
abbrev pub but_lock : WorkFolder → WorkFolder
but_lock f = record f { lock = Absent; lock_new = Absent }

-- every name but `lock` and `lock-new` is as before
pub record ChangesLock (old new : WorkFolder) : Type 0 where
  pub rest : but_lock new ≡ but_lock old

-- `lock` is as before or has the text, synced
abbrev pub ReplacesLock : List ℕ → Held → Held → Type 0
ReplacesLock text old new = (new ≡ old) ⊎ (new ≡ Kept text)

-- so it is, or no lock was there and one is that isn't synced
abbrev pub MakesLock : List ℕ → Held → Held → Type 0
MakesLock text old new = ReplacesLock text old new ⊎ ((old ≡ Absent) × ((any : List ℕ) × (new ≡ Loose any)))

-- `lock` has the text, synced, and `lock-new` is as before or gone
pub record IsTaken (text : List ℕ) (old new : WorkFolder) : Type 0 where
  pub lock : new.lock ≡ Kept text
  pub lock_new : (new.lock_new ≡ old.lock_new) ⊎ (new.lock_new ≡ Absent)

-- the lock was free and is taken, or blocks and nothing is changed
abbrev pub Takes : ℤ → List ℕ → WorkFolder → WorkFolder → Taken → Type 0
Takes now text old new taken.Got = IsFree now old.lock × IsTaken text old new
Takes now text old new (taken.Held until) = Blocks now until old.lock × (new ≡ old)

-- until when a lock is told to hold, it still holds
abbrev pub TellsHolding : ℤ → Taken → Type 0
TellsHolding now taken.Got = ⊤
TellsHolding now (taken.Held until) = HoldsAt now until

-- a lock that blocks is left alone
abbrev pub KeepsBlocking : ℤ → WorkFolder → WorkFolder → Type 0
KeepsBlocking now old new = (until : Until) → Blocks now until old.lock → new ≡ old

-- the lock was written again
abbrev pub relocked : List ℕ → WorkFolder → WorkFolder
relocked text f = record f { lock = Kept text; lock_new = Absent }

-- # Inside this crate

-- a lock was made, or one was there
abbrev pub Makes : List ℕ → WorkFolder → WorkFolder → Bool → Type 0
Makes text old new true = (old.lock ≡ Absent) × (new ≡ with_held Lock (Kept text) old)
Makes text old new false = (is_there old.lock ≡ true) × (new ≡ old)

-- nothing is changed, or no lock was there and one is
abbrev pub MayMake : List ℕ → WorkFolder → WorkFolder → Type 0
MayMake text old new =
    (new ≡ old)
    ⊎ ((old.lock ≡ Absent) × ((held : Held) × ((held ≡ Kept text) ⊎ ((any : List ℕ) × (held ≡ Loose any))) × (new ≡ with_held Lock held old)))

-- what a lock says that is there
abbrev pub SaysIfThere : Until → Held → Type 0
SaysIfThere until lock = is_there lock ≡ true → (text : List ℕ) × (bytes_of lock ≡ Some text) × SaysUntil until text
