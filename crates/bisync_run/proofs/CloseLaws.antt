-- What a fall and the removal of the lock leave together.
use Rattle.std.proofs.Common.{◌≡◌, ◌⊎◌, ℕ, sym, ◌∙◌, ap, subst, inl, inr, ⊎_elim, Option, None}
use Rattle.bisync_device.specs.WorkFolder.{Absent, WorkFolder, IsSettled, with_held}
use Rattle.bisync_device.specs.declared.works.WorkName.TheVariants.{Lock}
use Rattle.bisync_work.specs.declared.bases.Pair.{Pair}
use Rattle.bisync_work.specs.Base.{Base, HasBaseIn, IsBase, HasNoBase}
use Rattle.bisync_work.specs.Moves.{Falls, IsFallen, SameListings, but_fallen, moved_over}
use Rattle.bisync_work.specs.Locks.{ChangesLock}
use Rattle.bisync_work.proofs.BaseLaws.{same_keeps, same_in_pair}
use Rattle.bisync_run.specs.Closing.{Closes, Unlocks}
use Rattle.bisync_run.specs.LeftNames.{FallsAs}

-- the folder is as before, or without its lock
abbrev pub MayUnlock : WorkFolder → WorkFolder → Type 0
MayUnlock old new = (new ≡ old) ⊎ (new ≡ with_held Lock Absent old)

pub unlocks : (f g : WorkFolder) → MayUnlock f g → Unlocks f g
unlocks f g (inl same) = record { rest = ap (with_held Lock Absent) same }
unlocks f g (inr gone) = record { rest = ap (with_held Lock Absent) gone }

pub same_listings : (f g : WorkFolder) → Unlocks f g → SameListings f g
same_listings f g only = record {
  one = ap (λ (x : WorkFolder). x.one) only.rest;
  two = ap (λ (x : WorkFolder). x.two) only.rest;
  one_old = ap (λ (x : WorkFolder). x.one_old) only.rest;
  two_old = ap (λ (x : WorkFolder). x.two_old) only.rest;
}

still_settled : (f g : WorkFolder) → Unlocks f g → IsSettled f → IsSettled g
still_settled f g only s =
    let t : IsSettled (with_held Lock Absent g) = subst IsSettled (sym only.rest) (record { one = s.one; two = s.two; one_old = s.one_old; two_old = s.two_old; filters = s.filters }) in
    record { one = t.one; two = t.two; one_old = t.one_old; two_old = t.two_old; filters = t.filters }

base_then : (f g h : WorkFolder) → Falls f g → Unlocks g h → (limit : ℕ) (base : Option Base) → IsBase limit f base → IsBase limit h base ⊎ HasNoBase limit h
base_then f g h fell only limit base is =
    let keeps = same_keeps limit g h (same_listings g h only) in
    ⊎_elim (λ same. inl (keeps.base base same)) (λ none. inr (keeps.base None none)) (fell.base limit base is)

pair_then : (f g h : WorkFolder) → Falls f g → Unlocks g h → (limit : ℕ) (pair : Pair) (base : Base) → HasBaseIn limit f pair base → HasBaseIn limit h pair base ⊎ HasNoBase limit h
pair_then f g h fell only limit pair base is =
    let same = same_listings g h only in
    ⊎_elim (λ stays. inl (same_in_pair limit g h same pair base stays)) (λ none. inr ((same_keeps limit g h same).base None none)) (fell.pair limit pair base is)

lock_then : (f g h : WorkFolder) → Falls f g → MayUnlock g h → (h.lock ≡ f.lock) ⊎ (h.lock ≡ Absent)
lock_then f g h fell (inl same) = inl (ap (λ (x : WorkFolder). x.lock) same ∙ ap (λ (x : WorkFolder). x.lock) fell.rest)
lock_then f g h fell (inr gone) = inr (ap (λ (x : WorkFolder). x.lock) gone)

-- a fall that may have ended early, and then the lock
pub closes : (f g h : WorkFolder) → Falls f g → MayUnlock g h → Closes f h
closes f g h fell may =
    let only = unlocks g h may in
    record {
      base = base_then f g h fell only;
      pair = pair_then f g h fell only;
      lock = lock_then f g h fell may;
      settled = λ s. still_settled g h only (fell.settled s);
      rest = ap but_fallen only.rest ∙ ap (with_held Lock Absent) fell.rest;
    }

-- what fell still has, past the removal of the lock
pub fell_past : (f g h : WorkFolder) → IsFallen f g → Unlocks g h → IsFallen f h
fell_past f g h fell only = record {
  one = ap (λ (x : WorkFolder). x.one) only.rest ∙ fell.one;
  two = ap (λ (x : WorkFolder). x.two) only.rest ∙ fell.two;
  one_old = ap (λ (x : WorkFolder). x.one_old) only.rest ∙ fell.one_old;
  two_old = ap (λ (x : WorkFolder). x.two_old) only.rest ∙ fell.two_old;
  one_err = ap (λ (x : WorkFolder). x.one_err) only.rest ∙ fell.one_err;
  two_err = ap (λ (x : WorkFolder). x.two_err) only.rest ∙ fell.two_err;
}

pub fell_unlocked : (f g h : WorkFolder) → IsFallen f g → MayUnlock g h → IsFallen f h
fell_unlocked f g h fell may = fell_past f g h fell (unlocks g h may)

-- said of the folder before the lock was taken
pub fell_before : (f f2 mid h : WorkFolder) → ChangesLock f f2 → FallsAs f2 mid → IsFallen mid h → IsFallen f h
fell_before f f2 mid h changes same fell = record {
  one = fell.one;
  two = fell.two;
  one_old = fell.one_old;
  two_old = fell.two_old;
  one_err = fell.one_err ∙ same.one ∙ ap (λ (w : WorkFolder). moved_over w.one (moved_over w.one_old w.one_err)) changes.rest;
  two_err = fell.two_err ∙ same.two ∙ ap (λ (w : WorkFolder). moved_over w.two (moved_over w.two_old w.two_err)) changes.rest;
}
