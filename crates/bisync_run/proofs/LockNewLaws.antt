-- What of `lock-new` stays, from the parts of a run to the whole.
use Rattle.std.proofs.Common.{◌≡◌, ◌⊎◌, ◌∙◌, Bool, IsTrue, Option, Some, None, ℤ, ap, inl, inr}
use Rattle.bisync_device.specs.WorkFolder.{Absent, WorkFolder}
use Rattle.bisync_run.specs.LockNew.{KeepsLockNew}
use Rattle.bisync_run.specs.Stepping.{IsKept, IsKeptAt}

then : (f g h : WorkFolder) → (g.lock_new ≡ f.lock_new) ⊎ (g.lock_new ≡ Absent) → (h.lock_new ≡ g.lock_new) ⊎ (h.lock_new ≡ Absent) → (h.lock_new ≡ f.lock_new) ⊎ (h.lock_new ≡ Absent)
then f g h first (inr gone) = inr gone
then f g h (inl same) (inl again) = inl (again ∙ same)
then f g h (inr gone) (inl again) = inr (again ∙ gone)

pub lock_new_twice : {f g h : WorkFolder} → KeepsLockNew f g → KeepsLockNew g h → KeepsLockNew f h
lock_new_twice {f = f} {g = g} {h = h} first second = record { kept = then f g h first.kept second.kept }

pub lock_new_same : (f g : WorkFolder) → g.lock_new ≡ f.lock_new → KeepsLockNew f g
lock_new_same f g same = record { kept = inl same }

kept_at : (tells : Bool) (max_lock : Option ℤ) (written_at now : ℤ) (f : WorkFolder) (last : ℤ) (g : WorkFolder) → IsKeptAt tells max_lock written_at now f last g → IsTrue tells → KeepsLockNew f g
kept_at tells None written_at now f last g kept t = lock_new_same f g (ap (λ (w : WorkFolder). w.lock_new) (kept.1 t))
kept_at tells (Some max_lock) written_at now f last g (inl again) t = record { kept = inr (ap (λ (w : WorkFolder). w.lock_new) (again.2 t)) }
kept_at tells (Some max_lock) written_at now f last g (inr yet) t = lock_new_same f g (ap (λ (w : WorkFolder). w.lock_new) (yet.2 t))

pub kept_lock_new : {clock_tells tells : Bool} {max_lock : Option ℤ} {written_at moment : ℤ} {f : WorkFolder} {last : ℤ} {g : WorkFolder} → IsKept clock_tells tells max_lock written_at moment f last g → IsTrue tells → KeepsLockNew f g
kept_lock_new {tells = tells} {max_lock = max_lock} {written_at = written_at} {f = f} {last = last} {g = g} is = kept_at tells max_lock written_at is.now f last g is.kept
