-- A folder whose lock blocks is left alone.
use Rattle.std.proofs.Common.{◌≡◌, ◌∙◌, refl, sym, subst, Bool, ℤ}
use Rattle.std.specs.Prelude.{IsTrue}
use Rattle.bisync_device.specs.WorkFolder.{WorkFolder}
use Rattle.bisync_work.specs.Locks.{Blocks, IsFree, KeepsBlocking}
use Rattle.bisync_work.proofs.LockLaws.{free_or_blocking}
use Rattle.bisync_run.specs.Entering.{AtMoment}

-- what was only looked at before blocks as it did
pub blocked_since : (f g h : WorkFolder) (now : ℤ) (told : Bool) (moment : ℤ) → g ≡ f → (IsTrue told → now ≡ moment) → KeepsBlocking now g h → AtMoment told moment (λ now. KeepsBlocking now f h)
blocked_since f g h now told moment same at keeps =
    (now, at, λ until blocks. keeps until (subst (λ (x : WorkFolder). Blocks now until x.lock) (sym same) blocks) ∙ same)

-- what stayed was left alone
pub blocked_same : (f g : WorkFolder) (told : Bool) (moment : ℤ) → g ≡ f → AtMoment told moment (λ now. KeepsBlocking now f g)
blocked_same f g told moment same = (moment, (λ clock. refl), λ until blocks. same)

-- where a lock was free none blocked
pub blocked_nowhere : (f h : WorkFolder) (told : Bool) (moment : ℤ) → AtMoment told moment (λ now. IsFree now f.lock) → AtMoment told moment (λ now. KeepsBlocking now f h)
blocked_nowhere f h told moment at = (at.0, at.1, λ until blocks. absurd (free_or_blocking at.0 until f.lock at.2 blocks))
