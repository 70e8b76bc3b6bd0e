-- What the switch leaves after the steps of an ordinary run.
use Rattle.std.proofs.Common.{◌⊎◌, ℕ, Option, Some, ap, sym, subst}
use Rattle.bisync_device.specs.WorkFolder.{WorkFolder, IsSynced, IsSettled}
use Rattle.bisync_work.specs.declared.bases.Pair.{Pair}
use Rattle.bisync_work.specs.Base.{Base, IsBase}
use Rattle.bisync_work.specs.Locks.{ChangesLock}
use Rattle.bisync_work.specs.Moves.{KeepsBase, Switches}
use Rattle.bisync_run.specs.OrdinaryChanges.{IsPrepared, IsSetBack}
use Rattle.bisync_run.specs.ResyncWriting.{next_base}
use Rattle.bisync_run.specs.declared.prepared.Prepared.{Prepared}
use Rattle.bisync_run.proofs.LockedFolders.{base_past, settled_past, ready_past}

-- the base is as before, or the new one
pub keeps_or_next : (limit : ℕ) (f g h k : WorkFolder) (pair : Pair) (before : Base) (prepared : Prepared) → IsPrepared limit f pair before prepared
    → KeepsBase limit f g → IsSetBack limit before prepared g → ChangesLock g h → Switches h k
    → (base : Option Base) → IsBase limit f base → IsBase limit k base ⊎ IsBase limit k (Some (next_base prepared))
keeps_or_next limit f g h k pair before prepared is keeps back lock switches base has =
    switches.base limit (next_base prepared) is.small (ready_past g h lock limit (next_base prepared) back.ready) base (base_past g h lock limit base (keeps.base base has))

-- the new listings were synced
pub settled_after : (f g h : WorkFolder) → IsSynced f.one_new → IsSynced f.two_new → IsSettled f → ChangesLock f g → Switches g h → IsSettled h
settled_after f g h one two settled lock switches =
    switches.settled (subst IsSynced (sym (ap (λ (x : WorkFolder). x.one_new) lock.rest)) one)
    (subst IsSynced (sym (ap (λ (x : WorkFolder). x.two_new) lock.rest)) two)
    (settled_past f g lock settled)
