-- What carrying out the plan of an ordinary run leaves, whatever call fails.
use Rattle.std.specs.Prelude.{◌≡◌, ◌⊎◌, ◌<◌, ◌^◌, ℕ, Bool, true, Option, Some}
use Rattle.bisync_device.specs.WorkFolder.{Absent, WorkFolder}
use Rattle.bisync_transfer.specs.StepTrees.{AreDone}
use Rattle.bisync_work.specs.declared.bases.Pair.{Pair}
use Rattle.bisync_work.specs.declared.bases.Pair.TheVariants.{Current, Old}
use Rattle.bisync_work.specs.Base.{Base, ArePair, HasBaseIn, IsBase}
use Rattle.bisync_work.specs.Moves.{IsReady}
use Rattle.bisync_work.specs.Stamps.{IsUnused}
use Rattle.bisync_run.specs.CarryingOut.{AreWithin}
use Rattle.bisync_run.specs.ResyncWriting.{next_base}
use Rattle.bisync_run.specs.Untouched.{Remotes}
use Rattle.bisync_run.specs.declared.prepared.Prepared.{Prepared}

-- of a folder whose base stands under the names of the pair, and has no listing with the new stamp, where both new listings
-- are within the limit
pub record IsPrepared (limit : ℕ) (f : WorkFolder) (pair : Pair) (before : Base) (prepared : Prepared) : Type 0 where
  pub small : limit < 2 ^ 64
  pub is : HasBaseIn limit f pair before
  pub unused : IsUnused limit f prepared.stamp
  pub fits : AreWithin limit prepared

-- # Writing

-- all but the listings of a base and the new ones
abbrev pub but_listings : WorkFolder → WorkFolder
but_listings f = record f { one = Absent; two = Absent; one_old = Absent; two_old = Absent; one_new = Absent; two_new = Absent }

-- the base stands under the -old names, and the new listings are ready
pub record IsSetBack (limit : ℕ) (before : Base) (prepared : Prepared) (g : WorkFolder) : Type 0 where
  pub is : HasBaseIn limit g Old before
  pub ready : IsReady limit g (next_base prepared)

-- # Carrying out

-- The base is as before or, where it may be, the new one, as the work folder alone tells it.
abbrev pub KeepsOrNext : ℕ → Prepared → Bool → WorkFolder → WorkFolder → Type 0
KeepsOrNext limit prepared may f g =
    (base : Option Base) → IsBase limit f base → IsBase limit g base ⊎ ((may ≡ true) × IsBase limit g (Some (next_base prepared)))

-- The base is as before; or it is the new one, and all steps are done.
abbrev pub KeepsOrSwitches : ℕ → Prepared → WorkFolder → Remotes → WorkFolder → Remotes → Type 0
KeepsOrSwitches limit prepared f start g now =
    (base : Option Base) → IsBase limit f base
    → IsBase limit g base ⊎ (IsBase limit g (Some (next_base prepared)) × AreDone prepared.plan.steps.items start now)

-- The new listings are the base, and the one before stands under the -old names.
pub record IsNextSet (limit : ℕ) (before : Base) (prepared : Prepared) (g : WorkFolder) : Type 0 where
  pub base : HasBaseIn limit g Current (next_base prepared)
  pub old : ArePair limit g.one_old g.two_old before
  pub one_new : g.one_new ≡ Absent
  pub two_new : g.two_new ≡ Absent
