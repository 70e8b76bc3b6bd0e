-- What carrying out the plan of a resync leaves, whatever call fails.
use Rattle.std.specs.Prelude.{◌≡◌, ◌⊎◌, ◌≤◌, ℕ, Bool, true, List, length, Option, Some}
use Rattle.bisync_listing.specs.Spelling.{listing_text}
use Rattle.bisync_plan.specs.Plans.{header_of}
use Rattle.bisync_device.specs.WorkFolder.{Absent, WorkFolder}
use Rattle.bisync_transfer.specs.StepTrees.{AreDone}
use Rattle.bisync_work.specs.declared.bases.Pair.TheVariants.{Current}
use Rattle.bisync_work.specs.Base.{Base, HasBaseIn, IsBase, HasNoBase}
use Rattle.bisync_work.specs.Moves.{moved_over}
use Rattle.bisync_run.specs.ResyncWriting.{but_rewritten, stored, next_base}
use Rattle.bisync_run.specs.Untouched.{Remotes, AreUntouched}
use Rattle.bisync_run.specs.declared.prepared.Prepared.{Prepared}

-- both new listings are within the limit
pub record AreWithin (limit : ℕ) (prepared : Prepared) : Type 0 where
  pub one : length (listing_text (header_of prepared.stamp prepared.compare) prepared.plan.final1) ≤ limit
  pub two : length (listing_text (header_of prepared.stamp prepared.compare) prepared.plan.final2) ≤ limit

-- The base is the one before, or there is none or, where it may be, it is the new one, as the work folder alone tells it.
abbrev pub LosesOrNext : ℕ → Prepared → Bool → WorkFolder → WorkFolder → Type 0
LosesOrNext limit prepared may f g =
    (base : Option Base) → IsBase limit f base
    → IsBase limit g base ⊎ (HasNoBase limit g ⊎ ((may ≡ true) × IsBase limit g (Some (next_base prepared))))

-- The base is the one before, and no side was touched; or there is none; or it is the new one, and all steps are done.
abbrev pub LeavesOneBase : ℕ → Prepared → WorkFolder → Remotes → WorkFolder → Remotes → Type 0
LeavesOneBase limit prepared f start g now =
    (base : Option Base) → IsBase limit f base
    → (IsBase limit g base × AreUntouched start now)
    ⊎ (HasNoBase limit g
    ⊎ (IsBase limit g (Some (next_base prepared)) × AreDone prepared.plan.steps.items start now))

-- all but the names of listings, the stored digest and the lock
abbrev pub but_carried : WorkFolder → WorkFolder
but_carried f = record (but_rewritten f) { lock = Absent; lock_new = Absent }

-- The old listings stand under the -err names, none under the -old and the -new names, and the digest is stored.
pub record AreSetAside (digest : Option (List ℕ)) (f g : WorkFolder) : Type 0 where
  pub one_old : g.one_old ≡ Absent
  pub two_old : g.two_old ≡ Absent
  pub one_new : g.one_new ≡ Absent
  pub two_new : g.two_new ≡ Absent
  pub one_err : g.one_err ≡ moved_over f.one (moved_over f.one_old f.one_err)
  pub two_err : g.two_err ≡ moved_over f.two (moved_over f.two_old f.two_err)
  pub stored : g.filters_md5 ≡ stored digest f.filters_md5

-- The new listings are the base. The old ones stand under the -err names, and the digest is stored.
pub record AreCarriedOut (limit : ℕ) (prepared : Prepared) (digest : Option (List ℕ)) (f g : WorkFolder) : Type 0 where
  pub base : HasBaseIn limit g Current (next_base prepared)
  pub one_old : g.one_old ≡ Absent
  pub two_old : g.two_old ≡ Absent
  pub one_new : g.one_new ≡ Absent
  pub two_new : g.two_new ≡ Absent
  pub one_err : g.one_err ≡ moved_over f.one (moved_over f.one_old f.one_err)
  pub two_err : g.two_err ≡ moved_over f.two (moved_over f.two_old f.two_err)
  pub stored : g.filters_md5 ≡ stored digest f.filters_md5
