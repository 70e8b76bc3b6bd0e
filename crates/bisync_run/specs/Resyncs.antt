-- What a resync leaves, at whatever moment it ends. The trees, the base and the report are this project's own; that a resync
-- makes both sides equal by their listings is after `--resync` of rclone's manual page "bisync".
use Rattle.std.specs.Prelude.{◌≡◌, ◌⊎◌, ◌+◌, ℕ, List, Option, Some, sum_by}
use Rattle.bisync_tree.specs.Tree.{Tree}
use Rattle.bisync_tree.specs.Rows.{listing_of}
use Rattle.bisync_tree.specs.declared.sides.Side.{Side}
use Rattle.bisync_tree.specs.declared.sides.Side.TheVariants.{One, Two}
use Rattle.bisync_tree.specs.declared.options.Limits.{Limits}
use Rattle.bisync_tree.specs.declared.options.Prefer.{Prefer}
use Rattle.bisync_model.specs.Trees.{SameTrees}
use Rattle.bisync_model.specs.Between.{IsMixOf}
use Rattle.bisync_model.specs.Resync.{resync_plan, resync_changes_at}
use Rattle.bisync_plan.specs.Plans.{header_of}
use Rattle.bisync_device.specs.WorkFolder.{Absent, WorkFolder}
use Rattle.bisync_transfer.specs.StepTrees.{trees_in}
use Rattle.bisync_work.specs.declared.bases.Pair.TheVariants.{Current}
use Rattle.bisync_work.specs.Base.{Base, HasBaseIn, IsBase, HasNoBase}
use Rattle.bisync_work.specs.Moves.{moved_over}
use Rattle.bisync_work.specs.Stamps.{IsNewStamp}
use Rattle.bisync_report.specs.Lines.{steps_text}
use Rattle.bisync_run.specs.CarryingOut.{but_carried}
use Rattle.bisync_run.specs.ResyncRefusals.{HasNoResyncRefusal}
use Rattle.bisync_run.specs.ResyncWriting.{stored}
use Rattle.bisync_run.specs.Sides.{Sides, resync_known, resync_paths, resync_end, start_of}
use Rattle.bisync_run.specs.Stepping.{IsPartDone}
use Rattle.bisync_run.specs.Untouched.{Remotes, AreUntouched}

-- the listings of these trees, with this stamp and the compared fields
abbrev pub base_of_trees : ℕ → Sides → Tree → Tree → Base
base_of_trees stamp s one two = record {
  header = header_of stamp s.compare;
  one = listing_of s.compare s.passes one;
  two = listing_of s.compare s.passes two;
}

-- Nothing refused the resync, both trees are what it is to leave, and the base is made of their listings, with the new stamp of
-- the folder f.
pub record IsMadeAnew (mode : Prefer) (limits : Limits) (f : WorkFolder) (s : Sides) (g : WorkFolder) (now : Remotes) : Type 0 where
  pub accepted : HasNoResyncRefusal mode limits f s
  pub trees : SameTrees (trees_in now) (resync_end mode s)
  pub stamp : ℕ
  pub new : IsNewStamp limits.listing f stamp
  pub base : IsBase limits.listing g (Some (base_of_trees stamp s (now One).tree (now Two).tree))

-- The base is the one before, and no side was touched; or there is none; or it was made anew.
abbrev pub LeavesBase : Prefer → Limits → WorkFolder → Sides → Remotes → WorkFolder → Remotes → Type 0
LeavesBase mode limits f s start g now =
    (base : Option Base) → IsBase limits.listing f base
    → (IsBase limits.listing g base × AreUntouched start now) ⊎ (HasNoBase limits.listing g ⊎ IsMadeAnew mode limits f s g now)

-- No side and no name was touched; or nothing refused the resync, each side has at each path what it had, or what it is to have,
-- and the first of its steps are done and counted.
abbrev pub LeavesTrees : Prefer → Limits → WorkFolder → Sides → Remotes → WorkFolder → Remotes → Type 0
LeavesTrees mode limits f s start g now =
    (AreUntouched start now × (g ≡ f))
    ⊎ (HasNoResyncRefusal mode limits f s × IsMixOf (start_of s) (resync_end mode s) (trees_in now) × IsPartDone (resync_plan (resync_known mode s) (resync_paths s)) start now)

-- the changes of a resync on a side
abbrev pub resync_changes : Prefer → Sides → Side → ℕ
resync_changes mode s side = sum_by (resync_changes_at (resync_known mode s) side) (resync_paths s)

-- the lines of a resync's plan
abbrev pub resync_lines : Prefer → Sides → List ℕ
resync_lines mode s = steps_text (resync_plan (resync_known mode s) (resync_paths s))

-- A resync was done. Both trees are what it is to leave, their listings are the base, under the first names, with the new
-- stamp of the folder f; the older listings stand under the -err names, the digest is stored, and the changes are counted.
pub record IsResynced (mode : Prefer) (limits : Limits) (f : WorkFolder) (s : Sides) (digest : Option (List ℕ)) (start : Remotes) (g : WorkFolder) (now : Remotes) : Type 0 where
  pub trees : SameTrees (trees_in now) (resync_end mode s)
  pub stamp : ℕ
  pub new : IsNewStamp limits.listing f stamp
  pub base : HasBaseIn limits.listing g Current (base_of_trees stamp s (now One).tree (now Two).tree)
  pub one_old : g.one_old ≡ Absent
  pub two_old : g.two_old ≡ Absent
  pub one_new : g.one_new ≡ Absent
  pub two_new : g.two_new ≡ Absent
  pub one_err : g.one_err ≡ moved_over f.one (moved_over f.one_old f.one_err)
  pub two_err : g.two_err ≡ moved_over f.two (moved_over f.two_old f.two_err)
  pub stored : g.filters_md5 ≡ stored digest f.filters_md5
  pub rest : but_carried g ≡ but_carried f
  pub changes : (side : Side) → (now side).changes ≡ (start side).changes + resync_changes mode s side

-- # What both sides alone tell

-- no side was touched; or each has at each path what it had, or what it is to have
abbrev pub LeavesMix : Prefer → Sides → Remotes → Remotes → Type 0
LeavesMix mode s start now = AreUntouched start now ⊎ IsMixOf (start_of s) (resync_end mode s) (trees_in now)

-- both trees are what the resync is to leave, and the changes are counted
pub record HasOutcome (mode : Prefer) (s : Sides) (start now : Remotes) : Type 0 where
  pub trees : SameTrees (trees_in now) (resync_end mode s)
  pub changes : (side : Side) → (now side).changes ≡ (start side).changes + resync_changes mode s side
