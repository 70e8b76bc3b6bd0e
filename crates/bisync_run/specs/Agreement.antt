-- Where both sides agree, before a run and after it.
use Rattle.std.specs.Prelude.{◌⊎◌, List, IsTrue, Some}
use Rattle.bisync_tree.specs.declared.entries.Compare.{Compare}
use Rattle.bisync_tree.specs.declared.options.Limits.{Limits}
use Rattle.bisync_tree.specs.declared.options.Prefer.{Prefer}
use Rattle.bisync_tree.specs.declared.steps.Given.{Given}
use Rattle.bisync_filter.specs.declared.rule_lists.Rule.{Rule}
use Rattle.bisync_model.specs.Entries.{AgreeWherePassing, entries_of}
use Rattle.bisync_device.specs.Remote.{RemoteState}
use Rattle.bisync_device.specs.WorkFolder.{WorkFolder}
use Rattle.bisync_opts.specs.declared.options.Opts.{Opts}
use Rattle.bisync_transfer.specs.StepTrees.{trees_in}
use Rattle.bisync_work.specs.Base.{Base, IsBase}
use Rattle.bisync_run.specs.Courses.{known_in, course_end, is_checked}
use Rattle.bisync_run.specs.OrdinaryRuns.{policy_in}
use Rattle.bisync_run.specs.ResyncRuns.{Matter, sides_in}
use Rattle.bisync_run.specs.Sides.{Sides, sides_of, resync_known, resync_end}
use Rattle.bisync_run.specs.Untouched.{Remotes}

-- the claim holds of the sides of every run, whatever fields are compared, whatever the filter rules and both remotes are
abbrev pub EachSides : (Sides → Type 0) → Type 0
EachSides Claim = (compare : Compare) (rules : List Rule) (one two : RemoteState) → Claim (sides_of compare rules one two)

-- the passing parts of the two listings of the base agree
abbrev pub BaseAgrees : Opts → Sides → Base → Type 0
BaseAgrees opts s base = AgreeWherePassing (known_in opts s base).policy (known_in opts s base).base

-- so do the passing parts of the two trees that a run from this base leaves, by these names of its losers
abbrev pub EndAgrees : Opts → Sides → Base → List Given → Type 0
EndAgrees opts s base names = AgreeWherePassing (known_in opts s base).policy (entries_of s.compare (course_end opts s base names))

-- and those that a resync by this mode leaves
abbrev pub ResyncAgrees : Prefer → Sides → Type 0
ResyncAgrees mode s = AgreeWherePassing (resync_known mode s).policy (entries_of s.compare (resync_end mode s))

-- # Of a whole run

-- A run was done. Where its new listings were compared, or the passing parts of its base agreed, those of both trees agree.
abbrev pub LeavesInSync : Opts → Limits → WorkFolder → Remotes → Remotes → Type 0
LeavesInSync opts limits f start now =
    (m : Matter opts f start) × (base : Base) × IsBase limits.listing f (Some base)
    × (IsTrue (is_checked opts.check_sync) ⊎ BaseAgrees opts (sides_in m) base → AgreeWherePassing (policy_in opts (sides_in m)) (entries_of (sides_in m).compare (trees_in now)))

-- A run was refused as out of sync. The passing parts of its base didn't agree.
abbrev pub WasApartBefore : Opts → Limits → WorkFolder → Remotes → Type 0
WasApartBefore opts limits f start = (m : Matter opts f start) × (base : Base) × IsBase limits.listing f (Some base) × (BaseAgrees opts (sides_in m) base → ⊥)

-- A resync was done. The passing parts of both trees agree.
abbrev pub LeavesResyncInSync : Prefer → Opts → WorkFolder → Remotes → Remotes → Type 0
LeavesResyncInSync mode opts f start now =
    (m : Matter opts f start) × AgreeWherePassing (resync_known mode (sides_in m)).policy (entries_of (sides_in m).compare (trees_in now))
