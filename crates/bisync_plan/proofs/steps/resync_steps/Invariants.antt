use Rattle.std.proofs.Common.{◌≡◌, ◌++◌, [], length}
use Rattle.std.specs.Prelude.{flat_map}
use Rattle.bisync_tree.specs.Walk.{cells, listings}
use Rattle.bisync_plan.specs.CellSteps.{copies_in}
use Rattle.bisync_plan.proofs.steps.resync_steps.Given as goal

abbrev pub invariant-loop-cell : goal.invariant-loop-cell
invariant-loop-cell l = l.steps.items ++ flat_map (copies_in l.mode l.compare) l.walk ≡ flat_map (copies_in l.mode l.compare) (cells (listings [] [] l.now1 l.now2))

abbrev pub decreases-loop-cell : goal.decreases-loop-cell
decreases-loop-cell l = length l.walk
