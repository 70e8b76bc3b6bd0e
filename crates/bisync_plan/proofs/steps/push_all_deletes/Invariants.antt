use Rattle.std.proofs.Common.{◌≡◌, ◌++◌, length}
use Rattle.std.specs.Prelude.{flat_map}
use Rattle.bisync_tree.specs.Walk.{cells, listings_of}
use Rattle.bisync_plan.specs.CellSteps.{deletes_in}
use Rattle.bisync_plan.proofs.steps.push_all_deletes.Given as goal

abbrev pub invariant-loop-cell : goal.invariant-loop-cell
invariant-loop-cell l = l.steps.items ++ flat_map (deletes_in l.compare) l.walk ≡ l.fn.steps.items ++ flat_map (deletes_in l.compare) (cells (listings_of l.view))

abbrev pub decreases-loop-cell : goal.decreases-loop-cell
decreases-loop-cell l = length l.walk
