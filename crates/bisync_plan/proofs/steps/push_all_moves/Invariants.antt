use Rattle.std.proofs.Common.{◌≡◌, ◌++◌, length}
use Rattle.bisync_tree.specs.Walk.{cells, listings_of}
use Rattle.bisync_plan.specs.CellSteps.{moves_with}
use Rattle.bisync_plan.proofs.steps.push_all_moves.Given as goal

abbrev pub invariant-loop-cell : goal.invariant-loop-cell
invariant-loop-cell l = l.steps.items ++ moves_with l.conflict l.compare l.walk l.names ≡ l.fn.steps.items ++ moves_with l.conflict l.compare (cells (listings_of l.view)) l.given

abbrev pub decreases-loop-cell : goal.decreases-loop-cell
decreases-loop-cell l = length l.walk
