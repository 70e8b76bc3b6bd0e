use Rattle.std.proofs.Common.{◌≡◌, length}
use Rattle.bisync_plan.specs.CellRows.{first_apart}
use Rattle.bisync_plan.proofs.tested.first_apart.Given as goal

abbrev pub invariant-loop-cell : goal.invariant-loop-cell
invariant-loop-cell l = first_apart l.compare l.walk ≡ first_apart l.compare l.fn.walk

abbrev pub decreases-loop-cell : goal.decreases-loop-cell
decreases-loop-cell l = length l.walk
