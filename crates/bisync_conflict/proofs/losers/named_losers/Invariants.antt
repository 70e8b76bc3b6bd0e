use Rattle.std.proofs.Common.{◌≡◌, ◌++◌, length}
use Rattle.std.specs.Prelude.{flat_map}
use Rattle.bisync_tree.specs.Walk.{cells, listings_of}
use Rattle.bisync_conflict.specs.Cells.{losers_in}
use Rattle.bisync_conflict.proofs.losers.named_losers.Given as goal

abbrev pub invariant-loop-cell : goal.invariant-loop-cell
invariant-loop-cell l = l.losers.items ++ flat_map (losers_in l.conflict l.compare) l.walk ≡ flat_map (losers_in l.conflict l.compare) (cells (listings_of l.view))

abbrev pub decreases-loop-cell : goal.decreases-loop-cell
decreases-loop-cell l = length l.walk
