use Rattle.std.proofs.Common.{◌≡◌, ◌++◌, length}
use Rattle.std.specs.Prelude.{flat_map}
use Rattle.bisync_plan.specs.CellRows.{resynced_row, resynced_rows}
use Rattle.bisync_plan.proofs.resyncs.resync_listing.Given as goal

abbrev pub invariant-loop-cell : goal.invariant-loop-cell
invariant-loop-cell l = l.listing ++ flat_map (resynced_row l.mode l.compare l.window l.side) l.walk ≡ resynced_rows l.mode l.compare l.window l.side l.now1 l.now2

abbrev pub decreases-loop-cell : goal.decreases-loop-cell
decreases-loop-cell l = length l.walk
