use Rattle.std.proofs.Common.{◌≡◌, ◌++◌, length}
use Rattle.std.specs.Prelude.{flat_map}
use Rattle.bisync_plan.specs.CellRows.{kept_row, kept_rows}
use Rattle.bisync_plan.specs.MergedRows.{merged}
use Rattle.bisync_plan.proofs.finals.merged_listing.Given as goal

abbrev pub invariant-loop-cell : goal.invariant-loop-cell
invariant-loop-cell l = l.listing ++ merged l.named.entries (flat_map (kept_row l.conflict l.compare l.window l.side) l.walk)
    ≡ merged l.fn.named.entries (kept_rows l.conflict l.compare l.window l.side l.view)

abbrev pub decreases-loop-cell : goal.decreases-loop-cell
decreases-loop-cell l = length l.walk
