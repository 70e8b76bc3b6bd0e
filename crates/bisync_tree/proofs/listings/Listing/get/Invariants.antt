use Rattle.std.proofs.Common.{◌-◌, ◌≤◌, length}
use Rattle.bisync_tree.specs.Rows.{keys}
use Rattle.bisync_tree.proofs.SearchLemmas.{AreBelow, AreBeyond}
use Rattle.bisync_tree.proofs.listings.Listing.get.Given as goal

abbrev pub invariant-loop-low : goal.invariant-loop-low
invariant-loop-low l = record {
  in_range : l.low ≤ l.high;
  within : l.high ≤ length l.rows;
  below : AreBelow (keys l.rows) l.low l.path;
  beyond : AreBeyond (keys l.rows) l.high l.path;
}

abbrev pub decreases-loop-low : goal.decreases-loop-low
decreases-loop-low l = l.high - l.low
