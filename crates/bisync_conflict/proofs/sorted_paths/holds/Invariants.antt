use Rattle.std.proofs.Common.{◌-◌, ◌≤◌, length}
use Rattle.bisync_tree.proofs.SearchLemmas.{AreBelow, AreBeyond}
use Rattle.bisync_conflict.proofs.sorted_paths.holds.Given as goal

abbrev pub invariant-loop-low : goal.invariant-loop-low
invariant-loop-low g l = record {
  in_range : l.low ≤ l.high;
  within : l.high ≤ length (g.S.SortedPaths.paths l.sorted);
  below : AreBelow (g.S.SortedPaths.paths l.sorted) l.low l.text;
  beyond : AreBeyond (g.S.SortedPaths.paths l.sorted) l.high l.text;
}

abbrev pub decreases-loop-low : goal.decreases-loop-low
decreases-loop-low g l = l.high - l.low
