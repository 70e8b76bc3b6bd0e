use Rattle.std.proofs.Common.{◌≡◌, ◌++◌, drop}
use Rattle.bisync_tree.specs.Rows.{keys}
use Rattle.bisync_plan.proofs.listed_views.names.Given as goal

abbrev pub invariant-loop-i : goal.invariant-loop-i
invariant-loop-i l = l.names ++ drop l.i (keys l.listing) ≡ keys l.listing
