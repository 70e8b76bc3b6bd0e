use Rattle.std.proofs.Common.{◌≡◌, ◌++◌, drop}
use Rattle.bisync_tree.specs.Rows.{passing}
use Rattle.bisync_filter.specs.Passing.{rules_pass}
use Rattle.bisync_plan.proofs.listed_views.part.Given as goal

abbrev pub invariant-loop-i : goal.invariant-loop-i
invariant-loop-i l = l.part ++ passing (rules_pass l.rules) (drop l.i l.listing) ≡ passing (rules_pass l.rules) l.listing
