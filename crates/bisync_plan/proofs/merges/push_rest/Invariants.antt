use Rattle.std.proofs.Common.{◌≡◌, ◌++◌, length}
use Rattle.bisync_plan.proofs.merges.push_rest.Given as goal

abbrev pub invariant-loop-first : goal.invariant-loop-first
invariant-loop-first l = l.listing ++ l.rows.entries ≡ l.fn.listing ++ l.fn.rows.entries

abbrev pub decreases-loop-first : goal.decreases-loop-first
decreases-loop-first l = length l.rows.entries
