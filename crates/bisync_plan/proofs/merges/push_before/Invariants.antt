use Rattle.std.proofs.Common.{◌≡◌, ◌++◌, length}
use Rattle.bisync_plan.specs.MergedRows.{rows_before, rows_from}
use Rattle.bisync_plan.proofs.merges.push_before.Given as goal

abbrev pub invariant-loop-first : goal.invariant-loop-first
invariant-loop-first l = record {
  listing : l.listing ++ rows_before l.path l.rows.entries ≡ l.fn.listing ++ rows_before l.path l.fn.rows.entries;
  rest : rows_from l.path l.rows.entries ≡ rows_from l.path l.fn.rows.entries;
}

abbrev pub decreases-loop-first : goal.decreases-loop-first
decreases-loop-first l = length l.rows.entries
