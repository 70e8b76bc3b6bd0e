use Rattle.std.proofs.Common.{drop}
use Rattle.bisync_glob.specs.Deciding.{IsTable, IsBlank, parts_match}
use Rattle.bisync_glob.proofs.tables.put_parts.Given as goal

abbrev pub invariant-loop-k : goal.invariant-loop-k
invariant-loop-k l = record {
  table : IsTable (parts_match (drop l.k l.parts)) l.text l.table;
  low : IsBlank l.table l.low;
}
