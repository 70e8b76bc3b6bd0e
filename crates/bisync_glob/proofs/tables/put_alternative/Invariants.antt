use Rattle.std.proofs.Common.{Bool, List, ℕ, drop}
use Rattle.bisync_glob.specs.Deciding.{IsTable, IsBlank, alternative_then}
use Rattle.bisync_glob.proofs.tables.put_alternative.Given as goal

abbrev pub invariant-loop-k : goal.invariant-loop-k
invariant-loop-k l = record {
  table : (q : List ℕ → Bool) → IsTable q l.text l.initial.table → IsTable (alternative_then (drop l.k l.parts) q) l.text l.table;
  low : IsBlank l.table l.low;
}
