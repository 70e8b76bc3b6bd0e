use Rattle.bisync_glob.specs.Deciding.{IsBlank}
use Rattle.bisync_glob.proofs.tables.first_set.Given as goal

abbrev pub invariant-loop-k : goal.invariant-loop-k
invariant-loop-k l = IsBlank l.table l.k
