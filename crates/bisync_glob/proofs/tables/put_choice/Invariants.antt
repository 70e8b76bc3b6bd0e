use Rattle.std.proofs.Common.{Bool, List, ℕ, take}
use Rattle.bisync_glob.specs.Deciding.{IsTable, any_then}
use Rattle.bisync_glob.proofs.tables.put_choice.Given as goal

abbrev pub invariant-loop-alternative : goal.invariant-loop-alternative
invariant-loop-alternative l = (q : List ℕ → Bool) → IsTable q l.text l.table → IsTable (any_then (take l.alternative-index l.alternatives) q) l.text l.union
