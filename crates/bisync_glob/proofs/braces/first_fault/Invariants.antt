use Rattle.std.proofs.Common.{◌↔◌, IsTrue}
use Rattle.bisync_glob.specs.Faults.{NoFaultBelow, IsInside}
use Rattle.bisync_glob.proofs.braces.first_fault.Given as goal

abbrev pub invariant-loop-k : goal.invariant-loop-k
invariant-loop-k l = record {
  none : NoFaultBelow l.tokens l.k;
  inside : IsTrue l.inside ↔ IsInside l.tokens l.k;
}
