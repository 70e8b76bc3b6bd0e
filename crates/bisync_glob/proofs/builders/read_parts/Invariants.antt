use Rattle.std.proofs.Common.{◌↔◌, IsTrue, length, take}
use Rattle.bisync_glob.specs.Faults.{pieces, IsInside}
use Rattle.bisync_glob.specs.Building.{IsBuilt, has_braces}
use Rattle.bisync_glob.proofs.builders.read_parts.Given as goal

abbrev pub invariant-loop-token : goal.invariant-loop-token
invariant-loop-token l = record {
  built : IsBuilt l.builder (take (length l.yielded) (pieces l.fn.tokens.items));
  inside : IsTrue (has_braces l.builder.braces) ↔ IsInside l.fn.tokens.items (length l.yielded);
}
