use Rattle.std.proofs.Common.{◌≡◌, ◌*◌, ◌≤◌, take, sum_by}
use Rattle.std.specs.Char.{len_utf8}
use Rattle.bisync_glob.proofs.places.bytes_of.Given as goal

abbrev pub invariant-loop-c : goal.invariant-loop-c
invariant-loop-c l = record {
  bytes : l.bytes ≡ sum_by len_utf8 (take l.c-index l.text);
  bound : l.bytes ≤ 4 * l.c-index;
}
