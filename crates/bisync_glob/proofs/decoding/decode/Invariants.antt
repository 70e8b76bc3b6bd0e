use Rattle.std.proofs.Common.{◌≡◌, ◌+◌, ◌≤◌, ◌++◌, length, take}
use Rattle.std.specs.Str.{chars, IsUtf8}
use Rattle.std.specs.Str.Iter.{chars_rest}
use Rattle.bisync_glob.proofs.decoding.decode.Given as goal

abbrev pub invariant-loop-c : goal.invariant-loop-c
invariant-loop-c l = record {
  text : chars l.text ≡ take l.len l.room ++ chars (chars_rest l.c-iterator);
  room : l.len + length (chars_rest l.c-iterator) ≤ length l.room;
  utf8 : IsUtf8 (chars_rest l.c-iterator);
}
