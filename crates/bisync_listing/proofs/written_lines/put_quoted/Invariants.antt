use Rattle.std.proofs.Common.{◌≡◌, ◌+◌, ◌*◌, ◌≤◌, ◌++◌, ◌∷◌, length, take}
use Rattle.std.specs.List.{flat_map}
use Rattle.bisync_text.specs.Quote.{quoted_byte}
use Rattle.bisync_listing.proofs.written_lines.put_quoted.Given as goal

abbrev pub invariant-loop-byte : goal.invariant-loop-byte
invariant-loop-byte l = record { written : l.line ≡ l.fn.line ++ 34 ∷ flat_map quoted_byte (take l.byte-index l.bytes); long : length l.line ≤ length l.fn.line + 1 + 4 * l.byte-index }
