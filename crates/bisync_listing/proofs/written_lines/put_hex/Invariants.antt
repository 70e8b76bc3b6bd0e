use Rattle.std.proofs.Common.{◌≡◌, ◌+◌, ◌*◌, ◌++◌, length, take}
use Rattle.bisync_listing.specs.Spelling.{hex_digits}
use Rattle.bisync_listing.proofs.written_lines.put_hex.Given as goal

abbrev pub invariant-loop-byte : goal.invariant-loop-byte
invariant-loop-byte l = record { written : l.line ≡ l.fn.line ++ hex_digits (take l.byte-index l.bytes); long : length l.line ≡ length l.fn.line + 2 * l.byte-index }
