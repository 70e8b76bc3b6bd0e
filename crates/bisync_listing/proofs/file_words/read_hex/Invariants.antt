use Rattle.std.proofs.Common.{◌≡◌, ℕ, ◌<◌, length}
use Rattle.bisync_listing.proofs.HexLaws.{ShowsByte}
use Rattle.bisync_listing.proofs.file_words.read_hex.Given as goal

abbrev pub invariant-loop-i : goal.invariant-loop-i
invariant-loop-i l = record { long : length l.text ≡ 32; short : length l.bytes ≡ 16; shown : (k : ℕ) → k < l.i → ShowsByte l.text l.bytes k }
