use Rattle.std.proofs.Common.{◌≢◌, ◌<◌, ℕ}
use Rattle.bisync_glob.specs.declared.tokens.Piece.TheVariants.{Close}
use Rattle.bisync_glob.specs.Faults.{piece_at}
use Rattle.bisync_glob.proofs.braces.is_unclosed.Given as goal

abbrev pub invariant-loop-i : goal.invariant-loop-i
invariant-loop-i l = (j : ℕ) → l.k < j → j < l.i → piece_at l.tokens j ≢ Close
