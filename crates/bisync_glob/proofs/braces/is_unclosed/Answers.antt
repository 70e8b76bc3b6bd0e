use Rattle.std.proofs.Common.{◌∙◌, sym, ap, arith, inl, inr}
use Rattle.bisync_glob.specs.Faults.{piece_at}
use Rattle.bisync_glob.proofs.BraceLaws.{piece_of, below_next}
use Rattle.bisync_glob.proofs.braces.is_unclosed.Goals as goal

pub returns-in-Close-clause-closed : goal.returns-in-Close-clause-closed
returns-in-Close-clause-closed c = λ e none. none c.loop-i.i (omega arith) c.loop-i-test.true (piece_of c.args.tokens.now c.loop-i.i _ c.loop-i-test.true ∙ c.in-Close.is)

pub loop-i-preserved : goal.loop-i-preserved
loop-i-preserved c = λ j above below close. elim (below_next j c.loop-i.i below) [
  | inl lower ↦ c.loop-i.invariant j above lower close
  | inr same ↦ c.in_default.not-Close (sym (piece_of c.args.tokens.now c.loop-i.i _ c.loop-i-test.true) ∙ ap (λ n. piece_at c.args.tokens.now n) (sym same) ∙ close)
]
