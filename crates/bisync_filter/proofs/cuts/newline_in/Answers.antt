use Rattle.std.proofs.Common.{length, arith}
use Rattle.bisync_filter.proofs.ReadingLaws.{newline_place}
use Rattle.bisync_filter.proofs.cuts.newline_in.Goals as goal

pub returns-then-b-eq10 : goal.returns-then-b-eq10
returns-then-b-eq10 c = newline_place c.args.text.now c.loop-i.i (omega (arith, c.loop-i-test.true)) c.loop-i.invariant (λ lt. c.if-b-eq10.true)

pub returns : goal.returns
returns c = newline_place c.args.text.now (length c.args.text.now) (omega arith) (λ k lt. c.loop-i.invariant k (omega (arith, c.loop-i-test.false))) (λ lt. absurd (omega arith))
