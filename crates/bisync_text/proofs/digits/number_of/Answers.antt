use Rattle.std.proofs.Common.{◌<◌, ◌⊎◌, inl, inr, get_or, sym, ◌∙◌, arith}
use Rattle.bisync_text.proofs.DigitLaws.{value_more, value_stops, value_ends, small_more, small_fits}
use Rattle.bisync_text.proofs.digits.number_of.Goals as goal
use Rattle.bisync_text.proofs.digits.number_of.Goals.{then-c-lt48-via-then-c-lt48, then-c-lt48-via-else-c-lt48+then-c-gt57}

pub returns-then-c-lt48 : goal.returns-then-c-lt48
returns-then-c-lt48 c =
    let off : (get_or c.args.digits.now c.loop-c.c-index 0 < 48) ⊎ (57 < get_or c.args.digits.now c.loop-c.c-index 0) =
    elim c.then-c-lt48.branch [ then-c-lt48-via-then-c-lt48 w ↦ inl w.if-c-lt48.true | then-c-lt48-via-else-c-lt48+then-c-gt57 w ↦ inr w.if-c-gt57.true ] in
    sym (value_stops c.loop-c.n c.args.digits.now c.loop-c.c-index c.loop-c-test.true off) ∙ c.loop-c.invariant.so_far

pub overflow_mul-n : goal.overflow_mul-n
overflow_mul-n c = omega (arith, small_fits c.loop-c.n c.loop-c.c-index c.loop-c.invariant.small)

pub overflow_add-n : goal.overflow_add-n
overflow_add-n c = omega (arith, small_fits c.loop-c.n c.loop-c.c-index c.loop-c.invariant.small)

pub loop-c-preserved : goal.loop-c-preserved
loop-c-preserved c = record {
  so_far = sym (value_more c.loop-c.n c.args.digits.now c.loop-c.c-index c.loop-c-test.true c.if-c-lt48.false c.if-c-gt57.false) ∙ c.loop-c.invariant.so_far;
  small = small_more c.loop-c.n c.loop-c.c-index _ c.loop-c.invariant.small c.if-c-gt57.false;
}

pub returns : goal.returns
returns c = sym (value_ends c.loop-c.n c.args.digits.now c.loop-c.c-index c.loop-c-test.false) ∙ c.loop-c.invariant.so_far
