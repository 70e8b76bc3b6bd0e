use Rattle.std.proofs.Common.{◌∙◌, sym, arith}
use Rattle.bisync_work.proofs.StampLaws.{five_unused, least_is_new}
use Rattle.bisync_work.proofs.stamps.Marks.new_stamp.Goals as goal

pub returns-then-not-has_stamp-clause-new : goal.returns-then-not-has_stamp-clause-new
returns-then-not-has_stamp-clause-new c limit f small are =
    least_is_new limit c.loop-stamp.stamp f c.args.self.now small are (omega arith) (sym c.has_stamp.ensures ∙ c.if-not-has_stamp.true) c.loop-stamp.invariant

pub returns-clause-new : goal.returns-clause-new
returns-clause-new c limit f small are =
    least_is_new limit 5 f c.args.self.now small are (omega arith)
    (five_unused c.args.self.now (λ m low high. c.loop-stamp.invariant m low (omega arith))) (λ m low high. c.loop-stamp.invariant m low (omega arith))
