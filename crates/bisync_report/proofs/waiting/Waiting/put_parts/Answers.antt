use Rattle.std.proofs.Common.{refl}
use Rattle.bisync_report.specs.Parts.{part_text}
use Rattle.bisync_report.proofs.LineLaws.{each_more, each_stop}
use Rattle.bisync_report.proofs.waiting.Waiting.put_parts.Goals as goal

pub returns-in_err-put_part : goal.returns-in_err-put_part
returns-in_err-put_part g c =
    each_stop _ part_text c.args.parts.now c.loop-part.part-index _ g.S.Sink.tells _ c.args.self.now c.loop-part.self c.put_part.new.self
    (g.S.Sink.state c.args.sink.now) (g.S.Sink.state c.loop-part.sink) (g.S.Sink.state c.put_part.new.sink) _ c.from_residual.result c.from_residual.ensures.1
    c.loop-part-test.true refl c.loop-part.invariant c.in_err-put_part.ensures

pub loop-part-preserved : goal.loop-part-preserved
loop-part-preserved g c =
    each_more part_text c.args.parts.now c.loop-part.part-index _ g.S.Sink.tells _ c.args.self.now c.loop-part.self c.put_part.new.self
    (g.S.Sink.state c.args.sink.now) (g.S.Sink.state c.loop-part.sink) (g.S.Sink.state c.put_part.new.sink)
    c.loop-part-test.true refl c.loop-part.invariant c.in_ok-put_part.ensures
