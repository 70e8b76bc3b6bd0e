use Rattle.std.proofs.Common.{◌∙◌}
use Rattle.bisync_text.specs.Quote.{quoted_byte}
use Rattle.bisync_report.proofs.LineLaws.{each_more, each_stop}
use Rattle.bisync_report.proofs.waiting.Waiting.put_escaped.Goals as goal

pub returns-in_err-put : goal.returns-in_err-put
returns-in_err-put g c =
    each_stop _ quoted_byte c.args.bytes.now c.loop-byte.byte-index 0 g.S.Sink.tells c.as_bytes.result.now c.args.self.now c.loop-byte.self c.put.new.self
    (g.S.Sink.state c.args.sink.now) (g.S.Sink.state c.loop-byte.sink) (g.S.Sink.state c.put.new.sink) _ c.from_residual.result c.from_residual.ensures.1
    c.loop-byte-test.true (c.as_bytes.ensures.bytes ∙ c.new.ensures) c.loop-byte.invariant c.in_err-put.ensures

pub loop-byte-preserved : goal.loop-byte-preserved
loop-byte-preserved g c =
    each_more quoted_byte c.args.bytes.now c.loop-byte.byte-index 0 g.S.Sink.tells c.as_bytes.result.now c.args.self.now c.loop-byte.self c.put.new.self
    (g.S.Sink.state c.args.sink.now) (g.S.Sink.state c.loop-byte.sink) (g.S.Sink.state c.put.new.sink)
    c.loop-byte-test.true (c.as_bytes.ensures.bytes ∙ c.new.ensures) c.loop-byte.invariant c.in_ok-put.ensures
