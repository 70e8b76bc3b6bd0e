use Rattle.std.proofs.Common.{ap}
use Rattle.bisync_report.specs.Lines.{step_line}
use Rattle.bisync_report.proofs.LineLaws.{each_more, each_stop}
use Rattle.bisync_report.proofs.step_lines.put_steps.Goals as goal

pub returns-in_err-put_step : goal.returns-in_err-put_step
returns-in_err-put_step g c =
    each_stop _ step_line c.args.steps.now c.loop-step.step-index c.step-item.result g.S.Sink.tells (step_line c.step-item.result) c.args.waiting.now c.loop-step.waiting c.put_step.new.waiting
    (g.S.Sink.state c.args.sink.now) (g.S.Sink.state c.loop-step.sink) (g.S.Sink.state c.put_step.new.sink) _ c.from_residual.result c.from_residual.ensures.1
    c.loop-step-test.true (ap step_line c.step-item.is) c.loop-step.invariant c.in_err-put_step.ensures

pub loop-step-preserved : goal.loop-step-preserved
loop-step-preserved g c =
    each_more step_line c.args.steps.now c.loop-step.step-index c.step-item.result g.S.Sink.tells (step_line c.step-item.result) c.args.waiting.now c.loop-step.waiting c.put_step.new.waiting
    (g.S.Sink.state c.args.sink.now) (g.S.Sink.state c.loop-step.sink) (g.S.Sink.state c.put_step.new.sink)
    c.loop-step-test.true (ap step_line c.step-item.is) c.loop-step.invariant c.in_ok-put_step.ensures
