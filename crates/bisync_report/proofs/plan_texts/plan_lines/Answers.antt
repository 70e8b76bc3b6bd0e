use Rattle.std.proofs.Common.{option_copied}
use Rattle.bisync_report.specs.Lines.{plan_text}
use Rattle.bisync_report.proofs.WaitingLaws.{flushed, unflushed}
use Rattle.bisync_report.proofs.plan_texts.plan_lines.Goals as goal

pub returns-in_err-put_plan-clause-bytes : goal.returns-in_err-put_plan-clause-bytes
returns-in_err-put_plan-clause-bytes g c =
    (unflushed _ g.S.Sink.tells (plan_text (option_copied c.args.view) c.args.compare.now c.args.plan.now) c.new-waiting.result c.put_plan.new.waiting
    (g.S.Sink.state c.args.sink.now) (g.S.Sink.state c.put_plan.new.sink) _ c.from_residual.result c.from_residual.ensures.1 c.new-waiting.ensures c.in_err-put_plan.ensures).1

pub returns-clause-bytes : goal.returns-clause-bytes
returns-clause-bytes g c =
    (flushed g.S.Sink.tells (plan_text (option_copied c.args.view) c.args.compare.now c.args.plan.now) c.new-waiting.result c.put_plan.new.waiting c.flush.new.self
    (g.S.Sink.state c.args.sink.now) (g.S.Sink.state c.put_plan.new.sink) (g.S.Sink.state c.flush.new.sink) c.flush.result
    c.new-waiting.ensures c.in_ok-put_plan.ensures c.flush.ensures.puts c.flush.ensures.empty).1
