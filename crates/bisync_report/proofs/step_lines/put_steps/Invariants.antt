use Rattle.std.proofs.Common.{take, Ok}
use Rattle.bisync_report.specs.Lines.{steps_text}
use Rattle.bisync_report.specs.Waiting.{Puts}
use Rattle.bisync_report.proofs.step_lines.put_steps.Given as goal

abbrev pub invariant-loop-step : goal.invariant-loop-step
invariant-loop-step g l = Puts g.S.Sink.tells (steps_text (take l.step-index l.steps)) l.fn.waiting (g.S.Sink.state l.fn.sink) l.waiting (g.S.Sink.state l.sink) (Ok tt)
