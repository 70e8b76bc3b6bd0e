use Rattle.std.proofs.Common.{take, Ok}
use Rattle.bisync_report.specs.Parts.{parts_text}
use Rattle.bisync_report.specs.Waiting.{Puts}
use Rattle.bisync_report.proofs.waiting.Waiting.put_parts.Given as goal

abbrev pub invariant-loop-part : goal.invariant-loop-part
invariant-loop-part g l = Puts g.S.Sink.tells (parts_text (take l.part-index l.parts)) l.fn.self (g.S.Sink.state l.fn.sink) l.self (g.S.Sink.state l.sink) (Ok tt)
