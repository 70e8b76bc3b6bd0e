use Rattle.std.proofs.Common.{take, Ok}
use Rattle.std.specs.List.{flat_map}
use Rattle.bisync_text.specs.Quote.{quoted_byte}
use Rattle.bisync_report.specs.Waiting.{Puts}
use Rattle.bisync_report.proofs.waiting.Waiting.put_escaped.Given as goal

abbrev pub invariant-loop-byte : goal.invariant-loop-byte
invariant-loop-byte g l = Puts g.S.Sink.tells (flat_map quoted_byte (take l.byte-index l.bytes)) l.fn.self (g.S.Sink.state l.fn.sink) l.self (g.S.Sink.state l.sink) (Ok tt)
