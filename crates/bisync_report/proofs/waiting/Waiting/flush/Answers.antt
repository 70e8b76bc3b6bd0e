use Rattle.std.proofs.Common.{List, ℕ, Err, subst}
use Rattle.bisync_device.specs.Sink.{Adds}
use Rattle.bisync_report.proofs.WaitingLaws.{puts_lost}
use Rattle.bisync_report.proofs.waiting.Waiting.flush.Goals as goal

pub returns-in_err-write_all-clause-puts : goal.returns-in_err-write_all-clause-puts
returns-in_err-write_all-clause-puts g c =
    let added = subst (λ (v : List ℕ). Adds g.S.Sink.tells v (g.S.Sink.state c.args.sink.now) (g.S.Sink.state c.write_all.new.self) (Err c.in_err-write_all.field-0.0)) c.as_bytes.ensures c.in_err-write_all.ensures.bytes in
    puts_lost _ g.S.Sink.tells c.args.self.now c.args.self.now (g.S.Sink.state c.args.sink.now) (g.S.Sink.state c.write_all.new.self) c.in_err-write_all.field-0.0 c.from_residual.result
    c.from_residual.ensures.1 c.in_err-write_all.ensures.cause added
