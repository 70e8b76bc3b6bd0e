use Rattle.std.proofs.Common.{[]}
use Rattle.bisync_report.proofs.WaitingLaws.{puts_then, puts_written}
use Rattle.bisync_report.proofs.waiting.Waiting.put.Goals as goal

pub returns : goal.returns
returns g c =
    let before = g.S.Sink.state c.args.sink.now in
    let between = g.S.Sink.state c.flush.new.sink in
    let after = g.S.Sink.state c.write_all.new.self in
    puts_then g.S.Sink.tells [] c.args.bytes.now c.args.self.now c.flush.new.self c.flush.new.self before between after c.write_all.result
    c.in_ok-flush.ensures.puts
    (puts_written g.S.Sink.tells c.args.bytes.now c.flush.new.self between after c.write_all.result c.in_ok-flush.ensures.empty c.write_all.ensures.cause c.write_all.ensures.bytes)
