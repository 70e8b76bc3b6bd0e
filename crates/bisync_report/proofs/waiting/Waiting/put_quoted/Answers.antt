use Rattle.std.proofs.Common.{[], ◌∷◌, ◌++◌, refl}
use Rattle.std.specs.List.{flat_map}
use Rattle.bisync_text.specs.Quote.{quoted, quoted_byte}
use Rattle.bisync_report.proofs.WaitingLaws.{puts_then, puts_stop, puts_break}
use Rattle.bisync_report.proofs.waiting.Waiting.put_quoted.Goals as goal

pub returns-in_err-put : goal.returns-in_err-put
unfolding quoted
returns-in_err-put g c =
    puts_stop _ g.S.Sink.tells (34 ∷ []) (flat_map quoted_byte c.args.bytes.now ++ 34 ∷ []) c.args.self.now c.put.new.self
    (g.S.Sink.state c.args.sink.now) (g.S.Sink.state c.put.new.sink) _ c.from_residual.result c.from_residual.ensures.1 c.in_err-put.ensures

pub returns-in_err-put_escaped : goal.returns-in_err-put_escaped
unfolding quoted
returns-in_err-put_escaped g c =
    puts_break _ g.S.Sink.tells (quoted c.args.bytes.now) (34 ∷ []) (flat_map quoted_byte c.args.bytes.now) (34 ∷ []) c.args.self.now c.put.new.self c.put_escaped.new.self
    (g.S.Sink.state c.args.sink.now) (g.S.Sink.state c.put.new.sink) (g.S.Sink.state c.put_escaped.new.sink) _ c.from_residual-in_err-put_escaped.result
    c.from_residual-in_err-put_escaped.ensures.1 refl c.in_ok-put.ensures c.in_err-put_escaped.ensures

pub returns : goal.returns
unfolding quoted
returns g c =
    let before = g.S.Sink.state c.args.sink.now in
    let first = g.S.Sink.state c.put.new.sink in
    let second = g.S.Sink.state c.put_escaped.new.sink in
    let after = g.S.Sink.state c.put-2.new.sink in
    puts_then g.S.Sink.tells (34 ∷ []) (flat_map quoted_byte c.args.bytes.now ++ 34 ∷ []) c.args.self.now c.put.new.self c.put-2.new.self before first after c.put-2.result
    c.in_ok-put.ensures
    (puts_then g.S.Sink.tells (flat_map quoted_byte c.args.bytes.now) (34 ∷ []) c.put.new.self c.put_escaped.new.self c.put-2.new.self first second after c.put-2.result
    c.in_ok-put_escaped.ensures c.put-2.ensures)
