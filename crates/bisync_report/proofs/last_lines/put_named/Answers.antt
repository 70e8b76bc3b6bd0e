use Rattle.std.proofs.Common.{[], ◌∷◌, ◌++◌, codes, refl}
use Rattle.bisync_report.specs.Parts.{parts_text}
use Rattle.bisync_report.specs.LastLine.{named_line}
use Rattle.bisync_report.proofs.WaitingLaws.{puts_then, puts_stop, puts_break}
use Rattle.bisync_report.proofs.last_lines.put_named.Goals as goal

pub returns-in_err-put : goal.returns-in_err-put
returns-in_err-put g c =
    puts_stop _ g.S.Sink.tells (codes "bisync: ") (parts_text c.args.parts.now ++ 10 ∷ []) c.args.waiting.now c.put.new.self
    (g.S.Sink.state c.args.sink.now) (g.S.Sink.state c.put.new.sink) _ c.from_residual.result c.from_residual.ensures.1 c.in_err-put.ensures

pub returns-in_err-put_parts : goal.returns-in_err-put_parts
returns-in_err-put_parts g c =
    puts_break _ g.S.Sink.tells (named_line (parts_text c.args.parts.now)) (codes "bisync: ") (parts_text c.args.parts.now) (10 ∷ []) c.args.waiting.now c.put.new.self c.put_parts.new.self
    (g.S.Sink.state c.args.sink.now) (g.S.Sink.state c.put.new.sink) (g.S.Sink.state c.put_parts.new.sink) _ c.from_residual-in_err-put_parts.result
    c.from_residual-in_err-put_parts.ensures.1 refl c.in_ok-put.ensures c.in_err-put_parts.ensures

pub returns : goal.returns
returns g c =
    let text = parts_text c.args.parts.now in
    let before = g.S.Sink.state c.args.sink.now in
    let first = g.S.Sink.state c.put.new.sink in
    let second = g.S.Sink.state c.put_parts.new.sink in
    let after = g.S.Sink.state c.put-2.new.sink in
    puts_then g.S.Sink.tells (codes "bisync: ") (text ++ 10 ∷ []) c.args.waiting.now c.put.new.self c.put-2.new.self before first after c.put-2.result
    c.in_ok-put.ensures
    (puts_then g.S.Sink.tells text (10 ∷ []) c.put.new.self c.put_parts.new.self c.put-2.new.self first second after c.put-2.result c.in_ok-put_parts.ensures c.put-2.ensures)
