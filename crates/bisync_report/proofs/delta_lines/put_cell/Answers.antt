use Rattle.std.proofs.Common.{option_copied, Ok, Err, Option, subst}
use Rattle.bisync_tree.specs.declared.sides.Side.TheVariants.{One, Two}
use Rattle.bisync_table.specs.Delta.{delta_of}
use Rattle.bisync_table.specs.declared.deltas.Delta.{Delta}
use Rattle.bisync_report.specs.Lines.{delta_line}
use Rattle.bisync_report.specs.Waiting.{Puts}
use Rattle.bisync_report.proofs.WaitingLaws.{puts_then, puts_stop}
use Rattle.bisync_report.proofs.delta_lines.put_cell.Goals as goal

pub returns-in_err-put_delta : goal.returns-in_err-put_delta
returns-in_err-put_delta g c =
    let path = c.args.cell.now.path.now in
    let one = delta_of c.args.compare.now (option_copied c.args.cell.now.base1) (option_copied c.args.cell.now.now1) in
    let two = delta_of c.args.compare.now (option_copied c.args.cell.now.base2) (option_copied c.args.cell.now.now2) in
    let before = g.S.Sink.state c.args.sink.now in
    let after = g.S.Sink.state c.put_delta.new.sink in
    puts_stop _ g.S.Sink.tells (delta_line One path one) (delta_line Two path two) c.args.waiting.now c.put_delta.new.waiting before after _ c.from_residual.result c.from_residual.ensures.1
    (subst (λ (d : Option Delta). Puts g.S.Sink.tells (delta_line One path d) c.args.waiting.now before c.put_delta.new.waiting after (Err c.in_err-put_delta.field-0.0)) c.delta-one.ensures c.in_err-put_delta.ensures)

pub returns : goal.returns
returns g c =
    let path = c.args.cell.now.path.now in
    let one = delta_of c.args.compare.now (option_copied c.args.cell.now.base1) (option_copied c.args.cell.now.now1) in
    let two = delta_of c.args.compare.now (option_copied c.args.cell.now.base2) (option_copied c.args.cell.now.now2) in
    let before = g.S.Sink.state c.args.sink.now in
    let between = g.S.Sink.state c.put_delta.new.sink in
    let after = g.S.Sink.state c.put_delta-2.new.sink in
    puts_then g.S.Sink.tells (delta_line One path one) (delta_line Two path two) c.args.waiting.now c.put_delta.new.waiting c.put_delta-2.new.waiting before between after c.put_delta-2.result
    (subst (λ (d : Option Delta). Puts g.S.Sink.tells (delta_line One path d) c.args.waiting.now before c.put_delta.new.waiting between (Ok tt)) c.delta-one.ensures c.in_ok-put_delta.ensures)
    (subst (λ (d : Option Delta). Puts g.S.Sink.tells (delta_line Two path d) c.put_delta.new.waiting between c.put_delta-2.new.waiting after c.put_delta-2.result) c.delta-two.ensures c.put_delta-2.ensures)
