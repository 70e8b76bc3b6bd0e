use Rattle.std.proofs.Common.{ap}
use Rattle.std.specs.List.{flat_map}
use Rattle.bisync_tree.specs.Walk.{seen}
use Rattle.bisync_report.specs.Lines.{delta_lines}
use Rattle.bisync_report.proofs.LineLaws.{up_to-more, up_to-stop}
use Rattle.bisync_report.proofs.delta_lines.put_cells.Goals as goal

pub loop-cell-preserved : goal.loop-cell-preserved
loop-cell-preserved g c =
    let lines = delta_lines c.args.compare.now in
    up_to-more g.S.Sink.tells (flat_map lines c.args.walk.now) (lines (seen c.in-Some.cell)) (flat_map lines c.loop-cell.walk) (flat_map lines c.next.new.self)
    c.args.waiting.now c.loop-cell.waiting c.put_cell.new.waiting (g.S.Sink.state c.args.sink.now) (g.S.Sink.state c.loop-cell.sink) (g.S.Sink.state c.put_cell.new.sink)
    c.loop-cell.invariant (ap (flat_map lines) c.in-Some.ensures.cell) c.in_ok-put_cell.ensures

pub returns-in_err-put_cell : goal.returns-in_err-put_cell
returns-in_err-put_cell g c =
    let lines = delta_lines c.args.compare.now in
    up_to-stop _ g.S.Sink.tells (flat_map lines c.args.walk.now) (lines (seen c.in-Some.cell)) (flat_map lines c.loop-cell.walk) (flat_map lines c.next.new.self)
    c.args.waiting.now c.loop-cell.waiting c.put_cell.new.waiting (g.S.Sink.state c.args.sink.now) (g.S.Sink.state c.loop-cell.sink) (g.S.Sink.state c.put_cell.new.sink) _ c.from_residual.result
    c.from_residual.ensures.1 c.loop-cell.invariant (ap (flat_map lines) c.in-Some.ensures.cell) c.in_err-put_cell.ensures
