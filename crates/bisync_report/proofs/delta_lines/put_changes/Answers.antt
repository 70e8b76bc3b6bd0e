use Rattle.std.proofs.Common.{ℕ, List, ◌∙◌, ap, subst}
use Rattle.std.specs.List.{flat_map}
use Rattle.std.proofs.lemmas.List.Folds.{flat_map-map}
use Rattle.bisync_tree.specs.Walk.{cell_at, listings_of, paths_of}
use Rattle.bisync_report.specs.Lines.{delta_lines}
use Rattle.bisync_report.specs.Waiting.{Puts}
use Rattle.bisync_report.proofs.delta_lines.put_changes.Goals as goal

pub returns-in-Some : goal.returns-in-Some
returns-in-Some g c =
    let lines = delta_lines c.args.compare.now in
    let all = listings_of c.in-Some.view.now in
    rw c.in-Some.is
    (subst (λ (v : List ℕ). Puts g.S.Sink.tells v c.args.waiting.now (g.S.Sink.state c.args.sink.now) c.put_cells.new.waiting (g.S.Sink.state c.put_cells.new.sink) c.put_cells.result)
    (ap (flat_map lines) c.new.ensures.cells ∙ flat_map-map lines (cell_at all) (paths_of all)) c.put_cells.ensures)
