use Rattle.std.proofs.Common.{◌≡◌, [], ◌∷◌, ◌++◌, sym, ◌∙◌, ap, subst}
use Rattle.std.proofs.lemmas.List.{append-nil}
use Rattle.std.specs.Prelude.{flat_map}
use Rattle.bisync_tree.specs.Rows.{keys, AreRising, IsAboveLast}
use Rattle.bisync_tree.specs.Walk.{listings}
use Rattle.bisync_model.specs.Resync.{resync_entry}
use Rattle.bisync_model.specs.Views.{resync_known_of}
use Rattle.bisync_plan.specs.CellRows.{row_of, resynced_in, resynced_row, resynced_rows}
use Rattle.bisync_plan.specs.Plans.{AreRowsOf}
use Rattle.bisync_plan.proofs.RowsOfCells.{rows_rising, above_from}
use Rattle.bisync_plan.proofs.ResyncRows.{resync_rows}
use Rattle.bisync_plan.proofs.resyncs.resync_listing.Goals as goal

pub push-requires : goal.push-requires
push-requires c =
    let row = resynced_row c.args.mode c.args.compare.now c.args.window c.args.side in
    let all : c.loop-cell.listing ++ ((c.in-Some.cell.path.now, c.in-Some-resynced.entry) ∷ flat_map row c.next.new.self) ≡ resynced_rows c.args.mode c.args.compare.now c.args.window c.args.side c.args.now1.now c.args.now2.now
    = ap (λ v. c.loop-cell.listing ++ (row_of c.in-Some.cell.path.now v ++ flat_map row c.next.new.self)) c.in-Some-resynced.ensures
    ∙ ap (λ w. c.loop-cell.listing ++ flat_map row w) (sym c.in-Some.ensures.cell) ∙ c.loop-cell.invariant in
    record {
      above = subst (λ p. IsAboveLast (keys c.loop-cell.listing) p) (sym c.in_ok-copy.ensures)
          (above_from c.loop-cell.listing (flat_map row c.next.new.self) c.in-Some.cell.path.now c.in-Some-resynced.entry
          (subst (λ rows. AreRising (keys rows)) (sym all) (rows_rising (listings [] [] c.args.now1.now c.args.now2.now) (resynced_in c.args.mode c.args.compare.now c.args.window c.args.side))));
    }

pub returns-clause-entries : goal.returns-clause-entries
returns-clause-entries c = λ passes window1 window2 w one two.
    let row = resynced_row c.args.mode c.args.compare.now c.args.window c.args.side in
    let all : c.loop-cell.listing ≡ resynced_rows c.args.mode c.args.compare.now c.args.window c.args.side c.args.now1.now c.args.now2.now
    = sym (append-nil c.loop-cell.listing) ∙ ap (λ w. c.loop-cell.listing ++ flat_map row w) (sym c.in_default.ensures.cell) ∙ c.loop-cell.invariant in
    subst (λ rows. AreRowsOf (resync_entry (resync_known_of c.args.mode c.args.compare.now passes window1 window2 c.args.now1.now c.args.now2.now)) c.args.side rows)
    (ap (λ v. resynced_rows c.args.mode c.args.compare.now v c.args.side c.args.now1.now c.args.now2.now) w ∙ sym all)
    (resync_rows c.args.mode c.args.compare.now passes window1 window2 c.args.now1.now c.args.now2.now one two c.args.side)
