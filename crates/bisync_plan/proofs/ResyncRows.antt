-- The copies and the rows that a walk makes in a resync are those of its plan.
use Rattle.std.proofs.Common.{◌≡◌, Bool, true, false, cond, List, [], ◌∷◌, ◌++◌, map, Option, Some, None, refl, ◌∙◌, ap}
use Rattle.std.specs.Prelude.{flat_map}
use Rattle.bisync_tree.specs.Rows.{PathBytes, Rows, look}
use Rattle.bisync_tree.specs.Walk.{cell_at, listings}
use Rattle.bisync_tree.specs.declared.sides.Side.{Side}
use Rattle.bisync_tree.specs.declared.sides.Side.TheVariants.{One, Two}
use Rattle.bisync_tree.specs.declared.windows.Window.{Window}
use Rattle.bisync_tree.specs.declared.entries.Entry.{Entry}
use Rattle.bisync_tree.specs.declared.entries.Compare.{Compare}
use Rattle.bisync_tree.specs.declared.options.Prefer.{Prefer}
use Rattle.bisync_model.specs.Trees.{by_side}
use Rattle.bisync_model.specs.Resync.{source, source_at, resync_steps, entry_from, resync_entry}
use Rattle.bisync_model.specs.Views.{resync_known_of}
use Rattle.bisync_plan.specs.Conditions.{HasPassing}
use Rattle.bisync_plan.specs.CellSteps.{copied_from, copies_in, source_by, source_in}
use Rattle.bisync_plan.specs.CellRows.{resynced_by, resynced_in, resynced_rows}
use Rattle.bisync_plan.specs.Plans.{AreRowsOf}
use Rattle.bisync_plan.proofs.RowsOfCells.{IsAbsent, look_in_rows, rows_rising}
use Rattle.bisync_plan.proofs.FinalRows.{none_where_not}

module _ (mode : Prefer) (compare : Compare) (passes : PathBytes → Bool) (window1 window2 : Window) (now1 now2 : Rows) (one : HasPassing passes now1) (two : HasPassing passes now2) where
  source_is : (a b : Option Entry) → source_by mode compare a b ≡ source (resync_known_of mode compare passes window1 window2 now1 now2).policy a b
  source_is None None = refl
  source_is (Some x) None = refl
  source_is None (Some y) = refl
  source_is (Some x) (Some y) = refl

  absent1 : (p : PathBytes) → passes p ≡ false → look now1 p ≡ None
  absent1 p e = none_where_not (look now1 p) (passes p) (one.passing p) e

  absent2 : (p : PathBytes) → passes p ≡ false → look now2 p ≡ None
  absent2 p e = none_where_not (look now2 p) (passes p) (two.passing p) e

  source_seen : (p : PathBytes) → source_in mode compare (cell_at (listings [] [] now1 now2) p) ≡ source_at (resync_known_of mode compare passes window1 window2 now1 now2) p
  source_seen p = go (passes p) refl
    where
      go : (b : Bool) → passes p ≡ b → source_by mode compare (look now1 p) (look now2 p)
          ≡ cond b (source (resync_known_of mode compare passes window1 window2 now1 now2).policy (look now1 p) (look now2 p)) None
      go true e = source_is (look now1 p) (look now2 p)
      go false e = λ i. source_by mode compare (absent1 p e i) (absent2 p e i)

  copies_of : (p : PathBytes) (s : Option Side) → copied_from (cell_at (listings [] [] now1 now2) p) s ≡ resync_steps (resync_known_of mode compare passes window1 window2 now1 now2) p s
  copies_of p None = refl
  copies_of p (Some One) = refl
  copies_of p (Some Two) = refl

  pub copies_are : (ps : List PathBytes) → flat_map (copies_in mode compare) (map (cell_at (listings [] [] now1 now2)) ps)
      ≡ flat_map (λ p. resync_steps (resync_known_of mode compare passes window1 window2 now1 now2) p (source_at (resync_known_of mode compare passes window1 window2 now1 now2) p)) ps
  copies_are [] = refl
  copies_are (p ∷ ps) =
      λ i. (ap (copied_from (cell_at (listings [] [] now1 now2) p)) (source_seen p) ∙ copies_of p (source_at (resync_known_of mode compare passes window1 window2 now1 now2) p)) i ++ copies_are ps i

  row_absent : (w : Window) (side : Side) (p : PathBytes) → IsAbsent (listings [] [] now1 now2) p → resynced_in mode compare w side (cell_at (listings [] [] now1 now2) p) ≡ None
  row_absent w side p h = (λ i. resynced_in mode compare w side (record { path = p; base1 = None; base2 = None; now1 = h.now1 i; now2 = h.now2 i })) ∙ go side
    where
      go : (side : Side) → resynced_in mode compare w side (record { path = p; base1 = None; base2 = None; now1 = None; now2 = None }) ≡ None
      go One = refl
      go Two = refl

  row_from : (p : PathBytes) (side : Side) (s : Option Side) → resynced_by (cell_at (listings [] [] now1 now2) p) side (by_side window1 window2 side) s
      ≡ entry_from (resync_known_of mode compare passes window1 window2 now1 now2) s p side
  row_from p One None = refl
  row_from p Two None = refl
  row_from p side (Some One) = refl
  row_from p side (Some Two) = refl

  row_is : (p : PathBytes) (side : Side) → resynced_in mode compare (by_side window1 window2 side) side (cell_at (listings [] [] now1 now2) p)
      ≡ resync_entry (resync_known_of mode compare passes window1 window2 now1 now2) side p
  row_is p side = ap (resynced_by (cell_at (listings [] [] now1 now2) p) side (by_side window1 window2 side)) (source_seen p) ∙ row_from p side _ ∙ go (passes p) refl side
    where
      go : (b : Bool) → passes p ≡ b → (side : Side)
          → entry_from (resync_known_of mode compare passes window1 window2 now1 now2) (source_at (resync_known_of mode compare passes window1 window2 now1 now2) p) p side
          ≡ cond b (entry_from (resync_known_of mode compare passes window1 window2 now1 now2) (source_at (resync_known_of mode compare passes window1 window2 now1 now2) p) p side) None
      go true e side = refl
      go false e One = ap (λ b. entry_from (resync_known_of mode compare passes window1 window2 now1 now2) (cond b (source (resync_known_of mode compare passes window1 window2 now1 now2).policy (look now1 p) (look now2 p)) None) p One) e ∙ absent1 p e
      go false e Two = ap (λ b. entry_from (resync_known_of mode compare passes window1 window2 now1 now2) (cond b (source (resync_known_of mode compare passes window1 window2 now1 now2).policy (look now1 p) (look now2 p)) None) p Two) e ∙ absent2 p e

  pub resync_rows : (side : Side) → AreRowsOf (resync_entry (resync_known_of mode compare passes window1 window2 now1 now2)) side (resynced_rows mode compare (by_side window1 window2 side) side now1 now2)
  resync_rows side = record {
    rising = rows_rising (listings [] [] now1 now2) (resynced_in mode compare (by_side window1 window2 side) side);
    looks = λ p. look_in_rows (listings [] [] now1 now2) (resynced_in mode compare (by_side window1 window2 side) side) p (row_absent (by_side window1 window2 side) side p) ∙ row_is p side;
  }
