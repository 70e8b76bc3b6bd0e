-- The kept rows with the named rows are the final listing.
use Rattle.std.proofs.Common.{◌≡◌, Bool, true, false, cond, List, [], Option, Some, None, refl, sym, ◌∙◌, ap}
use Rattle.std.specs.Prelude.{is_some}
use Rattle.bisync_tree.specs.Same.{class}
use Rattle.bisync_tree.specs.Rows.{PathBytes, Rows, keys, look, is_among, AreRising}
use Rattle.bisync_tree.specs.Walk.{cell_at, paths_of, listings_of}
use Rattle.bisync_tree.specs.declared.sides.Side.{Side}
use Rattle.bisync_tree.specs.declared.sides.Side.TheVariants.{One, Two}
use Rattle.bisync_tree.specs.declared.windows.Window.{Window}
use Rattle.bisync_tree.specs.declared.entries.Entry.{Entry}
use Rattle.bisync_tree.specs.declared.entries.Compare.{Compare}
use Rattle.bisync_tree.specs.declared.options.ConflictRule.{ConflictRule}
use Rattle.bisync_tree.specs.declared.classes.Rule.{Rule}
use Rattle.bisync_tree.specs.declared.classes.Rule.TheVariants.{Nothing, Copy as CopyFrom, Delete as DeleteOn, Conflict}
use Rattle.bisync_tree.specs.declared.steps.Given.{Given}
use Rattle.bisync_tree.specs.declared.views.View.{View}
use Rattle.bisync_model.specs.Trees.{by_side}
use Rattle.bisync_model.specs.Table.{table, rule_at}
use Rattle.bisync_model.specs.Conflict.{winner_at}
use Rattle.bisync_model.specs.Names.{is_held, AreNames, loser_named}
use Rattle.bisync_model.specs.Finals.{entry_by_rule, entry_by_name, carried_entry, settled_entry, final_entry}
use Rattle.bisync_model.specs.Views.{known_of, IsNarrowed, IsComplete}
use Rattle.bisync_model.proofs.PlaceTests.{or_false_left, or_false_right}
use Rattle.bisync_table.specs.Cells.{rule_in}
use Rattle.bisync_plan.specs.CellRows.{settled_in, kept_by, kept_in, kept_rows, either}
use Rattle.bisync_plan.specs.MergedRows.{merged}
use Rattle.bisync_plan.specs.Plans.{AreRowsOf}
use Rattle.bisync_plan.proofs.RowsOfCells.{IsAbsent, look_in_rows, rows_rising, none_from}
use Rattle.bisync_plan.proofs.MergedRows.{ArePart, either_none, look_merged, merged_rising}
use Rattle.bisync_plan.proofs.NamedRows.{named_by, named_free}

pub none_where_not : (now : Option Entry) (b : Bool) → ((e : Entry) → now ≡ Some e → b ≡ true) → b ≡ false → now ≡ None
none_where_not None b h e = refl
none_where_not (Some x) b h e = let t = h x refl in cc

module _ (conflict : ConflictRule) (compare : Compare) (passes : PathBytes → Bool) (window1 window2 : Window) (view : View)
    (rule_seen : (p : PathBytes) → rule_in compare (cell_at (listings_of view) p) ≡ rule_at (known_of conflict compare passes window1 window2 view) p) where
  kept_rule : (p : PathBytes) (side : Side) (r : Rule) → kept_by (cell_at (listings_of view) p) side (by_side window1 window2 side) (winner_at (known_of conflict compare passes window1 window2 view) p) r
      ≡ entry_by_rule (known_of conflict compare passes window1 window2 view) r p side
  kept_rule p One Nothing = refl
  kept_rule p Two Nothing = refl
  kept_rule p side (DeleteOn on) = refl
  kept_rule p side (CopyFrom One) = refl
  kept_rule p side (CopyFrom Two) = refl
  kept_rule p side Conflict = go (winner_at (known_of conflict compare passes window1 window2 view) p)
    where
      go : (w : Option Side) → settled_in (cell_at (listings_of view) p) side (by_side window1 window2 side) w ≡ settled_entry (known_of conflict compare passes window1 window2 view) w p side
      go None = refl
      go (Some One) = refl
      go (Some Two) = refl

  kept_is : (p : PathBytes) (side : Side) → kept_in conflict compare (by_side window1 window2 side) side (cell_at (listings_of view) p)
      ≡ entry_by_rule (known_of conflict compare passes window1 window2 view) (rule_at (known_of conflict compare passes window1 window2 view) p) p side
  kept_is p side =
      ap (kept_by (cell_at (listings_of view) p) side (by_side window1 window2 side) (winner_at (known_of conflict compare passes window1 window2 view) p)) (rule_seen p)
      ∙ kept_rule p side (rule_at (known_of conflict compare passes window1 window2 view) p)

  kept_absent : (w : Window) (side : Side) (p : PathBytes) → IsAbsent (listings_of view) p → kept_in conflict compare w side (cell_at (listings_of view) p) ≡ None
  kept_absent w side p h = (λ i. kept_in conflict compare w side (record { path = p; base1 = h.base1 i; base2 = h.base2 i; now1 = h.now1 i; now2 = h.now2 i })) ∙ go side
    where
      go : (side : Side) → kept_in conflict compare w side (record { path = p; base1 = None; base2 = None; now1 = None; now2 = None }) ≡ None
      go One = refl
      go Two = refl

  -- nothing is kept where nothing is
  kept_nothing : (p : PathBytes) (side : Side) → look view.prior1 p ≡ None → look view.prior2 p ≡ None → look view.now1 p ≡ None → look view.now2 p ≡ None
      → entry_by_rule (known_of conflict compare passes window1 window2 view) (rule_at (known_of conflict compare passes window1 window2 view) p) p side ≡ None
  kept_nothing p side a b c d = ap (λ r. entry_by_rule (known_of conflict compare passes window1 window2 view) r p side) rule ∙ now side
    where
      go : (t : Bool) → cond t (table compare (class compare (look view.prior1 p) (look view.now1 p)) (class compare (look view.prior2 p) (look view.now2 p)) (look view.now1 p) (look view.now2 p)) Nothing ≡ Nothing
      go false = refl
      go true = λ i. table compare (class compare (a i) (c i)) (class compare (b i) (d i)) (c i) (d i)

      rule : rule_at (known_of conflict compare passes window1 window2 view) p ≡ Nothing
      rule = go (passes p)

      now : (side : Side) → by_side (look view.now1) (look view.now2) side p ≡ None
      now One = c
      now Two = d

  pub kept_look : (side : Side) (p : PathBytes) → look (kept_rows conflict compare (by_side window1 window2 side) side view) p
      ≡ entry_by_rule (known_of conflict compare passes window1 window2 view) (rule_at (known_of conflict compare passes window1 window2 view) p) p side
  kept_look side p =
      look_in_rows (listings_of view) (kept_in conflict compare (by_side window1 window2 side) side) p (kept_absent (by_side window1 window2 side) side p) ∙ kept_is p side

  module _ (narrow : IsNarrowed passes view) (complete : IsComplete view) (names : List Given) (side : Side)
      (are : AreNames (known_of conflict compare passes window1 window2 view) (paths_of (listings_of view)) names) (named : Rows) (rising : AreRising (keys named))
      (looks : (p : PathBytes) → look named p ≡ cond (passes p) (named_by (known_of conflict compare passes window1 window2 view) (loser_named names p) side) None) where
    now1 : (p : PathBytes) → is_among p view.names1 ≡ false → look view.now1 p ≡ None
    now1 p h = none_where_not (look view.now1 p) (is_among p view.names1) (complete.names1 p) h

    now2 : (p : PathBytes) → is_among p view.names2 ≡ false → look view.now2 p ≡ None
    now2 p h = none_where_not (look view.now2 p) (is_among p view.names2) (complete.names2 p) h

    free : (p : PathBytes) → is_held (known_of conflict compare passes window1 window2 view) [] p ≡ false
        → entry_by_rule (known_of conflict compare passes window1 window2 view) (rule_at (known_of conflict compare passes window1 window2 view) p) p side ≡ None
    free p h =
        let h2 = or_false_right (is_among p view.names1) _ h in
        let h3 = or_false_right (is_among p view.names2) _ h2 in
        let h4 = or_false_right (is_some (look view.prior1 p)) _ h3 in
        kept_nothing p side (none_from (look view.prior1 p) (or_false_left (is_some (look view.prior1 p)) _ h3)) (none_from (look view.prior2 p) (or_false_left (is_some (look view.prior2 p)) _ h4))
        (now1 p (or_false_left (is_among p view.names1) _ h)) (now2 p (or_false_left (is_among p view.names2) _ h2))

    -- a given name was free
    named_kept : (p : PathBytes) (g : Given) → loser_named names p ≡ Some g
        → entry_by_rule (known_of conflict compare passes window1 window2 view) (rule_at (known_of conflict compare passes window1 window2 view) p) p side ≡ None
    named_kept p g f = free p (named_free (known_of conflict compare passes window1 window2 view) [] _ names are p g f)

    out : (p : PathBytes) → passes p ≡ false
        → entry_by_rule (known_of conflict compare passes window1 window2 view) (rule_at (known_of conflict compare passes window1 window2 view) p) p side ≡ None
    out p e =
        ap (λ b. entry_by_rule (known_of conflict compare passes window1 window2 view) (cond b (table compare (class compare (look view.prior1 p) (look view.now1 p)) (class compare (look view.prior2 p) (look view.now2 p)) (look view.now1 p) (look view.now2 p)) Nothing) p side) e
        ∙ absent side
      where
        absent : (side : Side) → by_side (look view.now1) (look view.now2) side p ≡ None
        absent One = none_where_not (look view.now1 p) (passes p) (narrow.now1 p) e
        absent Two = none_where_not (look view.now2 p) (passes p) (narrow.now2 p) e

    part : ArePart named (kept_rows conflict compare (by_side window1 window2 side) side view)
    part p e h = looks p ∙ go (passes p) (loser_named names p) refl
      where
        kept : entry_by_rule (known_of conflict compare passes window1 window2 view) (rule_at (known_of conflict compare passes window1 window2 view) p) p side ≡ Some e
        kept = sym (kept_look side p) ∙ h

        go : (b : Bool) (v : Option Given) → loser_named names p ≡ v → cond b (named_by (known_of conflict compare passes window1 window2 view) v side) None ≡ None
        go false v f = refl
        go true None f = refl
        go true (Some g) f = let none = named_kept p g f in let wrong : Some e ≡ None = sym kept ∙ none in cc

    together : (p : PathBytes)
        → either (entry_by_rule (known_of conflict compare passes window1 window2 view) (rule_at (known_of conflict compare passes window1 window2 view) p) p side)
        (cond (passes p) (named_by (known_of conflict compare passes window1 window2 view) (loser_named names p) side) None)
        ≡ final_entry (known_of conflict compare passes window1 window2 view) names side p
    together p = go (passes p) refl (loser_named names p) refl
      where
        go : (b : Bool) → passes p ≡ b → (v : Option Given) → loser_named names p ≡ v
            → either (entry_by_rule (known_of conflict compare passes window1 window2 view) (rule_at (known_of conflict compare passes window1 window2 view) p) p side)
            (cond b (named_by (known_of conflict compare passes window1 window2 view) v side) None)
            ≡ cond b (entry_by_name (known_of conflict compare passes window1 window2 view) v p side) None
        go false e v f = either_none _ ∙ out p e
        go true e None f = either_none _
        go true e (Some g) f = ap (λ x. either x (carried_entry (known_of conflict compare passes window1 window2 view) g.side g.path side)) (named_kept p g f)

    pub merged_rises : AreRising (keys (merged named (kept_rows conflict compare (by_side window1 window2 side) side view)))
    merged_rises = merged_rising named _ rising (rows_rising (listings_of view) (kept_in conflict compare (by_side window1 window2 side) side)) part

    pub final_rows : AreRowsOf (final_entry (known_of conflict compare passes window1 window2 view) names) side (merged named (kept_rows conflict compare (by_side window1 window2 side) side view))
    final_rows = record {
      rising = merged_rises;
      looks = λ p. look_merged named _ part p ∙ (λ i. either (kept_look side p i) (looks p i)) ∙ together p;
    }
