-- The rule of a cell is that of its path.
use Rattle.std.proofs.Common.{◌≡◌, Bool, true, false, cond, Option, Some, None, refl, sym, ◌∙◌, ap}
use Rattle.bisync_tree.specs.Rows.{PathBytes, look}
use Rattle.bisync_tree.specs.Same.{class}
use Rattle.bisync_tree.specs.Walk.{cell_at, listings_of}
use Rattle.bisync_tree.specs.declared.windows.Window.{Window}
use Rattle.bisync_tree.specs.declared.entries.Entry.{Entry}
use Rattle.bisync_tree.specs.declared.entries.Compare.{Compare}
use Rattle.bisync_tree.specs.declared.options.ConflictRule.{ConflictRule}
use Rattle.bisync_tree.specs.declared.classes.Rule.TheVariants.{Nothing}
use Rattle.bisync_tree.specs.declared.views.View.{View}
use Rattle.bisync_model.specs.Table.{table, rule_at}
use Rattle.bisync_model.specs.Views.{known_of, IsNarrowed}
use Rattle.bisync_table.specs.Cells.{rule_in}

none_where_not : (now : Option Entry) (b : Bool) → ((e : Entry) → now ≡ Some e → b ≡ true) → b ≡ false → now ≡ None
none_where_not None b h e = refl
none_where_not (Some x) b h e = let t = h x refl in cc

pub rule_seen : (conflict : ConflictRule) (compare : Compare) (passes : PathBytes → Bool) (window1 window2 : Window) (view : View)
    → IsNarrowed passes view → (p : PathBytes)
    → rule_in compare (cell_at (listings_of view) p) ≡ rule_at (known_of conflict compare passes window1 window2 view) p
rule_seen conflict compare passes window1 window2 view narrow p = go (passes p) refl (narrow.base1 p) (narrow.base2 p)
  where
    go : (b : Bool) → passes p ≡ b → look view.base1 p ≡ cond b (look view.prior1 p) None → look view.base2 p ≡ cond b (look view.prior2 p) None
        → table compare (class compare (look view.base1 p) (look view.now1 p)) (class compare (look view.base2 p) (look view.now2 p)) (look view.now1 p) (look view.now2 p)
        ≡ cond b (table compare (class compare (look view.prior1 p) (look view.now1 p)) (class compare (look view.prior2 p) (look view.now2 p)) (look view.now1 p) (look view.now2 p)) Nothing
    go true e one two = λ i. table compare (class compare (one i) (look view.now1 p)) (class compare (two i) (look view.now2 p)) (look view.now1 p) (look view.now2 p)
    go false e one two =
        let now1 = none_where_not (look view.now1 p) (passes p) (narrow.now1 p) e in
        let now2 = none_where_not (look view.now2 p) (passes p) (narrow.now2 p) e in
        λ i. table compare (class compare (one i) (now1 i)) (class compare (two i) (now2 i)) (now1 i) (now2 i)
