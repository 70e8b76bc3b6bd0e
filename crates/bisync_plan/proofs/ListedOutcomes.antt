-- Rows that have the entries of the outcome are the listing of a tree that has its files.
use Rattle.std.proofs.Common.{◌≡◌, ◌≤◌, Bool, true, false, cond, List, None, refl, sym, ◌∙◌, ap}
use Rattle.std.specs.Prelude.{option_map}
use Rattle.bisync_tree.specs.Rows.{PathBytes, Rows, listing_of}
use Rattle.bisync_tree.specs.Tree.{Tree, file_at, entry}
use Rattle.bisync_tree.specs.Window.{window_ns}
use Rattle.bisync_tree.specs.declared.sides.Side.{Side}
use Rattle.bisync_tree.specs.declared.sides.Side.TheVariants.{One, Two}
use Rattle.bisync_tree.specs.declared.windows.Window.{Window}
use Rattle.bisync_tree.specs.declared.entries.Compare.{Compare}
use Rattle.bisync_tree.specs.declared.steps.Given.{Given}
use Rattle.bisync_tree.proofs.ListingLemmas.{listing_rising, look-listing_of}
use Rattle.bisync_tree.proofs.LookLemmas.{same_rows}
use Rattle.bisync_model.specs.Trees.{Trees, SameTrees, trees_of, by_side}
use Rattle.bisync_model.specs.Policy.{Policy}
use Rattle.bisync_model.specs.Entries.{Entries, entries_of, SameWherePassing}
use Rattle.bisync_model.specs.Known.{Known}
use Rattle.bisync_model.specs.Names.{loser_named}
use Rattle.bisync_model.specs.Finals.{entry_by_name, final_entry}
use Rattle.bisync_model.specs.Resync.{source_at, entry_from, resync_entry}
use Rattle.bisync_plan.specs.Conditions.{KeepsTimes}
use Rattle.bisync_plan.specs.Plans.{AreRowsOf, HasFinals, ListsTrees}
use Rattle.bisync_plan.specs.declared.plans.Plan.{Plan}

pub rows_listing : (policy : Policy) (entries : Entries) (end : Trees) → SameWherePassing policy entries (entries_of policy.compare end)
    → ((side : Side) (p : PathBytes) → policy.passes p ≡ false → entries side p ≡ None)
    → (side : Side) (rows : Rows) (tree : Tree) → AreRowsOf entries side rows → ((p : PathBytes) → file_at tree p ≡ end side p)
    → rows ≡ listing_of policy.compare policy.passes tree
rows_listing policy entries end listed filtered side rows tree are has =
    same_rows rows (listing_of policy.compare policy.passes tree) are.rising (listing_rising policy.compare policy.passes tree)
    (λ p. are.looks p ∙ go p (policy.passes p) refl ∙ sym (look-listing_of policy.compare policy.passes tree p))
  where
    go : (p : PathBytes) (b : Bool) → policy.passes p ≡ b
        → entries side p ≡ cond (policy.passes p) (option_map (entry policy.compare) (file_at tree p)) None
    go p true e = listed side p e ∙ ap (λ v. option_map (entry policy.compare) v) (sym (has p)) ∙ ap (λ b. cond b (option_map (entry policy.compare) (file_at tree p)) None) (sym e)
    go p false e = filtered side p e ∙ ap (λ b. cond b (option_map (entry policy.compare) (file_at tree p)) None) (sym e)

pub final_filtered : (known : Known) (names : List Given) (side : Side) (p : PathBytes) → known.policy.passes p ≡ false → final_entry known names side p ≡ None
final_filtered known names side p e = ap (λ b. cond b (entry_by_name known (loser_named names p) p side) None) e

pub resync_filtered : (known : Known) (side : Side) (p : PathBytes) → known.policy.passes p ≡ false → resync_entry known side p ≡ None
resync_filtered known side p e = ap (λ b. cond b (entry_from known (source_at known p) p side) None) e

pub kept : (compare : Compare) (window1 window2 : Window) → KeepsTimes compare window1 window2
    → (side : Side) → window_ns (by_side window1 window2 side) ≤ window_ns compare.window
kept compare window1 window2 keeps One = keeps.one
kept compare window1 window2 keeps Two = keeps.two

-- of a plan, whose listings have the entries of where its steps lead
pub plan_lists : (policy : Policy) (entries : Entries) (end left : Trees) (made : Plan) (one two : Tree) → SameWherePassing policy entries (entries_of policy.compare end)
    → ((side : Side) (p : PathBytes) → policy.passes p ≡ false → entries side p ≡ None)
    → HasFinals entries made → SameTrees (trees_of one two) left → SameTrees left end → ListsTrees policy one two made
plan_lists policy entries end left made one two listed filtered finals there leads = record {
  one_is = rows_listing policy entries end listed filtered One made.final1 one finals.one (λ p. there One p ∙ leads One p);
  two_is = rows_listing policy entries end listed filtered Two made.final2 two finals.two (λ p. there Two p ∙ leads Two p);
}
