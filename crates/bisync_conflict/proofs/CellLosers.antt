-- The rule and the losers at a cell are those at its path.
use Rattle.std.proofs.Common.{◌≡◌, Bool, ◌&&◌, List, [], ◌∷◌, ◌++◌, map, cond, refl, ap}
use Rattle.std.specs.Prelude.{flat_map}
use Rattle.bisync_tree.specs.Rows.{PathBytes}
use Rattle.bisync_tree.specs.Walk.{cell_at, cells, listings_of, paths_of}
use Rattle.bisync_tree.specs.declared.windows.Window.{Window}
use Rattle.bisync_tree.specs.declared.sides.Side.{Side}
use Rattle.bisync_tree.specs.declared.sides.Side.TheVariants.{One, Two}
use Rattle.bisync_tree.specs.declared.entries.Compare.{Compare}
use Rattle.bisync_tree.specs.declared.options.ConflictRule.{ConflictRule}
use Rattle.bisync_tree.specs.declared.views.View.{View}
use Rattle.bisync_model.specs.Table.{rule_at}
use Rattle.bisync_model.specs.Conflict.{gets_name, is_conflict, is_named_loser}
use Rattle.bisync_model.specs.Names.{losers_at, losers_of}
use Rattle.bisync_model.specs.Views.{known_of, IsNarrowed}
use Rattle.bisync_conflict.specs.Cells.{winner_in, loses_in, losers_in}
use Rattle.bisync_table.specs.Cells.{rule_in}
use Rattle.bisync_table.proofs.CellRules.{rule_seen as rule_of_cell}

module _ (conflict : ConflictRule) (compare : Compare) (passes : PathBytes → Bool) (window1 window2 : Window) (view : View) (narrow : IsNarrowed passes view) where
  pub rule_seen : (p : PathBytes) → rule_in compare (cell_at (listings_of view) p) ≡ rule_at (known_of conflict compare passes window1 window2 view) p
  rule_seen p = rule_of_cell conflict compare passes window1 window2 view narrow p

  pub loser_seen : (p : PathBytes) (side : Side)
      → loses_in conflict compare (cell_at (listings_of view) p) side ≡ is_named_loser (known_of conflict compare passes window1 window2 view) p side
  loser_seen p side =
      ap (λ rule. is_conflict rule && gets_name conflict.loser (winner_in conflict compare (cell_at (listings_of view) p)) side)
      (rule_seen p)

  losers_seen_at : (p : PathBytes) → losers_in conflict compare (cell_at (listings_of view) p) ≡ losers_at (known_of conflict compare passes window1 window2 view) p
  losers_seen_at p = λ i. cond (loser_seen p One i) ((p, One) ∷ []) [] ++ cond (loser_seen p Two i) ((p, Two) ∷ []) []

  all_seen : (ps : List PathBytes) → flat_map (losers_in conflict compare) (map (cell_at (listings_of view)) ps) ≡ losers_of (known_of conflict compare passes window1 window2 view) ps
  all_seen [] = refl
  all_seen (p ∷ ps) = λ i. losers_seen_at p i ++ all_seen ps i

  pub losers_seen : flat_map (losers_in conflict compare) (cells (listings_of view)) ≡ losers_of (known_of conflict compare passes window1 window2 view) (paths_of (listings_of view))
  losers_seen = all_seen (paths_of (listings_of view))
