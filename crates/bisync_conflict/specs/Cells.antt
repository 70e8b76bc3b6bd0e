-- Conflicts at a cell of a walk.
use Rattle.std.specs.Prelude.{Bool, ◌&&◌, List, [], ◌∷◌, ◌++◌, Option, if◌then◌else◌}
use Rattle.bisync_tree.specs.Rows.{PathBytes}
use Rattle.bisync_tree.specs.Walk.{CellValue}
use Rattle.bisync_tree.specs.declared.sides.Side.{Side}
use Rattle.bisync_tree.specs.declared.sides.Side.TheVariants.{One, Two}
use Rattle.bisync_tree.specs.declared.entries.Compare.{Compare}
use Rattle.bisync_tree.specs.declared.options.ConflictRule.{ConflictRule}
use Rattle.bisync_model.specs.Conflict.{winner_of, gets_name, is_conflict}
use Rattle.bisync_table.specs.Cells.{rule_in}

-- the side whose file wins, of the two that are there now
abbrev pub winner_in : ConflictRule → Compare → CellValue → Option Side
winner_in conflict compare cell = winner_of conflict.prefer compare.window cell.now1 cell.now2

-- whether the side's file is a loser that gets a name
abbrev pub loses_in : ConflictRule → Compare → CellValue → Side → Bool
loses_in conflict compare cell side = is_conflict (rule_in compare cell) && gets_name conflict.loser (winner_in conflict compare cell) side

-- Path1's loser is named before Path2's
abbrev pub losers_in : ConflictRule → Compare → CellValue → List (PathBytes × Side)
losers_in conflict compare cell =
    (if loses_in conflict compare cell One then (cell.path, One) ∷ [] else [])
    ++ (if loses_in conflict compare cell Two then (cell.path, Two) ∷ [] else [])
