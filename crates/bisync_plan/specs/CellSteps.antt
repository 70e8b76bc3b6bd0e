-- The steps of a walk, cell by cell, with the given names from the front of their list.
use Rattle.std.specs.Prelude.{◌&&◌, List, [], ◌∷◌, ◌++◌, Option, Some, None, bytes_eq, if◌then◌else◌}
use Rattle.bisync_tree.specs.Side.{is_side}
use Rattle.bisync_tree.specs.Rows.{PathBytes}
use Rattle.bisync_tree.specs.Walk.{CellValue}
use Rattle.bisync_tree.specs.Same.{same}
use Rattle.bisync_tree.specs.declared.sides.Side.{Side}
use Rattle.bisync_tree.specs.declared.sides.Side.TheVariants.{One, Two}
use Rattle.bisync_tree.specs.declared.entries.Entry.{Entry}
use Rattle.bisync_tree.specs.declared.entries.Compare.{Compare}
use Rattle.bisync_tree.specs.declared.options.ConflictRule.{ConflictRule}
use Rattle.bisync_tree.specs.declared.options.Prefer.{Prefer}
use Rattle.bisync_tree.specs.declared.classes.Rule.{Rule}
use Rattle.bisync_tree.specs.declared.classes.Rule.TheVariants.{Nothing, Copy as CopyFrom, Delete as DeleteOn, Conflict}
use Rattle.bisync_tree.specs.declared.steps.Given.{Given}
use Rattle.bisync_tree.specs.declared.steps.Step.{Step}
use Rattle.bisync_model.specs.Conflict.{winner, gets_name}
use Rattle.bisync_model.specs.Plan.{copied, deleted, moved}
use Rattle.bisync_table.specs.Cells.{rule_in}
use Rattle.bisync_conflict.specs.Cells.{winner_in}
use Rattle.std.specs.Prelude.{unwrap_or}

abbrev pub now_in : CellValue → Side → Option Entry
now_in cell One = cell.now1
now_in cell Two = cell.now2

abbrev pub deletes_by : CellValue → Rule → List Step
deletes_by cell (DeleteOn side) = deleted side cell.path (now_in cell side)
deletes_by cell Nothing = []
deletes_by cell (CopyFrom from) = []
deletes_by cell Conflict = []

abbrev pub deletes_in : Compare → CellValue → List Step
deletes_in c cell = deletes_by cell (rule_in c cell)

-- the copy of a side's file, if there is one
abbrev pub copied_from : CellValue → Option Side → List Step
copied_from cell None = []
copied_from cell (Some from) = copied from cell.path (now_in cell from)

-- the name of this loser, if it stands first, and the names after it
abbrev pub head_name : List Given → PathBytes → Side → Option PathBytes
head_name [] p side = None
head_name (g ∷ gs) p side = if bytes_eq p g.path && is_side side g.side then Some g.name else None

abbrev pub rest_names : List Given → PathBytes → Side → List Given
rest_names [] p side = []
rest_names (g ∷ gs) p side = if bytes_eq p g.path && is_side side g.side then gs else g ∷ gs

-- the same where the side's file gets a name
abbrev pub lost_name : ConflictRule → Compare → CellValue → Side → List Given → Option PathBytes
lost_name conflict c cell side names = if gets_name conflict.loser (winner_in conflict c cell) side then head_name names cell.path side else None

abbrev pub lost_rest : ConflictRule → Compare → CellValue → Side → List Given → List Given
lost_rest conflict c cell side names = if gets_name conflict.loser (winner_in conflict c cell) side then rest_names names cell.path side else names

-- the names after those of both losers
abbrev pub both_rest : ConflictRule → Compare → CellValue → List Given → List Given
both_rest conflict c cell names = lost_rest conflict c cell Two (lost_rest conflict c cell One names)

-- the steps of a conflict: Path1's loser, Path2's, and the winner
abbrev pub settling : ConflictRule → Compare → CellValue → List Given → List Step
settling conflict c cell names =
    moved One cell.path (lost_name conflict c cell One names) cell.now1
    ++ moved Two cell.path (lost_name conflict c cell Two (lost_rest conflict c cell One names)) cell.now2
    ++ copied_from cell (winner_in conflict c cell)

-- the steps of a rule other than deletes, and the names after them
abbrev pub moves_by : ConflictRule → Compare → CellValue → List Given → Rule → List Step
moves_by conflict c cell names (CopyFrom from) = copied from cell.path (now_in cell from)
moves_by conflict c cell names Conflict = settling conflict c cell names
moves_by conflict c cell names Nothing = []
moves_by conflict c cell names (DeleteOn side) = []

abbrev pub rest_by : ConflictRule → Compare → CellValue → List Given → Rule → List Given
rest_by conflict c cell names Conflict = both_rest conflict c cell names
rest_by conflict c cell names (CopyFrom from) = names
rest_by conflict c cell names Nothing = names
rest_by conflict c cell names (DeleteOn side) = names

-- those of all cells
abbrev pub moves_with : ConflictRule → Compare → List CellValue → List Given → List Step
moves_with conflict c [] names = []
moves_with conflict c (cell ∷ cells) names =
    moves_by conflict c cell names (rule_in c cell) ++ moves_with conflict c cells (rest_by conflict c cell names (rule_in c cell))

-- the side whose file a resync copies
abbrev pub source_by : Prefer → Compare → Option Entry → Option Entry → Option Side
source_by mode c None None = None
source_by mode c (Some one) None = Some One
source_by mode c None (Some two) = Some Two
source_by mode c (Some one) (Some two) =
    if same c (Some one) (Some two) then None else Some (unwrap_or (winner mode c.window one two) One)

abbrev pub source_in : Prefer → Compare → CellValue → Option Side
source_in mode c cell = source_by mode c cell.now1 cell.now2

abbrev pub copies_in : Prefer → Compare → CellValue → List Step
copies_in mode c cell = copied_from cell (source_in mode c cell)
