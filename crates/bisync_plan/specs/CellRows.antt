-- The rows of a final listing, cell by cell, and those of given names.
use Rattle.std.specs.Prelude.{Bool, List, [], ◌∷◌, Option, Some, None, option_map, if◌then◌else◌, flat_map}
use Rattle.bisync_tree.specs.Side.{is_side}
use Rattle.bisync_tree.specs.Rows.{PathBytes, Rows, look}
use Rattle.bisync_tree.specs.Same.{same}
use Rattle.bisync_tree.specs.Walk.{CellValue, cells, listings, listings_of}
use Rattle.bisync_tree.specs.declared.sides.Side.{Side}
use Rattle.bisync_tree.specs.declared.windows.Window.{Window}
use Rattle.bisync_tree.specs.declared.entries.Entry.{Entry}
use Rattle.bisync_tree.specs.declared.entries.Compare.{Compare}
use Rattle.bisync_tree.specs.declared.options.ConflictRule.{ConflictRule}
use Rattle.bisync_tree.specs.declared.options.Prefer.{Prefer}
use Rattle.bisync_tree.specs.declared.classes.Rule.{Rule}
use Rattle.bisync_tree.specs.declared.classes.Rule.TheVariants.{Nothing, Copy as CopyFrom, Delete as DeleteOn, Conflict}
use Rattle.bisync_tree.specs.declared.steps.Given.{Given}
use Rattle.bisync_tree.specs.declared.views.View.{View}
use Rattle.bisync_model.specs.Trees.{by_side}
use Rattle.bisync_model.specs.Finals.{brought_entry}
use Rattle.bisync_table.specs.Cells.{rule_in}
use Rattle.bisync_conflict.specs.Cells.{winner_in}
use Rattle.bisync_plan.specs.CellSteps.{now_in, source_in}

abbrev pub carried_in : CellValue → Side → Side → Window → Option Entry
carried_in cell from side w = if is_side from side then now_in cell from else option_map (brought_entry w) (now_in cell from)

-- what a side keeps of the winner's file
abbrev pub settled_in : CellValue → Side → Window → Option Side → Option Entry
settled_in cell side w None = None
settled_in cell side w (Some winner) = carried_in cell winner side w

abbrev pub kept_by : CellValue → Side → Window → Option Side → Rule → Option Entry
kept_by cell side w winner Nothing = now_in cell side
kept_by cell side w winner (CopyFrom from) = carried_in cell from side w
kept_by cell side w winner (DeleteOn on) = None
kept_by cell side w winner Conflict = settled_in cell side w winner

-- what a final listing says of a cell's path, where it is no given name
abbrev pub kept_in : ConflictRule → Compare → Window → Side → CellValue → Option Entry
kept_in conflict c w side cell = kept_by cell side w (winner_in conflict c cell) (rule_in c cell)

-- the same of a resync
abbrev pub resynced_by : CellValue → Side → Window → Option Side → Option Entry
resynced_by cell side w None = now_in cell side
resynced_by cell side w (Some from) = carried_in cell from side w

abbrev pub resynced_in : Prefer → Compare → Window → Side → CellValue → Option Entry
resynced_in mode c w side cell = resynced_by cell side w (source_in mode c cell)

-- the row of a path that has an entry
abbrev pub row_of : PathBytes → Option Entry → Rows
row_of p None = []
row_of p (Some e) = (p, e) ∷ []

abbrev pub kept_row : ConflictRule → Compare → Window → Side → CellValue → Rows
kept_row conflict c w side cell = row_of cell.path (kept_in conflict c w side cell)

abbrev pub kept_rows : ConflictRule → Compare → Window → Side → View → Rows
kept_rows conflict c w side view = flat_map (kept_row conflict c w side) (cells (listings_of view))

abbrev pub resynced_row : Prefer → Compare → Window → Side → CellValue → Rows
resynced_row mode c w side cell = row_of cell.path (resynced_in mode c w side cell)

abbrev pub resynced_rows : Prefer → Compare → Window → Side → Rows → Rows → Rows
resynced_rows mode c w side now1 now2 = flat_map (resynced_row mode c w side) (cells (listings [] [] now1 now2))

abbrev pub either : Option Entry → Option Entry → Option Entry
either None b = b
either (Some e) b = Some e

-- what a side keeps of a loser's file
abbrev pub carried_at : View → Given → Side → Window → Option Entry
carried_at view g side w =
    if is_side g.side side then by_side (look view.now1) (look view.now2) g.side g.path
    else option_map (brought_entry w) (by_side (look view.now1) (look view.now2) g.side g.path)

-- what the listing says of a given name, where it passes
abbrev pub named_entry : (PathBytes → Bool) → View → Side → Window → Given → Option Entry
named_entry passes view side w g = if passes g.name then carried_at view g side w else None

-- the entry of a path by the rows of given names, the last before the others
abbrev pub named_look : (PathBytes → Bool) → View → Side → Window → List Given → PathBytes → Option Entry
named_look passes view side w [] p = None
named_look passes view side w (g ∷ gs) p = either (named_look passes view side w gs p) (look (row_of g.name (named_entry passes view side w g)) p)

-- the first cell of two listings whose entries aren't the same
abbrev pub first_apart : Compare → List CellValue → Option CellValue
first_apart c [] = None
first_apart c (cell ∷ cells) = if same c cell.base1 cell.base2 then first_apart c cells else Some cell
