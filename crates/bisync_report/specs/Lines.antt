-- The lines of a plan: what changed on each side, and the steps. 10 is a newline.
use Rattle.std.specs.Prelude.{ℕ, List, [], ◌∷◌, ◌++◌, codes, Option, Some, None}
use Rattle.std.specs.List.{flat_map}
use Rattle.bisync_text.specs.Quote.{quoted}
use Rattle.bisync_tree.specs.Rows.{PathBytes}
use Rattle.bisync_tree.specs.Side.{other}
use Rattle.bisync_tree.specs.Walk.{CellValue, listings_of, paths_of, cell_at}
use Rattle.bisync_tree.specs.declared.sides.Side.{Side}
use Rattle.bisync_tree.specs.declared.sides.Side.TheVariants.{One, Two}
use Rattle.bisync_tree.specs.declared.steps.Step.{Step}
use Rattle.bisync_tree.specs.declared.steps.Step.TheVariants.{Copy, Rename, Delete}
use Rattle.bisync_tree.specs.declared.entries.Compare.{Compare}
use Rattle.bisync_tree.specs.declared.views.View.{View}
use Rattle.bisync_table.specs.Delta.{delta_of}
use Rattle.bisync_table.specs.declared.deltas.Delta.{Delta}
use Rattle.bisync_plan.specs.declared.plans.Plan.{Plan}
use Rattle.bisync_report.specs.Names.{side_text, delta_text}

-- the line of a change on a side, or nothing where the path is quiet there
abbrev pub delta_line : Side → PathBytes → Option Delta → List ℕ
delta_line side path None = []
delta_line side path (Some delta) = side_text side ++ (codes " " ++ (delta_text delta ++ (codes " " ++ (quoted path ++ 10 ∷ []))))

-- the lines of a path, Path1's before Path2's
abbrev pub delta_lines : Compare → CellValue → List ℕ
delta_lines compare cell = delta_line One cell.path (delta_of compare cell.base1 cell.now1) ++ delta_line Two cell.path (delta_of compare cell.base2 cell.now2)

-- the lines of every passing path, in byte order; a resync has no view, and tells no changes
abbrev pub changes_text : Compare → Option View → List ℕ
changes_text compare None = []
changes_text compare (Some view) = flat_map (λ path. delta_lines compare (cell_at (listings_of view) path)) (paths_of (listings_of view))

abbrev pub step_line : Step → List ℕ
step_line (Copy from path entry) = codes "copy " ++ (side_text from ++ (codes " " ++ (side_text (other from) ++ (codes " " ++ (quoted path ++ 10 ∷ [])))))
step_line (Rename side from to entry) = codes "rename " ++ (side_text side ++ (codes " " ++ (quoted from ++ (codes " " ++ (quoted to ++ 10 ∷ [])))))
step_line (Delete side path entry) = codes "delete " ++ (side_text side ++ (codes " " ++ (quoted path ++ 10 ∷ [])))

-- one line a step
abbrev pub steps_text : List Step → List ℕ
steps_text steps = flat_map step_line steps

-- what changed, and then the steps
abbrev pub plan_text : Option View → Compare → Plan → List ℕ
plan_text view compare plan = changes_text compare view ++ steps_text plan.steps.items
