-- The case table at a cell of a walk.
use Rattle.std.specs.Prelude.{Option}
use Rattle.bisync_tree.specs.Same.{class}
use Rattle.bisync_tree.specs.Walk.{CellValue}
use Rattle.bisync_tree.specs.declared.entries.Entry.{Entry}
use Rattle.bisync_tree.specs.declared.entries.Compare.{Compare}
use Rattle.bisync_tree.specs.declared.classes.Rule.{Rule}
use Rattle.bisync_model.specs.Table.{table}

-- the rule of a passing path, from its base entries and its entries now
abbrev pub rule_of : Compare → Option Entry → Option Entry → Option Entry → Option Entry → Rule
rule_of c base1 base2 now1 now2 = table c (class c base1 now1) (class c base2 now2) now1 now2

-- the rule of a cell
abbrev pub rule_in : Compare → CellValue → Rule
rule_in c cell = rule_of c cell.base1 cell.base2 cell.now1 cell.now2
