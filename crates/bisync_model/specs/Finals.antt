-- What the new listings say of a path, made of what was listed before the first change. This project's own.
use Rattle.std.specs.Prelude.{List, Option, Some, None, option_map, if◌then◌else◌}
use Rattle.bisync_tree.specs.Side.{is_side}
use Rattle.bisync_tree.specs.Window.{brought_time}
use Rattle.bisync_tree.specs.Rows.{PathBytes}
use Rattle.bisync_tree.specs.declared.sides.Side.{Side}
use Rattle.bisync_tree.specs.declared.windows.Window.{Window}
use Rattle.bisync_tree.specs.declared.entries.Entry.{Entry}
use Rattle.bisync_tree.specs.declared.classes.Rule.{Rule}
use Rattle.bisync_tree.specs.declared.classes.Rule.TheVariants.{Nothing, Copy as CopyFrom, Delete as DeleteOn, Conflict}
use Rattle.bisync_tree.specs.declared.steps.Given.{Given}
use Rattle.bisync_model.specs.Entries.{Entries}
use Rattle.bisync_model.specs.Known.{Known}
use Rattle.bisync_model.specs.Table.{rule_at}
use Rattle.bisync_model.specs.Conflict.{winner_at}
use Rattle.bisync_model.specs.Names.{loser_named}

-- the entry of a file that is brought to a side which keeps times in this window
abbrev pub brought_entry : Window → Entry → Entry
brought_entry w e = record { size = e.size; time = brought_time w e.time; hash = e.hash }

-- the entry of a side's file, which it keeps and which is brought to the other side
abbrev pub carried_entry : Known → Side → PathBytes → Side → Option Entry
carried_entry known from p side =
    if is_side from side then known.now from p else option_map (brought_entry (known.policy.window side)) (known.now from p)

-- the winner's entry on both sides, or none
abbrev pub settled_entry : Known → Option Side → PathBytes → Side → Option Entry
settled_entry known None p side = None
settled_entry known (Some winner) p side = carried_entry known winner p side

-- the entry of what a rule leaves at a path of a side
abbrev pub entry_by_rule : Known → Rule → PathBytes → Side → Option Entry
entry_by_rule known Nothing p side = known.now side p
entry_by_rule known (CopyFrom from) p side = carried_entry known from p side
entry_by_rule known (DeleteOn on) p side = None
entry_by_rule known Conflict p side = settled_entry known (winner_at known p) p side

-- the entry of the loser's file under its given name, or of what the path's rule leaves
abbrev pub entry_by_name : Known → Option Given → PathBytes → Side → Option Entry
entry_by_name known (Some g) n side = carried_entry known g.side g.path side
entry_by_name known None n side = entry_by_rule known (rule_at known n) n side

-- what the final listing of a side says of a path: nothing, where it doesn't pass
abbrev pub final_entry : Known → List Given → Entries
final_entry known names side n = if known.policy.passes n then entry_by_name known (loser_named names n) n side else None
