-- What a run leaves, path by path and side by side. This project's own.
use Rattle.std.specs.Prelude.{List, Option, Some, None, option_map, if◌then◌else◌}
use Rattle.bisync_tree.specs.Side.{is_side}
use Rattle.bisync_tree.specs.Rows.{PathBytes}
use Rattle.bisync_tree.specs.Tree.{brought}
use Rattle.bisync_tree.specs.declared.sides.Side.{Side}
use Rattle.bisync_tree.specs.declared.files.File.{File}
use Rattle.bisync_tree.specs.declared.classes.Rule.{Rule}
use Rattle.bisync_tree.specs.declared.classes.Rule.TheVariants.{Nothing, Copy as CopyFrom, Delete as DeleteOn, Conflict}
use Rattle.bisync_tree.specs.declared.steps.Given.{Given}
use Rattle.bisync_model.specs.Trees.{Trees}
use Rattle.bisync_model.specs.Known.{Known}
use Rattle.bisync_model.specs.Table.{rule_at}
use Rattle.bisync_model.specs.Conflict.{winner_at}
use Rattle.bisync_model.specs.Names.{loser_named}

-- the file that a side had at a path, which it keeps as it is and which is brought to the other side
abbrev pub carried : Known → Trees → Side → PathBytes → Side → Option File
carried known start from p side =
    if is_side from side then start from p else option_map (brought (known.policy.window side)) (start from p)

-- the winner's file on both sides, or nothing
abbrev pub settled : Known → Trees → Option Side → PathBytes → Side → Option File
settled known start None p side = None
settled known start (Some winner) p side = carried known start winner p side

-- what a rule leaves at a path of a side
abbrev pub by_rule : Known → Trees → Rule → PathBytes → Side → Option File
by_rule known start Nothing p side = start side p
by_rule known start (CopyFrom from) p side = carried known start from p side
by_rule known start (DeleteOn on) p side = None
by_rule known start Conflict p side = settled known start (winner_at known p) p side

-- the loser's file under its given name, or what the path's rule leaves
abbrev pub by_name : Known → Trees → Option Given → PathBytes → Side → Option File
by_name known start (Some g) n side = carried known start g.side g.path side
by_name known start None n side = by_rule known start (rule_at known n) n side

-- what each side has in the end
abbrev pub outcome : Known → Trees → List Given → Trees
outcome known start names side n = by_name known start (loser_named names n) n side
