-- What is known, with the trees that were listed.
use Rattle.std.proofs.Common.{Bool, ◌&&◌, Option}
use Rattle.bisync_tree.specs.declared.sides.Side.{Side}
use Rattle.bisync_tree.specs.declared.classes.Rule.{Rule}
use Rattle.bisync_tree.specs.declared.options.Loser.{Loser}
use Rattle.bisync_model.specs.Trees.{Trees}
use Rattle.bisync_model.specs.Known.{Known, AreListed}
use Rattle.bisync_model.specs.Conflict.{is_conflict, gets_name}

pub record Run : Type 0 where
  pub known : Known
  pub start : Trees
  pub listed : AreListed known start

-- whether a side's file gets a name, by the rule and the winner
abbrev pub is_named : Rule → Loser → Option Side → Side → Bool
is_named r loser winner side = is_conflict r && gets_name loser winner side
