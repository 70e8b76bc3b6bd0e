-- How many changes a run makes on a side: its commits, renames and deletes. This project's own.
use Rattle.std.specs.Prelude.{ℕ, Bool, Option, Some, None, if◌then◌else◌}
use Rattle.bisync_tree.specs.Side.{other, is_side}
use Rattle.bisync_tree.specs.Rows.{PathBytes}
use Rattle.bisync_tree.specs.declared.sides.Side.{Side}
use Rattle.bisync_tree.specs.declared.classes.Rule.{Rule}
use Rattle.bisync_tree.specs.declared.classes.Rule.TheVariants.{Nothing, Copy as CopyFrom, Delete as DeleteOn, Conflict}
use Rattle.bisync_tree.specs.declared.options.Loser.{Loser}
use Rattle.bisync_tree.specs.declared.options.Loser.TheVariants.{Num, Pathname, Delete as DeleteLoser}
use Rattle.bisync_tree.specs.declared.steps.Step.{Step}
use Rattle.bisync_tree.specs.declared.steps.Step.TheVariants.{Copy, Rename, Delete}
use Rattle.bisync_model.specs.Known.{Known}
use Rattle.bisync_model.specs.Table.{rule_at}
use Rattle.bisync_model.specs.Conflict.{winner_at}

-- one change, or none
abbrev pub one_if : Bool → ℕ
one_if b = if b then 1 else 0

-- the changes that a step makes on a side
abbrev pub changes_of : Side → Step → ℕ
changes_of side (Copy from path listed) = one_if (is_side side (other from))
changes_of side (Rename on from to listed) = one_if (is_side side on)
changes_of side (Delete on path listed) = one_if (is_side side on)

-- of a conflict with this winner: two on each side where nobody wins; two on the loser's side and one on the winner's
-- where the loser gets a name; one on the loser's side where it is overwritten
abbrev pub conflict_changes : Loser → Option Side → Side → ℕ
conflict_changes loser None side = 2
conflict_changes Num (Some winner) side = if is_side side winner then 1 else 2
conflict_changes Pathname (Some winner) side = if is_side side winner then 1 else 2
conflict_changes DeleteLoser (Some winner) side = if is_side side winner then 0 else 1

-- the changes of a rule on a side
abbrev pub changes_by : Known → Rule → PathBytes → Side → ℕ
changes_by known Nothing p side = 0
changes_by known (CopyFrom from) p side = one_if (is_side side (other from))
changes_by known (DeleteOn on) p side = one_if (is_side side on)
changes_by known Conflict p side = conflict_changes known.policy.loser (winner_at known p) side

-- the changes that a run makes on a side for a path
abbrev pub changes_at : Known → Side → PathBytes → ℕ
changes_at known side p = changes_by known (rule_at known p) p side
