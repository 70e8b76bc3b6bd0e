-- Trees between the start of a run and its outcome, as a run leaves them that is stopped at any moment. This project's own.
use Rattle.std.specs.Prelude.{◌≡◌, ◌⊎◌, true, List, Some, None}
use Rattle.bisync_tree.specs.Side.{other}
use Rattle.bisync_tree.specs.Rows.{PathBytes}
use Rattle.bisync_tree.specs.declared.sides.Side.{Side}
use Rattle.bisync_tree.specs.declared.steps.Given.{Given}
use Rattle.bisync_model.specs.Trees.{Trees}
use Rattle.bisync_model.specs.Known.{Known}
use Rattle.bisync_model.specs.Conflict.{winner_at, is_named_loser}
use Rattle.bisync_model.specs.Names.{name_for}
use Rattle.bisync_model.specs.Outcome.{outcome}

-- at every place the trees have what the one or the other has
abbrev pub IsMixOf : Trees → Trees → Trees → Type 0
IsMixOf start end trees = (side : Side) (p : PathBytes) → (trees side p ≡ start side p) ⊎ (trees side p ≡ end side p)

-- the side's loser was renamed, and the winner's file isn't there yet
pub record IsMovedAway (known : Known) (trees : Trees) (side : Side) (p : PathBytes) : Type 0 where
  pub lost : is_named_loser known p side ≡ true
  pub won : winner_at known p ≡ Some (other side)
  pub empty : trees side p ≡ None

-- each side has at each path what it had, or what it is to have, or its loser was moved away from there;
-- and a loser with a name that isn't in its place any more is under its name
pub record IsBetween (known : Known) (start : Trees) (names : List Given) (trees : Trees) : Type 0 where
  pub files : (side : Side) (p : PathBytes) → (trees side p ≡ start side p) ⊎ (trees side p ≡ outcome known start names side p) ⊎ IsMovedAway known trees side p
  pub losers : (side : Side) (p : PathBytes) (name : PathBytes) → is_named_loser known p side ≡ true → name_for names p side ≡ Some name
      → (trees side p ≡ start side p) ⊎ (trees side name ≡ start side p)
