-- What a run knows before its first change. This project's own.
use Rattle.std.specs.Prelude.{◌≡◌, Bool, is_some}
use Rattle.bisync_tree.specs.Rows.{PathBytes}
use Rattle.bisync_tree.specs.declared.sides.Side.{Side}
use Rattle.bisync_model.specs.Trees.{Trees}
use Rattle.bisync_model.specs.Policy.{Policy}
use Rattle.bisync_model.specs.Entries.{Entries, entries_of, SameWherePassing}

-- its policy, the full base listings, what is listed now, and which paths each side has, also those that don't pass
pub record Known : Type 0 where
  pub policy : Policy
  pub base : Entries
  pub now : Entries
  pub is_there : Side → PathBytes → Bool

-- what is known is what these trees have
pub record AreListed (known : Known) (trees : Trees) : Type 0 where
  pub now : SameWherePassing known.policy known.now (entries_of known.policy.compare trees)
  pub is_there : (side : Side) (p : PathBytes) → known.is_there side p ≡ is_some (trees side p)
