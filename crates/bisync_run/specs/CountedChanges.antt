-- The numbers of changes of a good end, and the counts of both sides.
use Rattle.std.specs.Prelude.{◌≡◌, ◌+◌, ℕ, Bool, IsTrue, ⊤}
use Rattle.bisync_tree.specs.declared.sides.Side.{Side}
use Rattle.bisync_model.specs.Trees.{by_side}
use Rattle.bisync_report.specs.declared.ends.End.{End}
use Rattle.bisync_report.specs.declared.ends.End.TheVariants.{Done, Resynced}
use Rattle.bisync_run.specs.Untouched.{Remotes}

-- each side that tells counted this many changes since the start
abbrev pub HasCounted : (Side → Bool) → Remotes → Remotes → ℕ → ℕ → Type 0
HasCounted tells start now one two = (side : Side) → IsTrue (tells side) → (now side).changes ≡ (start side).changes + by_side one two side

-- the numbers that an end tells are those
abbrev pub CountsChanges : (Side → Bool) → Remotes → Remotes → End → Type 0
CountsChanges tells start now (Done one two) = HasCounted tells start now one two
CountsChanges tells start now (Resynced one two) = HasCounted tells start now one two
CountsChanges tells start now end = ⊤
