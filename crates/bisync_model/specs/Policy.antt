-- What stays from run to run. This project's own.
use Rattle.std.specs.Prelude.{◌≤◌, ℕ, Bool, List}
use Rattle.bisync_tree.specs.Window.{window_ns}
use Rattle.bisync_tree.specs.Rows.{PathBytes}
use Rattle.bisync_tree.specs.declared.sides.Side.{Side}
use Rattle.bisync_tree.specs.declared.windows.Window.{Window}
use Rattle.bisync_tree.specs.declared.entries.Compare.{Compare}
use Rattle.bisync_tree.specs.declared.options.Prefer.{Prefer}
use Rattle.bisync_tree.specs.declared.options.Loser.{Loser}

-- which paths pass the filter rules, which fields are compared, how conflicts are settled, each side's conflict suffix,
-- and the window in which each side keeps times
pub record Policy : Type 0 where
  pub passes : PathBytes → Bool
  pub compare : Compare
  pub prefer : Prefer
  pub loser : Loser
  pub suffix : Side → List ℕ
  pub window : Side → Window

-- times are compared no more finely than either side keeps them
abbrev pub ComparesKeptTimes : Policy → Type 0
ComparesKeptTimes policy = (side : Side) → window_ns (policy.window side) ≤ window_ns policy.compare.window
