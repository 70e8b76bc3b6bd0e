-- Both sides, and what a run left alone of them.
use Rattle.bisync_tree.specs.declared.sides.Side.{Side}
use Rattle.bisync_device.specs.Remote.{RemoteState, Unchanged}

-- the remotes of Path1 and Path2
abbrev pub Remotes : Type 0
Remotes = Side → RemoteState

-- no file, no folder and no count of changes is another
abbrev pub AreUntouched : Remotes → Remotes → Type 0
AreUntouched start now = (side : Side) → Unchanged (start side) (now side)
