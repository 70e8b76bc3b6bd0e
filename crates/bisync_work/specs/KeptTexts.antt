-- What the writing of one name leaves.
use Rattle.std.specs.Prelude.{◌≡◌}
use Rattle.bisync_device.specs.declared.works.WorkName.{WorkName}
use Rattle.bisync_device.specs.WorkFolder.{Absent, WorkFolder, with_held}

-- every other name is as before
pub record ChangesOnly (n : WorkName) (old new : WorkFolder) : Type 0 where
  pub rest : with_held n Absent new ≡ with_held n Absent old
