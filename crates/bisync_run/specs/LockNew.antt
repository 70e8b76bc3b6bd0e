-- What of the name `lock-new` a run leaves.
use Rattle.std.specs.Prelude.{◌≡◌, ◌⊎◌}
use Rattle.bisync_device.specs.WorkFolder.{Absent, WorkFolder}

-- `lock-new` is as before or gone
pub record KeepsLockNew (old new : WorkFolder) : Type 0 where
  pub kept : (new.lock_new ≡ old.lock_new) ⊎ (new.lock_new ≡ Absent)
