-- What any number of calls does to a remote.
use Rattle.std.specs.Prelude.{◌≡◌, Bool, Some, None}
use Rattle.bisync_device.specs.Faults.{HasCause}
use Rattle.bisync_device.specs.Remote.{RemoteState}

-- calls were made, of which one failed or none did. Where no stop was to come none is, and a stop lasts
pub record MadeCalls (failed : Bool) (before after : RemoteState) : Type 0 where
  pub cause : HasCause failed before.faults after.faults
  pub window : after.window ≡ before.window
  pub unstopped : before.left ≡ None → after.left ≡ None
  pub stopped : before.left ≡ Some 0 → after.left ≡ Some 0
