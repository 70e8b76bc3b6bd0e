-- What some calls of a work folder's device leave of its counts.
use Rattle.std.specs.Prelude.{◌≡◌, Bool, true, false, None, Result, Ok, Err}
use Rattle.bisync_device.specs.Faults.{HasCause}
use Rattle.bisync_device.specs.Work.{WorkState}
use Rattle.bisync_work.specs.declared.found.WorkFault.{WorkFault}
use Rattle.bisync_work.specs.declared.found.WorkFault.TheVariants.{Failed, OutOfMemory}

-- the count of faults rose where the calls failed and stands where they didn't, and no stop comes where none was set
pub record AreWorkCalls (failed : Bool) (before after : WorkState) : Type 0 where
  pub cause : HasCause failed before.faults after.faults
  pub left : before.left ≡ None → after.left ≡ None

-- whether the device failed: want of memory is no fault of it
abbrev pub is_device_fault : {A : Type 0} → Result A WorkFault → Bool
is_device_fault (Ok _) = false
is_device_fault (Err Failed) = true
is_device_fault (Err OutOfMemory) = false
