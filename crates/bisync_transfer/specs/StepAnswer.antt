-- What a step answers, by the answer of its calls.
use Rattle.std.specs.Prelude.{Bool, true, false, None, Result, Ok, Err}
use Rattle.bisync_tree.specs.Side.{other}
use Rattle.bisync_tree.specs.declared.sides.Side.{Side}
use Rattle.bisync_tree.specs.declared.entries.Entry.{Entry}
use Rattle.bisync_device.specs.declared.faults.Failed.{Failed}
use Rattle.bisync_transfer.specs.declared.copies.CopyFault.{CopyFault}
use Rattle.bisync_transfer.specs.declared.copies.CopyFault.TheVariants as copy
use Rattle.bisync_transfer.specs.declared.steps.StepFault.{StepFault}
use Rattle.bisync_transfer.specs.declared.steps.StepFault.TheVariants.{RemoteFault, Moved}

-- of a copy from this side
abbrev pub copy_answer : Side → Entry → Result (Unit {0}) CopyFault → Result (Unit {0}) StepFault
copy_answer from listed (Ok done) = Ok done
copy_answer from listed (Err copy.Source) = Err (RemoteFault from)
copy_answer from listed (Err copy.Destination) = Err (RemoteFault (other from))
copy_answer from listed (Err (copy.Moved read)) = Err (Moved from listed read)

-- of a rename or a delete on this side
abbrev pub change_answer : Side → Entry → Result Bool Failed → Result (Unit {0}) StepFault
change_answer side listed (Ok true) = Ok tt
change_answer side listed (Ok false) = Err (Moved side listed None)
change_answer side listed (Err failed) = Err (RemoteFault side)
