-- What a step leaves on the two remotes, by its answer.
use Rattle.std.specs.Prelude.{◌≡◌, ◌≢◌, ◌⊎◌, ◌+◌, ◌≤◌, ℕ, Bool, false, IsTrue, Option, Some, None, IsSome, Result, Ok, Err, ⊤}
use Rattle.bisync_tree.specs.Side.{other, is_side}
use Rattle.bisync_tree.specs.Tree.{file_at, without}
use Rattle.bisync_tree.specs.declared.sides.Side.{Side}
use Rattle.bisync_tree.specs.declared.entries.Entry.{Entry}
use Rattle.bisync_tree.specs.declared.steps.Step.{Step}
use Rattle.bisync_tree.specs.declared.steps.Step.TheVariants.{Copy, Rename, Delete}
use Rattle.bisync_device.specs.FolderSet.{has_folder, has_for_file}
use Rattle.bisync_device.specs.Remote.{RemoteState, KeepsTree, Changed, renamed}
use Rattle.bisync_transfer.specs.FileCopy.{HasListed, Copies, IsMoved}
use Rattle.bisync_transfer.specs.declared.steps.StepFault.{StepFault}
use Rattle.bisync_transfer.specs.declared.steps.StepFault.TheVariants.{RemoteFault, Moved}

-- whether the answer is a fault of this side's remote
abbrev pub is_fault_of : Side → Result (Unit {0}) StepFault → Bool
is_fault_of side (Ok _) = false
is_fault_of side (Err (RemoteFault on)) = is_side side on
is_fault_of side (Err (Moved on listed read)) = false

-- the side whose listed file the step is about
abbrev pub source_of : Step → Side
source_of (Copy from path listed) = from
source_of (Rename side from to listed) = side
source_of (Delete side path listed) = side

-- the side that the step changes
abbrev pub changed_side : Step → Side
changed_side (Copy from path listed) = other from
changed_side (Rename side from to listed) = side
changed_side (Delete side path listed) = side

-- the side that the step leaves
abbrev pub kept_side : Step → Side
kept_side (Copy from path listed) = from
kept_side (Rename side from to listed) = other side
kept_side (Delete side path listed) = other side

-- the entry that was listed of the step's file
abbrev pub listed_of : Step → Entry
listed_of (Copy from path listed) = listed
listed_of (Rename side from to listed) = listed
listed_of (Delete side path listed) = listed

-- the step's file is there, and for a copy has the listed size, and the listed digest where there is one
abbrev pub HasStepFile : Step → RemoteState → Type 0
HasStepFile (Copy from path listed) source = HasListed source path listed
HasStepFile (Rename side from to listed) source = IsSome (file_at source.tree from)
HasStepFile (Delete side path listed) source = IsSome (file_at source.tree path)

-- what the step does to the side that it changes
abbrev pub IsStepChange : (Side → Bool) → Step → (Side → RemoteState) → RemoteState → Type 0
IsStepChange tells (Copy from path listed) before after =
    Copies (tells from) (tells (other from)) path listed (before from) (before (other from)) after
IsStepChange tells (Rename side from to listed) before after =
    IsTrue (tells side)
    → Changed (before side) after (renamed (before side).tree from to) (has_for_file (before side).folders (before side).tree to)
IsStepChange tells (Delete side path listed) before after =
    IsTrue (tells side) → Changed (before side) after (without (before side).tree path) (has_folder (before side).folders)

-- the step was done, and nothing else, on remotes that had not stopped. Of each side it says what that side's remote tells
pub record IsDone (tells : Side → Bool) (step : Step) (before after : Side → RemoteState) : Type 0 where
  pub source_unstopped : (before (source_of step)).left ≢ Some 0
  pub changed_unstopped : (before (changed_side step)).left ≢ Some 0
  pub source : IsTrue (tells (source_of step)) → HasStepFile step (before (source_of step))
  pub kept : KeepsTree (tells (kept_side step)) (before (kept_side step)) (after (kept_side step))
  pub change : IsStepChange tells step before (after (changed_side step))

-- both trees are as they were
abbrev pub IsUndone : (Side → Bool) → (Side → RemoteState) → (Side → RemoteState) → Type 0
IsUndone tells before after = (side : Side) → KeepsTree (tells side) (before side) (after side)

-- what each answer leaves on both sides. A fault of the side that the step changes can come with the step done
abbrev pub Performs : (Side → Bool) → Step → (Side → RemoteState) → (Side → RemoteState) → Result (Unit {0}) StepFault → Type 0
Performs tells step before after (Ok _) = IsDone tells step before after
Performs tells step before after (Err (RemoteFault side)) = IsUndone tells before after ⊎ ((side ≡ changed_side step) × IsDone tells step before after)
Performs tells step before after (Err (Moved side listed read)) = IsUndone tells before after

-- a rename or a delete makes no call on the other side
abbrev pub LeavesOther : Step → (Side → RemoteState) → (Side → RemoteState) → Type 0
LeavesOther (Copy from path listed) before after = ⊤
LeavesOther (Rename side from to listed) before after = after (other side) ≡ before (other side)
LeavesOther (Delete side path listed) before after = after (other side) ≡ before (other side)

-- where no call failed: Ok exactly where this holds, and Moved exactly where it doesn't
abbrev pub IsMovedUnless : Type 0 → Result (Unit {0}) StepFault → Type 0
IsMovedUnless P (Ok _) = P
IsMovedUnless P (Err (RemoteFault side)) = ⊤
IsMovedUnless P (Err (Moved side listed read)) = P → ⊥

-- what was read of the step's file
abbrev pub IsReadOf : Bool → Step → RemoteState → Option Entry → Type 0
IsReadOf tells (Copy from path listed) source read = IsMoved tells path listed source read
IsReadOf tells (Rename side from to listed) source read = (read ≡ None) × (IsTrue tells → file_at source.tree from ≡ None)
IsReadOf tells (Delete side path listed) source read = (read ≡ None) × (IsTrue tells → file_at source.tree path ≡ None)

-- Moved tells the side and the entry of the step's file, and what was read of it
abbrev pub TellsMoved : (Side → Bool) → Step → (Side → RemoteState) → Result (Unit {0}) StepFault → Type 0
TellsMoved tells step before (Ok _) = ⊤
TellsMoved tells step before (Err (RemoteFault side)) = ⊤
TellsMoved tells step before (Err (Moved side listed read)) =
    (side ≡ source_of step) × (listed ≡ listed_of step) × IsReadOf (tells side) step (before side) read

-- what was read of a file that isn't as listed is at most this many bytes longer than listed
abbrev pub ReadsPastBy : ℕ → Result (Unit {0}) StepFault → Type 0
ReadsPastBy room (Ok _) = ⊤
ReadsPastBy room (Err (RemoteFault side)) = ⊤
ReadsPastBy room (Err (Moved side listed None)) = ⊤
ReadsPastBy room (Err (Moved side listed (Some read))) = read.size ≤ listed.size + room
