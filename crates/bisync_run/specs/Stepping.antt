-- What the steps of a plan leave, where some of them were done.
use Rattle.std.specs.Prelude.{◌≡◌, ◌≤◌, ◌++◌, ◌∷◌, ◌⊎◌, ℕ, ℤ, pos, ◌-ℤ◌, ◌≤ℤ◌, int_div, Bool, IsTrue, List, length, take, Option, Some, None, ⊤}
use Rattle.bisync_tree.specs.declared.sides.Side.{Side}
use Rattle.bisync_tree.specs.declared.steps.Step.{Step}
use Rattle.bisync_tree.specs.declared.steps.Step.TheVariants.{Copy, Rename, Delete}
use Rattle.bisync_tree.specs.Rows.{PathBytes}
use Rattle.bisync_tree.specs.Tree.{file_at}
use Rattle.bisync_model.specs.Policy.{Policy}
use Rattle.bisync_model.specs.Trees.{Trees}
use Rattle.bisync_model.specs.Finds.{EachFindsFile}
use Rattle.bisync_device.specs.Remote.{RemoteState}
use Rattle.bisync_device.specs.WorkFolder.{WorkFolder}
use Rattle.bisync_transfer.specs.StepEffect.{source_of, listed_of}
use Rattle.bisync_transfer.specs.StepTrees.{AreDone, windows_in}
use Rattle.bisync_transfer.specs.declared.steps.StepFault.{StepFault}
use Rattle.bisync_transfer.specs.declared.steps.StepFault.TheVariants as fault
use Rattle.bisync_work.specs.LockTexts.{expiry_of, lock_text}
use Rattle.bisync_work.specs.Locks.{relocked}
use Rattle.bisync_report.specs.declared.ends.End.{End}
use Rattle.bisync_report.specs.declared.ends.End.TheVariants.{WorkFault, RemoteFault, Moved}
use Rattle.bisync_run.specs.Grounds.{IsOther, IsReadAs}

-- the first of the steps were done, one after another, and nothing else
pub record IsPartDone (steps : List Step) (start now : Side → RemoteState) : Type 0 where
  pub count : ℕ
  pub within : count ≤ length steps
  pub done : AreDone (take count steps) start now

-- each of the steps finds its file as it was listed, once the steps before it are done, by some policy and in some trees, of
-- which a side that tells has its own
pub record FindsAll (tells : Side → Bool) (steps : List Step) (start : Side → RemoteState) : Type 0 where
  pub policy : Policy
  pub trees : Trees
  pub windows : (side : Side) → policy.window side ≡ windows_in start side
  pub own : (side : Side) → IsTrue (tells side) → (p : PathBytes) → trees side p ≡ file_at (start side).tree p
  pub finds : EachFindsFile policy steps trees

-- no file of a side that tells is another than it was listed
abbrev pub FindsTold : (Side → Bool) → End → Type 0
FindsTold tells (Moved side path listed read) = IsTrue (tells side) → ⊥
FindsTold tells end = ⊤

-- the ends that steps may have
abbrev pub IsStepEnd : End → Type 0
IsStepEnd WorkFault = ⊤
IsStepEnd (RemoteFault side) = ⊤
IsStepEnd (Moved side path listed read) = ⊤
IsStepEnd end = ⊥

-- the ends that a failed call has
abbrev pub IsDeviceFault : End → Type 0
IsDeviceFault WorkFault = ⊤
IsDeviceFault (RemoteFault side) = ⊤
IsDeviceFault end = ⊥

-- what is told of a file that isn't as it was listed: nothing could be read, or the number of bytes or the digest is
-- another than listed
abbrev pub MovedDiffers : End → Type 0
MovedDiffers (Moved side path listed read) = IsOther listed read
MovedDiffers end = ⊤

-- and what was read of it is told
abbrev pub MovedIsRead : End → Type 0
MovedIsRead (Moved side path listed read) = IsReadAs listed read
MovedIsRead end = ⊤

-- the path under which the file of a step was listed
abbrev pub path_of : Step → PathBytes
path_of (Copy from path listed) = path
path_of (Rename side from to listed) = from
path_of (Delete side path listed) = path

-- Moved tells the side, the path and the entry of one of the steps
abbrev pub TellsStep : List Step → End → Type 0
TellsStep steps (Moved side path listed read) =
    (before : List Step) × (step : Step) × (later : List Step)
    × (steps ≡ before ++ step ∷ later) × (side ≡ source_of step) × (path ≡ path_of step) × (listed ≡ listed_of step)
TellsStep steps end = ⊤

-- how a run ends at a step that was not done, or may not have been
abbrev pub end_of_step : Step → StepFault → End
end_of_step step (fault.RemoteFault side) = RemoteFault side
end_of_step step (fault.Moved side listed read) = Moved side (path_of step) listed read

-- # The lock

-- at least half of the time that a lock holds, rounded down, has passed since it was written
abbrev pub IsDue : ℤ → ℤ → ℤ → Type 0
IsDue max_lock written_at now = int_div max_lock (pos 2) ≤ℤ (now -ℤ written_at)

-- where it was due the lock was written again at that moment, and else it is as it was last written
abbrev pub IsKeptAt : Bool → Option ℤ → ℤ → ℤ → WorkFolder → ℤ → WorkFolder → Type 0
IsKeptAt tells None written_at now old last new = (last ≡ written_at) × (IsTrue tells → new ≡ old)
IsKeptAt tells (Some max_lock) written_at now old last new =
    (IsDue max_lock written_at now × (last ≡ now) × (IsTrue tells → new ≡ relocked (lock_text (expiry_of now (Some max_lock))) old))
    ⊎ ((IsDue max_lock written_at now → ⊥) × (last ≡ written_at) × (IsTrue tells → new ≡ old))

-- so it is at the moment that the clock gave
pub record IsKept (clock_tells tells : Bool) (max_lock : Option ℤ) (written_at moment : ℤ) (old : WorkFolder) (last : ℤ) (new : WorkFolder) : Type 0 where
  pub now : ℤ
  pub told : IsTrue clock_tells → now ≡ moment
  pub kept : IsKeptAt tells max_lock written_at now old last new
