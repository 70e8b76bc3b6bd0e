-- The meaning of a memory remote, and its counts.
use Rattle.std.specs.Prelude.{◌≡◌, ◌⊎◌, ◌-◌, ◌^◌, ℕ, Bool, false, List, IsSome}
use Rattle.bisync_tree.specs.Tree.{Tree, file_at}
use Rattle.bisync_tree.specs.Rows.{PathBytes}
use Rattle.bisync_device.specs.FolderSet.{has_folder}
use Rattle.bisync_device.specs.Remote.{RemoteState}
use Rattle.bisync_memory.specs.Schedule.{IsVerdict, raised}
use Rattle.bisync_memory.specs.Store.{store_tree, store_folders}
use Rattle.bisync_memory.specs.declared.schedules.Verdict.TheVariants.{Go, Fail, FailDone}
use Rattle.bisync_memory.specs.declared.mem_remotes.MemRemote.{MemRemote}

abbrev pub remote_state : MemRemote → RemoteState
remote_state m = record {
  tree = store_tree m.store;
  folders = store_folders m.store;
  changes = m.changes;
  reading = record { opened = m.opened; rest = m.reading };
  begun = m.begun;
  part = m.part.items;
  faults = m.schedule.faults;
  left = m.schedule.left;
  window = m.window;
}

-- how many calls were counted
abbrev pub calls_of : MemRemote → ℕ
calls_of m = m.schedule.calls

-- the numbers of the calls that are to fail, each with whether its effect is done
abbrev pub failures_of : MemRemote → List (ℕ × Bool)
failures_of m = m.schedule.failures.items

-- neither the list nor a stop lets the next call fail
abbrev pub GoesOn : MemRemote → Type 0
GoesOn m = IsVerdict Go m.schedule

-- the next call is to fail without effect, by the list or in a stop
abbrev pub FailsUndone : MemRemote → Type 0
FailsUndone m = IsVerdict Fail m.schedule

-- the next call is to fail by the list, with its effect done
abbrev pub FailsDone : MemRemote → Type 0
FailsDone m = IsVerdict FailDone m.schedule

-- the next call is to fail, by the list or in a stop
abbrev pub IsToFail : MemRemote → Type 0
IsToFail m = FailsUndone m ⊎ FailsDone m

-- a call was counted, no failure was listed, and it failed if it was to fail
pub record CountsCall (failed : Bool) (before after : MemRemote) : Type 0 where
  pub calls : calls_of after ≡ raised (calls_of before)
  pub failures : failures_of after ≡ failures_of before
  pub goes : failed ≡ false → GoesOn before

-- what isn't counted leaves the count and the list
pub record KeepsCounts (before after : MemRemote) : Type 0 where
  pub calls : calls_of after ≡ calls_of before
  pub failures : failures_of after ≡ failures_of before

-- all but the tree and the folders stays
pub record KeepsRest (before after : RemoteState) : Type 0 where
  pub changes : after.changes ≡ before.changes
  pub reading : after.reading ≡ before.reading
  pub begun : after.begun ≡ before.begun
  pub part : after.part ≡ before.part
  pub faults : after.faults ≡ before.faults
  pub left : after.left ≡ before.left
  pub window : after.window ≡ before.window

-- the tree is this and the folders are these, and all else stays
pub record IsPut (before after : RemoteState) (made : Tree) (has : PathBytes → Bool) : Type 0 where
  pub tree : after.tree ≡ made
  pub folders : (q : PathBytes) → has_folder after.folders q ≡ has q
  pub others : KeepsRest before after

-- a file is at the path, and no count of changes is above this one
pub record IsFull (state : RemoteState) (path : PathBytes) : Type 0 where
  pub changes : state.changes ≡ 2 ^ 64 - 1
  pub file : IsSome (file_at state.tree path)
