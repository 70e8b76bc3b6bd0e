-- What the close of a run leaves: the listings fall where the end asks for it, and the lock goes.
use Rattle.std.specs.Prelude.{◌≡◌, ◌⊎◌, ◌≤◌, ◌++◌, ℕ, List, true, Option, Result, Ok, Err}
use Rattle.bisync_device.specs.Faults.{Rose}
use Rattle.bisync_device.specs.Sink.{SinkState}
use Rattle.bisync_device.specs.WorkFolder.{Absent, WorkFolder, IsSettled, with_held}
use Rattle.bisync_device.specs.declared.works.WorkName.TheVariants.{Lock}
use Rattle.bisync_work.specs.declared.bases.Pair.{Pair}
use Rattle.bisync_work.specs.Base.{Base, HasBaseIn, IsBase, HasNoBase}
use Rattle.bisync_work.specs.Moves.{but_fallen}
use Rattle.bisync_work.specs.Renames.{AreBegun, fall_renames}
use Rattle.bisync_report.specs.declared.ends.End.{End}
use Rattle.bisync_report.specs.declared.ends.End.TheVariants.{LockLeft, SinkFault}
use Rattle.bisync_run.specs.EndKinds.{is_good}

-- a refusal stays the end; a good end stays, or the lock could not be removed
abbrev pub ClosesWith : Result End End → End → Type 0
ClosesWith (Ok good) end = (end ≡ good) ⊎ (end ≡ LockLeft)
ClosesWith (Err refusal) end = end ≡ refusal

-- the count of the work folder stays after a good end, and rose where the lock could not be removed
abbrev pub CountsClose : Result End End → End → ℕ → ℕ → Type 0
CountsClose (Ok good) end before now = ((end ≡ good) × (now ≡ before)) ⊎ ((end ≡ LockLeft) × Rose before now)
CountsClose (Err refusal) end before now = before ≤ now

-- the base is as before, under the same names, or there is none; the lock is as before or gone; what was settled still is,
-- and only the names of a base, the -err names and the lock changed
pub record Closes (old new : WorkFolder) : Type 0 where
  pub base : (limit : ℕ) (base : Option Base) → IsBase limit old base → IsBase limit new base ⊎ HasNoBase limit new
  pub pair : (limit : ℕ) (pair : Pair) (base : Base) → HasBaseIn limit old pair base → HasBaseIn limit new pair base ⊎ HasNoBase limit new
  pub lock : (new.lock ≡ old.lock) ⊎ (new.lock ≡ Absent)
  pub settled : IsSettled old → IsSettled new
  pub rest : with_held Lock Absent (but_fallen new) ≡ with_held Lock Absent (but_fallen old)

-- only the lock changed
pub record Unlocks (old new : WorkFolder) : Type 0 where
  pub rest : with_held Lock Absent new ≡ with_held Lock Absent old

-- the renames of a fall are done, or the first of them or none; and the lock changed
pub record ClosesFall (old new : WorkFolder) : Type 0 where
  pub fallen : WorkFolder
  pub begun : AreBegun fall_renames old fallen
  pub unlocks : Unlocks fallen new

-- none of the four names of a base is there
pub record HasNoListings (f : WorkFolder) : Type 0 where
  pub one : f.one ≡ Absent
  pub two : f.two ≡ Absent
  pub one_old : f.one_old ≡ Absent
  pub two_old : f.two_old ≡ Absent

-- the end stays, but where the last line failed after a good end
abbrev pub EndsWith : End → End → Type 0
EndsWith end last = (last ≡ end) ⊎ ((is_good end ≡ true) × (last ≡ SinkFault true))

-- what was told before stays; and where the sink didn't fail, these bytes stand at the end
abbrev pub AddsLast : List ℕ → SinkState → SinkState → Type 0
AddsLast last before after =
    ((added : List ℕ) × (after.bytes ≡ before.bytes ++ added))
    × ((Rose before.faults after.faults → ⊥) → (lines : List ℕ) × (after.bytes ≡ (before.bytes ++ lines) ++ last))
