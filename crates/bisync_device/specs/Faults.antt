-- Counts of faults, and the calls that are left until a stop.
use Rattle.std.specs.Prelude.{◌≡◌, ◌+◌, ◌-◌, ◌^◌, ◌≤◌, ℕ, min, Bool, true, false, IsTrue, Option, Some, None, Result, Ok, Err}
use Rattle.bisync_device.specs.declared.faults.ListFault.{ListFault}
use Rattle.bisync_device.specs.declared.faults.ListFault.TheVariants.{Failed as ListFailed, OutOfMemory}

-- the count is greater than before, or stands at the greatest `u64`
abbrev pub Rose : ℕ → ℕ → Type 0
Rose before now = min (before + 1) (2 ^ 64 - 1) ≤ now

-- a call answered Failed only where the count rose; the count never falls, and stands at every other answer
pub record HasCause (failed : Bool) (before now : ℕ) : Type 0 where
  pub later : before ≤ now
  pub rose : IsTrue failed → Rose before now
  pub kept : failed ≡ false → now ≡ before

-- one call fewer until the stop
abbrev pub lowered : Option ℕ → Option ℕ
lowered None = None
lowered (Some calls) = Some (calls - 1)

-- a call was counted, and failed if the stop had come
pub record IsCounted (failed : Bool) (before now : Option ℕ) : Type 0 where
  pub lowered : now ≡ lowered before
  pub stopped : before ≡ Some 0 → IsTrue failed

-- whether a list was refused as Failed: want of memory is no fault of the device
abbrev pub is_failed : Result (Unit {0}) ListFault → Bool
is_failed (Ok _) = false
is_failed (Err ListFailed) = true
is_failed (Err OutOfMemory) = false
