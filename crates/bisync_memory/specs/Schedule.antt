-- Which counted calls of a memory device fail.
use Rattle.std.specs.Prelude.{◌≡◌, ◌≢◌, ◌⊎◌, ◌+◌, ◌-◌, ◌^◌, ◌==◌, ℕ, Bool, true, false, min, max, List, Option, Some, None, Result, Ok, Err, find, option_map}
use Rattle.bisync_device.specs.Faults.{HasCause, IsCounted}
use Rattle.bisync_device.specs.declared.faults.Failed.{Failed}
use Rattle.bisync_memory.specs.declared.schedules.Schedule.{Schedule}
use Rattle.bisync_memory.specs.declared.schedules.Verdict.{Verdict}
use Rattle.bisync_memory.specs.declared.schedules.Verdict.TheVariants.{Go, Fail, FailDone}

-- one more, up to the greatest `u64`
abbrev pub raised : ℕ → ℕ
raised count = max count (min (count + 1) (2 ^ 64 - 1))

-- whether the call of this number is to fail, and then whether its effect is done
abbrev pub listed : List (ℕ × Bool) → ℕ → Option Bool
listed failures call = option_map (λ failure. failure.1) (find (λ failure. failure.0 == call) failures)

-- what a verdict says of the list and the stop
abbrev pub IsVerdict : Verdict → Schedule → Type 0
IsVerdict Go before = (before.left ≢ Some 0) × (listed before.failures.items (raised before.calls) ≡ None)
IsVerdict Fail before = (before.left ≡ Some 0) ⊎ (listed before.failures.items (raised before.calls) ≡ Some false)
IsVerdict FailDone before = (before.left ≢ Some 0) × (listed before.failures.items (raised before.calls) ≡ Some true)

abbrev pub is_fail : Verdict → Bool
is_fail Go = false
is_fail Fail = true
is_fail FailDone = true

pub record IsTick (failed : Bool) (before after : Schedule) : Type 0 where
  pub cause : HasCause failed before.faults after.faults
  pub counted : IsCounted failed before.left after.left
  pub calls : after.calls ≡ raised before.calls
  pub failures : after.failures.items ≡ before.failures.items

-- a call that has no effect to be done goes on exactly where the list and the stop let it
abbrev pub Passes : Result (Unit {0}) Failed → Schedule → Type 0
Passes (Ok _) before = IsVerdict Go before
Passes (Err _) before = IsVerdict Fail before ⊎ IsVerdict FailDone before

-- a fault beside the call
pub record IsFault (before after : Schedule) : Type 0 where
  pub cause : HasCause true before.faults after.faults
  pub left : after.left ≡ before.left
  pub calls : after.calls ≡ before.calls
  pub failures : after.failures ≡ before.failures

-- the answer of a call that was done
abbrev pub answer_of : Verdict → Bool → Result Bool Failed
answer_of Go found = Ok found
answer_of Fail found = Err (record {})
answer_of FailDone found = Err (record {})

abbrev pub done_of : Verdict → Result (Unit {0}) Failed
done_of Go = Ok tt
done_of Fail = Err (record {})
done_of FailDone = Err (record {})

-- the call that comes next is to fail, by the list or after the stop
abbrev pub IsToFail : Schedule → Type 0
IsToFail schedule = IsVerdict Fail schedule ⊎ IsVerdict FailDone schedule
