-- What a counted call of a memory device does, by the list of its failures and the stop.
use Rattle.std.specs.Prelude.{◌≡◌, ◌⊎◌, ℕ, Bool, IsTrue, List, Option, Result, Ok, Err}
use Rattle.bisync_device.specs.Faults.{lowered}
use Rattle.bisync_device.specs.declared.faults.Failed.{Failed}
use Rattle.bisync_memory.specs.Schedule.{raised, IsVerdict, IsToFail}
use Rattle.bisync_memory.specs.declared.schedules.Schedule.{Schedule}
use Rattle.bisync_memory.specs.declared.schedules.Verdict.TheVariants.{Go, Fail, FailDone}

-- the calls so far, up to the greatest `u64`
abbrev pub calls_of : Schedule → ℕ
calls_of schedule = schedule.calls

-- the calls that are to fail, and whether their effect is then done
abbrev pub failures_of : Schedule → List (ℕ × Bool)
failures_of schedule = schedule.failures.items

-- the calls until the stop, where there is to be one
abbrev pub left_of : Schedule → Option ℕ
left_of schedule = schedule.left

-- a call was counted, and the listed failures stay
pub record Counts (before after : Schedule) : Type 0 where
  pub calls : calls_of after ≡ raised (calls_of before)
  pub left : left_of after ≡ lowered (left_of before)
  pub failures : failures_of after ≡ failures_of before

-- no call was counted, and the listed failures stay
pub record KeepsCounts (before after : Schedule) : Type 0 where
  pub calls : calls_of after ≡ calls_of before
  pub failures : failures_of after ≡ failures_of before

-- a call fails exactly where it is to fail
abbrev pub Goes : {A : Type 0} → Schedule → Result A Failed → Type 0
Goes schedule (Ok _) = IsVerdict Go schedule
Goes schedule (Err _) = IsToFail schedule

-- a call fails where it is to fail, and may fail for want of memory where this test holds
abbrev pub MayGo : {A : Type 0} → Schedule → Bool → Result A Failed → Type 0
MayGo schedule test (Ok _) = IsVerdict Go schedule
MayGo schedule test (Err _) = IsToFail schedule ⊎ IsTrue test

-- a call fails exactly where it is to fail. What it was to do is then done where the list says so,
-- and else nothing is
abbrev pub Acts : {A C : Type 0} → Schedule → C → C → C → Result A Failed → Type 0
Acts schedule before done after (Ok _) = IsVerdict Go schedule
Acts schedule before done after (Err _) = (IsVerdict Fail schedule × (after ≡ before)) ⊎ (IsVerdict FailDone schedule × (after ≡ done))

-- the same of a call that may fail for want of memory, too, and then does nothing
abbrev pub MayAct : {A C : Type 0} → Schedule → C → C → C → Result A Failed → Type 0
MayAct schedule before done after (Ok _) = IsVerdict Go schedule
MayAct schedule before done after (Err _) = (after ≡ before) ⊎ (IsVerdict FailDone schedule × (after ≡ done))
