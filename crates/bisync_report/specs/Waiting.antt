-- Bytes that wait to be given to a sink.
use Rattle.std.specs.Prelude.{◌≡◌, ℕ, Bool, IsTrue, List, ◌++◌, Result, Ok, Err, is_err}
use Rattle.bisync_device.specs.Faults.{HasCause}
use Rattle.bisync_device.specs.Sink.{SinkState}
use Rattle.bisync_device.specs.declared.faults.Failed.{Failed}

-- of all that a sink was to be given, it got a beginning, and this is left
pub record Gives (all left before after : List ℕ) : Type 0 where
  pub given : List ℕ
  pub added : after ≡ before ++ given
  pub whole : all ≡ given ++ left

-- what is left waits; where a write failed, any of it may be lost
abbrev pub Leaves : Result (Unit {0}) Failed → List ℕ → List ℕ → List ℕ → List ℕ → Type 0
Leaves (Ok _) all waiting before after = Gives all waiting before after
Leaves (Err _) all waiting before after = (left : List ℕ) × Gives all left before after

-- the bytes were put behind those that waited
pub record Puts (tells : Bool) (bytes waiting : List ℕ) (before : SinkState) (still : List ℕ) (after : SinkState) (result : Result (Unit {0}) Failed) : Type 0 where
  pub cause : HasCause (is_err result) before.faults after.faults
  pub given : IsTrue tells → Leaves result (waiting ++ bytes) still before.bytes after.bytes
