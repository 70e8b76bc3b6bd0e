-- What a sink is to its callers.
use Rattle.std.specs.Prelude.{◌≡◌, ℕ, Bool, IsTrue, List, ◌++◌, take, Result, Ok, Err}
use Rattle.bisync_device.specs.declared.faults.Failed.{Failed}

-- the meaning of a sink. Of its bytes the clauses speak only where the sink's type tells them
pub record SinkState : Type 0 where
  pub bytes : List ℕ
  pub faults : ℕ

-- the bytes were added, or a prefix of them where the write failed
abbrev pub Adds : Bool → List ℕ → SinkState → SinkState → Result (Unit {0}) Failed → Type 0
Adds tells bytes before after (Ok _) = IsTrue tells → after.bytes ≡ before.bytes ++ bytes
Adds tells bytes before after (Err _) = IsTrue tells → (n : ℕ) × (after.bytes ≡ before.bytes ++ take n bytes)
