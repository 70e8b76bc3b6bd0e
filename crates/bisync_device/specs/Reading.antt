-- What is open to be read, on a remote or in a work folder.
use Rattle.std.specs.Prelude.{◌≡◌, ◌≤◌, ℕ, Bool, true, false, IsTrue, List, [], ◌++◌, length, take, Result, Ok, Err}
use Rattle.bisync_device.specs.declared.faults.Failed.{Failed}

pub record Reading : Type 0 where
  -- whether something is open, which every device tells
  pub opened : Bool
  -- the bytes still to read
  pub rest : List ℕ

pub record KeepsReading (tells : Bool) (before after : Reading) : Type 0 where
  pub opened : after.opened ≡ before.opened
  pub rest : IsTrue tells → after.rest ≡ before.rest

-- the next bytes stand at the front of the buffer; there are none only at the end
pub record Takes (tells : Bool) (before after : Reading) (count : ℕ) (buffer : List ℕ) : Type 0 where
  pub opened : after.opened ≡ true
  pub within : count ≤ length buffer
  pub bytes : IsTrue tells → before.rest ≡ take count buffer ++ after.rest
  pub ends : IsTrue tells → count ≡ 0 → before.rest ≡ []

-- a read that failed closes what is open
abbrev pub Reads : Bool → List ℕ → Reading → Reading → Result ℕ Failed → Type 0
Reads tells buffer before after (Ok count) = Takes tells before after count buffer
Reads tells buffer before after (Err _) = after.opened ≡ false
