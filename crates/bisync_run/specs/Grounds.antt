-- What an end rests on, whatever the devices tell of what they hold.
use Rattle.std.specs.Prelude.{◌≡◌, ◌≢◌, ◌⊎◌, ◌<◌, ℕ, List, Bool, IsTrue, Option, Some, None, ⊤}
use Rattle.bisync_text.specs.Path.{IsPath}
use Rattle.bisync_tree.specs.declared.sides.Side.{Side}
use Rattle.bisync_tree.specs.declared.entries.Entry.{Entry}
use Rattle.bisync_tree.specs.declared.options.Limits.{Limits}
use Rattle.bisync_plan.specs.Faults.{most}
use Rattle.bisync_observe.specs.Counting.{IsOver, AreOfTree}
use Rattle.bisync_transfer.specs.Tally.{entry_read}
use Rattle.bisync_report.specs.declared.ends.End.{End}
use Rattle.bisync_report.specs.declared.ends.End.TheVariants.{BadPath, TooMany, ListingTooLong, Moved}
use Rattle.bisync_run.specs.Untouched.{Remotes}

-- nothing could be read, or the number of bytes or the digest is another than listed; the listed time is told again
abbrev pub IsOther : Entry → Option Entry → Type 0
IsOther listed None = ⊤
IsOther listed (Some read) = (read.time ≡ listed.time) × ((read.size ≢ listed.size) ⊎ (read.hash ≢ listed.hash))

-- a text that is no path, a number over its limit, two entries that differ
abbrev pub HasGrounds : Limits → (Side → Bool) → End → Type 0
HasGrounds limits tells (BadPath side text) = (IsPath text → ⊥) × (IsTrue (tells side) → ⊥)
HasGrounds limits tells (TooMany side files bytes) = IsOver limits files bytes
HasGrounds limits tells (ListingTooLong side bytes) = most limits.listing < bytes
HasGrounds limits tells (Moved side path listed read) = IsOther listed read
HasGrounds limits tells end = ⊤

-- what is told of a file that was read: the number of these bytes, the listed time and, where one is listed, their digest
abbrev pub IsReadAs : Entry → Option Entry → Type 0
IsReadAs listed None = ⊤
IsReadAs listed (Some read) = (bytes : List ℕ) × (read ≡ entry_read listed bytes)

-- A number of files is that of a tree that is told. A file isn't as it was listed only where its own side doesn't tell, and
-- what was read of it is told.
abbrev pub IsTold : (Side → Bool) → Remotes → End → Type 0
IsTold tells start (TooMany side files bytes) = IsTrue (tells side) → AreOfTree (start side).tree files bytes
IsTold tells start (Moved side path listed read) = (IsTrue (tells side) → ⊥) × IsReadAs listed read
IsTold tells start end = ⊤
