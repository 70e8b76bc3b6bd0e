-- The count and the digest of the bytes read so far.
use Rattle.std.specs.Prelude.{◌≡◌, ℕ, ℤ, List, length, Some, None}
use Rattle.md5.specs.Md5.{md5, Holds}
use Rattle.bisync_tree.specs.declared.entries.Entry.{Entry}
use Rattle.bisync_observe.specs.declared.tallies.Tally.{Tally}

pub record Tallies (tally : Tally) (bytes : List ℕ) : Type 0 where
  pub size : tally.size ≡ length bytes
  pub digest : Holds tally.hasher bytes

-- the entry of these bytes at this time, with their digest
abbrev pub entry_of_bytes : ℤ → List ℕ → Entry
entry_of_bytes time bytes = record { size = length bytes; time = time; hash = Some (md5 bytes) }

-- the entry of the number of these bytes at this time, without a digest, as a remote lists it
abbrev pub entry_of_size : ℤ → List ℕ → Entry
entry_of_size time bytes = record { size = length bytes; time = time; hash = None }
