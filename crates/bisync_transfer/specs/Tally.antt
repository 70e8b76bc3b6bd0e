-- The number and the digest of the bytes read of a listed file.
use Rattle.std.specs.Prelude.{◌≡◌, ℕ, List, length, Option, Some, None, is_some, if◌then◌else◌, ⊤}
use Rattle.md5.specs.Md5.{md5, Holds}
use Rattle.md5.specs.declared.Md5.{Md5}
use Rattle.bisync_tree.specs.declared.entries.Entry.{Entry}
use Rattle.bisync_transfer.specs.declared.tallies.Tally.{Tally}

-- a hasher is there exactly where a digest is listed, and holds these bytes
abbrev pub Hashes : Option (List ℕ) → Option Md5 → List ℕ → Type 0
Hashes None None bytes = ⊤
Hashes None (Some hasher) bytes = ⊥
Hashes (Some digest) None bytes = ⊥
Hashes (Some digest) (Some hasher) bytes = Holds hasher bytes

pub record Tallies (listed : Entry) (tally : Tally) (bytes : List ℕ) : Type 0 where
  pub size : tally.size ≡ length bytes
  pub digest : Hashes listed.hash tally.hasher bytes

-- what was read of a file, in the listed entry's terms
abbrev pub entry_read : Entry → List ℕ → Entry
entry_read listed bytes = record { size = length bytes; time = listed.time; hash = if is_some listed.hash then Some (md5 bytes) else None }
