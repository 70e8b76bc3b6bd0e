-- The entries that listed rows get, and the names and the listing that come of them.
use Rattle.std.specs.Prelude.{◌≡◌, ◌<◌, ◌≤◌, ℕ, Bool, true, false, IsTrue, List, length, Option, Some, None, ⊤, if◌then◌else◌}
use Rattle.std.specs.List.{sum_by}
use Rattle.bisync_tree.specs.Rows.{PathBytes, Rows, keys, look, is_among, AreRising}
use Rattle.bisync_tree.specs.Tree.{Tree}
use Rattle.bisync_tree.specs.declared.entries.Entry.{Entry}
use Rattle.bisync_tree.specs.declared.entries.Compare.{Compare}
use Rattle.bisync_observe.specs.Tally.{entry_of_bytes}
use Rattle.bisync_observe.specs.FileReading.{HasBytes, LacksSize, Differs}
use Rattle.bisync_observe.specs.Observing.{IsMoved}
use Rattle.bisync_observe.specs.declared.file_reading.ReadFault.{ReadFault}
use Rattle.bisync_observe.specs.declared.file_reading.ReadFault.TheVariants.{Failed, Moved as MovedFile}
use Rattle.bisync_observe.specs.declared.faults.ObserveFault.{ObserveFault}
use Rattle.bisync_observe.specs.declared.faults.ObserveFault.TheVariants.{RemoteFault, BadPath, TooMany, Moved, OutOfMemory}

-- a buffer that isn't empty, where files are read
abbrev pub IsRoom : Bool → List ℕ → Type 0
IsRoom reads buffer = IsTrue reads → 0 < length buffer

-- the entry of the listed size and time, with the digest of the file's bytes where digests are wanted
abbrev pub IsEntryFor : Bool → Tree → Bool → PathBytes → Entry → Entry → Type 0
IsEntryFor tells tree false path listed entry = entry ≡ listed
IsEntryFor tells tree true path listed entry = (bytes : List ℕ) × (entry ≡ entry_of_bytes listed.time bytes) × (length bytes ≡ listed.size) × (IsTrue tells → HasBytes tree path bytes)

-- a path is listed exactly where its first row passes, with an entry for that row
abbrev pub IsEntryOf : Bool → Tree → Bool → PathBytes → Option Entry → Option Entry → Type 0
IsEntryOf tells tree hash path None entry = entry ≡ None
IsEntryOf tells tree hash path (Some listed) None = ⊥
IsEntryOf tells tree hash path (Some listed) (Some entry) = IsEntryFor tells tree hash path listed entry

pub record IsSeen (tells : Bool) (tree : Tree) (hash : Bool) (passes : PathBytes → Bool) (rows : Rows) (names : List PathBytes) (listing : Rows) : Type 0 where
  pub names_rise : AreRising names
  pub listing_rises : AreRising (keys listing)
  -- a path is a name exactly where it has a row
  pub among : (p : PathBytes) → is_among p names ≡ is_among p (keys rows)
  pub entries : (p : PathBytes) → IsEntryOf tells tree hash p (if passes p then look rows p else None) (look listing p)
  pub few : length names ≤ length rows
  pub short : sum_by length names ≤ sum_by length (keys rows)

-- a row whose path passes, and whose file was not as listed
pub record IsMovedRow (tells : Bool) (tree : Tree) (compare : Compare) (passes : PathBytes → Bool) (rows : Rows) (path : PathBytes) (listed : Entry) (read : Option Entry) : Type 0 where
  pub moved : IsMoved compare passes path listed read
  pub row : look rows path ≡ Some listed
  pub lacks : IsTrue tells → LacksSize tree path listed.size

-- rows give no names and listing only where a file moved, or a call or memory failed
abbrev pub IsWhyUnseen : Bool → Tree → Compare → (PathBytes → Bool) → Rows → ObserveFault → Type 0
IsWhyUnseen tells tree compare passes rows RemoteFault = ⊤
IsWhyUnseen tells tree compare passes rows (BadPath _) = ⊥
IsWhyUnseen tells tree compare passes rows (TooMany _ _) = ⊥
IsWhyUnseen tells tree compare passes rows (Moved path listed read) = IsMovedRow tells tree compare passes rows path listed read
IsWhyUnseen tells tree compare passes rows OutOfMemory = ⊤

-- a listed file has no entry only where digests are wanted and a read failed or it moved
abbrev pub IsWhyNoEntry : Bool → Tree → Bool → PathBytes → Entry → ReadFault → Type 0
IsWhyNoEntry tells tree hash path listed Failed = hash ≡ true
IsWhyNoEntry tells tree hash path listed (MovedFile read) = (hash ≡ true) × Differs listed read × (IsTrue tells → LacksSize tree path listed.size)
