-- What reading one listed file comes to.
use Rattle.std.specs.Prelude.{◌≡◌, ◌≢◌, ℕ, Bool, true, false, IsTrue, List, length, Option, Some, None, Result, Ok, Err, ⊤}
use Rattle.bisync_tree.specs.Tree.{Tree, file_at}
use Rattle.bisync_tree.specs.Rows.{PathBytes}
use Rattle.bisync_tree.specs.declared.entries.Entry.{Entry}
use Rattle.bisync_tree.specs.declared.files.File.{File}
use Rattle.bisync_device.specs.Remote.{RemoteState, KeepsTree, KeepsWriting}
use Rattle.bisync_observe.specs.Tally.{entry_of_bytes, entry_of_size}
use Rattle.bisync_observe.specs.declared.file_reading.ReadFault.{ReadFault}
use Rattle.bisync_observe.specs.declared.file_reading.ReadFault.TheVariants.{Failed, Moved}

-- calls were made that changed no file, no folder and no part in writing
pub record OnlyReads (tells : Bool) (before after : RemoteState) : Type 0 where
  pub tree : KeepsTree tells before after
  pub writing : KeepsWriting tells before after
  pub window : after.window ≡ before.window
  pub left : before.left ≡ None → after.left ≡ None

abbrev pub HasBytes : Tree → PathBytes → List ℕ → Type 0
HasBytes tree path bytes = (file : File) × (file_at tree path ≡ Some file) × (file.bytes ≡ bytes)

-- the tree has no file of this size there
abbrev pub LacksSize : Tree → PathBytes → ℕ → Type 0
LacksSize tree path size = (file : File) → file_at tree path ≡ Some file → length file.bytes ≢ size

-- the entry tells the number of the bytes read, with the listed time and, as the listed one, no digest
pub record IsRead (listed read : Entry) : Type 0 where
  pub bytes : List ℕ
  pub entry : read ≡ entry_of_size listed.time bytes

-- nothing was there to be read, or the bytes are too many to be counted, or other than listed
abbrev pub Differs : Entry → Option Entry → Type 0
Differs listed None = ⊤
Differs listed (Some read) = IsRead listed read × (read.size ≢ listed.size)

abbrev pub is_failed_read : {T : Type 0} → Result T ReadFault → Bool
is_failed_read (Ok _) = false
is_failed_read (Err Failed) = true
is_failed_read (Err (Moved _)) = false

-- the entry of the whole file, or why there is none
abbrev pub ReadsFile : Bool → Tree → PathBytes → Entry → Result Entry ReadFault → Type 0
ReadsFile tells tree path listed (Ok read) = (bytes : List ℕ) × (read ≡ entry_of_bytes listed.time bytes) × (length bytes ≡ listed.size) × (IsTrue tells → HasBytes tree path bytes)
ReadsFile tells tree path listed (Err Failed) = ⊤
ReadsFile tells tree path listed (Err (Moved read)) = Differs listed read × (IsTrue tells → LacksSize tree path listed.size)

-- the same of the bytes that are still to read of what is open
abbrev pub Streams : Bool → List ℕ → Entry → Result Entry ReadFault → Type 0
Streams tells rest listed (Ok read) = (bytes : List ℕ) × (read ≡ entry_of_bytes listed.time bytes) × (length bytes ≡ listed.size) × (IsTrue tells → rest ≡ bytes)
Streams tells rest listed (Err Failed) = ⊤
Streams tells rest listed (Err (Moved read)) = Differs listed read × (IsTrue tells → length rest ≢ listed.size)
