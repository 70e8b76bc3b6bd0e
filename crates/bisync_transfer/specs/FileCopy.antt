-- What a copy of a listed file leaves, from any remote to any other.
use Rattle.std.specs.Prelude.{◌≡◌, ◌≢◌, ◌⊎◌, ◌<◌, ◌≤◌, ◌^◌, ◌++◌, [], ℕ, Bool, true, false, IsTrue, List, length, Option, Some, None, IfSome, Result, Ok, Err, ⊤}
use Rattle.md5.specs.Md5.{md5}
use Rattle.bisync_tree.specs.Tree.{Tree, file_at, put, brought}
use Rattle.bisync_tree.specs.Rows.{PathBytes}
use Rattle.bisync_tree.specs.declared.entries.Entry.{Entry}
use Rattle.bisync_tree.specs.declared.files.File.{File}
use Rattle.bisync_device.specs.FolderSet.{has_for_file}
use Rattle.bisync_device.specs.Remote.{RemoteState, KeepsTree, Changed}
use Rattle.bisync_transfer.specs.Tally.{entry_read}
use Rattle.bisync_transfer.specs.declared.copies.CopyFault.{CopyFault}
use Rattle.bisync_transfer.specs.declared.copies.CopyFault.TheVariants.{Source, Destination, Moved}

-- the bytes have the listed size, and the listed digest where there is one
pub record IsListed (listed : Entry) (bytes : List ℕ) : Type 0 where
  pub size : length bytes ≡ listed.size
  pub digest : IfSome listed.hash (λ hash. md5 bytes ≡ hash)

-- the file at the path has these bytes
abbrev pub HasBytes : RemoteState → PathBytes → List ℕ → Type 0
HasBytes state path bytes = (file : File) × (file_at state.tree path ≡ Some file) × (file.bytes ≡ bytes)

-- the file at the path is there, and is as listed
abbrev pub HasListed : RemoteState → PathBytes → Entry → Type 0
HasListed state path listed = (file : File) × (file_at state.tree path ≡ Some file) × IsListed listed file.bytes

-- the tree with these bytes and the listed time at the path, as the remote keeps times
abbrev pub copied : RemoteState → PathBytes → Entry → List ℕ → Tree
copied state path listed bytes = put state.tree path (brought state.window (record { bytes = bytes; time = listed.time }))

-- the copy was made: of bytes that are as listed, and are those of the source. Neither remote had stopped
pub record Copies (from_tells to_tells : Bool) (path : PathBytes) (listed : Entry) (from to after : RemoteState) : Type 0 where
  pub from_unstopped : from.left ≢ Some 0
  pub to_unstopped : to.left ≢ Some 0
  pub bytes : List ℕ
  pub listed_bytes : IsListed listed bytes
  pub source : IsTrue from_tells → HasBytes from path bytes
  pub change : IsTrue to_tells → Changed to after (copied to path listed bytes) (has_for_file to.folders to.tree path)

-- what was read isn't as listed. Reading ends where more is read than listed, and else at the end of the file
pub record IsMisread (tells : Bool) (path : PathBytes) (listed read : Entry) (from : RemoteState) : Type 0 where
  pub bytes : List ℕ
  pub entry : read ≡ entry_read listed bytes
  pub differs : (read.size ≢ listed.size) ⊎ (read.hash ≢ listed.hash)
  pub source : IsTrue tells → (more : List ℕ) × HasBytes from path (bytes ++ more) × (length bytes ≤ listed.size → more ≡ [])

-- the file has more bytes than can be counted, and so more than listed
pub record IsTooLarge (path : PathBytes) (listed : Entry) (from : RemoteState) : Type 0 where
  pub bytes : List ℕ
  pub there : HasBytes from path bytes
  pub uncounted : 2 ^ 64 ≤ length bytes
  pub longer : listed.size < length bytes

-- what was read of a file that isn't as listed: nothing, where it isn't there or is too large
abbrev pub IsMoved : Bool → PathBytes → Entry → RemoteState → Option Entry → Type 0
IsMoved tells path listed from None = IsTrue tells → (file_at from.tree path ≡ None) ⊎ IsTooLarge path listed from
IsMoved tells path listed from (Some read) = IsMisread tells path listed read from

abbrev pub is_source : {T : Type 0} → Result T CopyFault → Bool
is_source (Ok _) = false
is_source (Err Source) = true
is_source (Err Destination) = false
is_source (Err (Moved _)) = false

abbrev pub is_destination : {T : Type 0} → Result T CopyFault → Bool
is_destination (Ok _) = false
is_destination (Err Source) = false
is_destination (Err Destination) = true
is_destination (Err (Moved _)) = false

-- what each answer of a copy leaves on the destination, and why it comes
abbrev pub CopyEffect : Bool → Bool → PathBytes → Entry → RemoteState → RemoteState → RemoteState → Result (Unit {0}) CopyFault → Type 0
CopyEffect from_tells to_tells path listed from to after (Ok _) = Copies from_tells to_tells path listed from to after
CopyEffect from_tells to_tells path listed from to after (Err Source) = KeepsTree to_tells to after
CopyEffect from_tells to_tells path listed from to after (Err Destination) =
    KeepsTree to_tells to after ⊎ Copies from_tells to_tells path listed from to after
CopyEffect from_tells to_tells path listed from to after (Err (Moved read)) = KeepsTree to_tells to after × IsMoved from_tells path listed from read

-- the bytes read are more than listed, or more than can be counted
abbrev pub IsLonger : Entry → List ℕ → Option Entry → Type 0
IsLonger listed bytes None = 2 ^ 64 ≤ length bytes
IsLonger listed bytes (Some read) = read ≡ entry_read listed bytes

-- what the pieces of a file come to
abbrev pub Streams : Bool → Bool → Entry → RemoteState → RemoteState → RemoteState → Result Entry CopyFault → Type 0
Streams from_tells to_tells listed from to after (Ok read) =
    (bytes : List ℕ) × (read ≡ entry_read listed bytes) × (length bytes ≤ listed.size)
    × (IsTrue from_tells → from.reading.rest ≡ bytes) × (after.begun ≡ true) × (IsTrue to_tells → after.part ≡ bytes)
Streams from_tells to_tells listed from to after (Err Source) = ⊤
Streams from_tells to_tells listed from to after (Err Destination) = ⊤
Streams from_tells to_tells listed from to after (Err (Moved read)) =
    (bytes : List ℕ) × (listed.size < length bytes) × IsLonger listed bytes read
    × (IsTrue from_tells → (more : List ℕ) × (from.reading.rest ≡ bytes ++ more))

-- what was read of a file that isn't as listed has at most this many bytes
abbrev pub ReadsAtMost : {T : Type 0} → ℕ → Result T CopyFault → Type 0
ReadsAtMost most (Ok _) = ⊤
ReadsAtMost most (Err Source) = ⊤
ReadsAtMost most (Err Destination) = ⊤
ReadsAtMost most (Err (Moved None)) = ⊤
ReadsAtMost most (Err (Moved (Some read))) = read.size ≤ most
