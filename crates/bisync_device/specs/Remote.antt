-- What a remote is to its callers: its meaning, and what each call does to it.
use Rattle.std.specs.Prelude.{◌≡◌, ◌≢◌, ◌⊎◌, ◌+◌, ℕ, ℤ, Bool, true, false, IsTrue, List, ◌++◌, Option, Some, None, IsSome, Result, Ok, Err, All}
use Rattle.std.specs.Option.{option_map_or}
use Rattle.std.specs.List.Sorted.{IsPermutation}
use Rattle.bisync_text.specs.Path.{IsPath}
use Rattle.bisync_tree.specs.Tree.{Tree, file_at, put, without, brought}
use Rattle.bisync_tree.specs.Rows.{PathBytes, items_of}
use Rattle.bisync_tree.specs.declared.files.File.{File}
use Rattle.bisync_tree.specs.declared.files.Item.{Item}
use Rattle.bisync_tree.specs.declared.windows.Window.{Window}
use Rattle.bisync_device.specs.Faults.{HasCause, IsCounted}
use Rattle.bisync_device.specs.Reading.{Reading}
use Rattle.bisync_device.specs.FolderSet.{FolderSet, has_folder, has_above, has_for_file}
use Rattle.bisync_device.specs.declared.faults.Failed.{Failed}

-- the meaning of a remote. Of its tree, folders, changes, part and bytes still to read the clauses
-- speak only where the remote's type tells what it holds
pub record RemoteState : Type 0 where
  pub tree : Tree
  pub folders : FolderSet
  -- the commits, renames and deletes done
  pub changes : ℕ
  pub reading : Reading
  -- whether a part is begun, which every remote tells
  pub begun : Bool
  -- the part in writing
  pub part : List ℕ
  pub faults : ℕ
  -- the calls until the stop, where there is to be one
  pub left : Option ℕ
  -- the precision of the times that it keeps
  pub window : Window

-- what every counted call does, by whether it answers Failed
pub record IsCall (failed : Bool) (before after : RemoteState) : Type 0 where
  pub cause : HasCause failed before.faults after.faults
  pub counted : IsCounted failed before.left after.left
  pub window : after.window ≡ before.window

pub record KeepsFiles (before after : RemoteState) : Type 0 where
  pub tree : after.tree ≡ before.tree
  pub changes : after.changes ≡ before.changes

pub record Unchanged (before after : RemoteState) : Type 0 where
  pub tree : after.tree ≡ before.tree
  pub changes : after.changes ≡ before.changes
  pub folders : after.folders ≡ before.folders

-- one change was made, which left this tree and these folders
pub record Changed (before after : RemoteState) (made : Tree) (has : PathBytes → Bool) : Type 0 where
  pub tree : after.tree ≡ made
  pub changes : after.changes ≡ before.changes + 1
  pub folders : (q : PathBytes) → has_folder after.folders q ≡ has q

abbrev pub KeepsTree : Bool → RemoteState → RemoteState → Type 0
KeepsTree tells before after = IsTrue tells → Unchanged before after

-- a change that failed was done or wasn't, and wasn't after the stop
abbrev pub MayChange : Bool → RemoteState → RemoteState → Tree → (PathBytes → Bool) → Type 0
MayChange tells before after tree has = KeepsTree tells before after ⊎ ((before.left ≢ Some 0) × (IsTrue tells → Changed before after tree has))

pub record KeepsWriting (tells : Bool) (before after : RemoteState) : Type 0 where
  pub begun : after.begun ≡ before.begun
  pub part : IsTrue tells → after.part ≡ before.part

-- nothing is open, and no part is begun
pub record IsClosed (state : RemoteState) : Type 0 where
  pub opened : state.reading.opened ≡ false
  pub begun : state.begun ≡ false

-- items are added, what stood there stays; after Ok they are those of the tree, in any order
pub record Lists (tells : Bool) (tree : Tree) (old new : List Item) (ok : Bool) : Type 0 where
  pub more : List Item
  pub added : new ≡ old ++ more
  pub items : IsTrue ok → IsTrue tells → IsPermutation more (items_of tree)
  pub paths : IsTrue ok → IsTrue tells → All (λ item. IsPath item.path) more

-- true exactly where the file is there, whose bytes are then to read; every other answer closes
abbrev pub Opens : Bool → PathBytes → RemoteState → RemoteState → Result Bool Failed → Type 0
Opens tells path before after (Ok true) =
    (after.reading.opened ≡ true)
    × (IsTrue tells → (file : File) × (file_at before.tree path ≡ Some file) × (after.reading.rest ≡ file.bytes))
Opens tells path before after (Ok false) = (after.reading.opened ≡ false) × (IsTrue tells → file_at before.tree path ≡ None)
Opens tells path before after (Err _) = after.reading.opened ≡ false

-- the part in writing is this, or none is begun
abbrev pub Writes : Bool → List ℕ → RemoteState → Result (Unit {0}) Failed → Type 0
Writes tells part after (Ok _) = (after.begun ≡ true) × (IsTrue tells → after.part ≡ part)
Writes tells part after (Err _) = after.begun ≡ false

-- the tree with the part and the time at the path, as the remote keeps times
abbrev pub committed : RemoteState → PathBytes → ℤ → Tree
committed state path time = put state.tree path (brought state.window (record { bytes = state.part; time = time }))

abbrev pub Commits : Bool → PathBytes → ℤ → RemoteState → RemoteState → Result (Unit {0}) Failed → Type 0
Commits tells path time before after (Ok _) = IsTrue tells → Changed before after (committed before path time) (has_for_file before.folders before.tree path)
Commits tells path time before after (Err _) = MayChange tells before after (committed before path time) (has_for_file before.folders before.tree path)

-- the tree with the file at `from` moved over `to`
abbrev pub renamed : Tree → PathBytes → PathBytes → Tree
renamed tree from to = option_map_or (λ file. put (without tree from) to file) (file_at tree from) tree

abbrev pub HasFile : Bool → PathBytes → RemoteState → Type 0
HasFile tells path state = IsTrue tells → IsSome (file_at state.tree path)

abbrev pub LacksFile : Bool → PathBytes → RemoteState → Type 0
LacksFile tells path state = IsTrue tells → file_at state.tree path ≡ None

-- a change at a path that has a file; false exactly where it has none, and then nothing is changed
abbrev pub ChangesFile : Bool → PathBytes → Tree → (PathBytes → Bool) → RemoteState → RemoteState → Result Bool Failed → Type 0
ChangesFile tells path tree has before after (Ok true) = HasFile tells path before × (IsTrue tells → Changed before after tree has)
ChangesFile tells path tree has before after (Ok false) = LacksFile tells path before × KeepsTree tells before after
ChangesFile tells path tree has before after (Err _) =
    KeepsTree tells before after
    ⊎ (HasFile tells path before × (before.left ≢ Some 0) × (IsTrue tells → Changed before after tree has))

-- the tree after a user put a file or took it away
abbrev pub edited : Tree → PathBytes → Option File → Tree
edited tree path (Some file) = put tree path file
edited tree path None = without tree path

abbrev pub has_edited : FolderSet → PathBytes → Option File → PathBytes → Bool
has_edited folders path (Some file) = has_above folders path
has_edited folders path None = has_folder folders

-- an edit is no counted call, and fails in a stop, too
pub record IsEdit (failed : Bool) (before after : RemoteState) : Type 0 where
  pub cause : HasCause failed before.faults after.faults
  pub stopped : before.left ≡ Some 0 → IsTrue failed
  pub left : after.left ≡ before.left
  pub window : after.window ≡ before.window

-- it puts the file as given or takes it away, and is none of the changes
pub record EditsFile (path : PathBytes) (file : Option File) (failed : Bool) (before after : RemoteState) : Type 0 where
  pub changes : after.changes ≡ before.changes
  pub done : failed ≡ false → after.tree ≡ edited before.tree path file
  pub folders : failed ≡ false → (q : PathBytes) → has_folder after.folders q ≡ has_edited before.folders path file q
  pub refused : IsTrue failed → Unchanged before after

-- no stop is to come, and what was open or in writing is closed
pub record IsWoken (before after : RemoteState) : Type 0 where
  pub left : after.left ≡ None
  pub closed : IsClosed after
  pub window : after.window ≡ before.window
  pub faults : after.faults ≡ before.faults
