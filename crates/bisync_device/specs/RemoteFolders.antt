-- The calls on the folders of a remote.
use Rattle.std.specs.Prelude.{◌≡◌, ◌≢◌, ◌⊎◌, ◌&&◌, ◌||◌, not, Bool, true, false, IsTrue, List, ◌++◌, map, filter, bytes_eq, is_some, Some, Result, Ok, Err, All}
use Rattle.std.specs.List.{list_any}
use Rattle.std.specs.List.Sorted.{IsPermutation}
use Rattle.std.specs.FinMap as finmap
use Rattle.bisync_text.specs.Path.{IsPath, partial_name}
use Rattle.bisync_tree.specs.Tree.{file_at}
use Rattle.bisync_tree.specs.Rows.{PathBytes}
use Rattle.bisync_tree.specs.declared.files.File.{File}
use Rattle.bisync_device.specs.FolderSet.{FolderSet, has_folder, is_below, holds_file, holds_folder, has_above}
use Rattle.bisync_device.specs.Remote.{RemoteState, KeepsTree}
use Rattle.bisync_device.specs.declared.faults.Failed.{Failed}

-- the folders that are listed: all but the name of the partial file
abbrev pub listed_folders : FolderSet → List PathBytes
listed_folders folders = filter (λ q. not (bytes_eq q partial_name)) (map (λ (e : PathBytes × Unit {0}). e.0) (finmap.entries folders))

-- texts are added, what stood there stays; after Ok they are the listed folders, in any order
pub record ListsFolders (tells : Bool) (folders : FolderSet) (old new : List PathBytes) (ok : Bool) : Type 0 where
  pub more : List PathBytes
  pub added : new ≡ old ++ more
  pub texts : IsTrue ok → IsTrue tells → IsPermutation more (listed_folders folders)
  pub paths : IsTrue ok → IsTrue tells → All IsPath more

-- a folder or a file is at the path, or a file is at a parent of it
abbrev pub is_taken : RemoteState → PathBytes → Bool
is_taken state path =
    has_folder state.folders path
    || is_some (file_at state.tree path)
    || list_any (λ (e : PathBytes × File). is_below e.0 path) (finmap.entries state.tree)

-- the folder was there, and neither a file nor a folder lies below it
abbrev pub is_empty_folder : RemoteState → PathBytes → Bool
is_empty_folder state path = has_folder state.folders path && not (holds_file state.tree path) && not (holds_folder state.folders path)

-- only the folders changed, to these
pub record ChangesFolders (before after : RemoteState) (has : PathBytes → Bool) : Type 0 where
  pub tree : after.tree ≡ before.tree
  pub changes : after.changes ≡ before.changes
  pub folders : (q : PathBytes) → has_folder after.folders q ≡ has q

-- the change is made exactly where the test holds; a call that failed made it or didn't, and didn't after the stop
abbrev pub ChangesFoldersWhere : Bool → Bool → (PathBytes → Bool) → RemoteState → RemoteState → Result Bool Failed → Type 0
ChangesFoldersWhere tells test has before after (Ok true) = (IsTrue tells → test ≡ true) × (IsTrue tells → ChangesFolders before after has)
ChangesFoldersWhere tells test has before after (Ok false) = (IsTrue tells → test ≡ false) × KeepsTree tells before after
ChangesFoldersWhere tells test has before after (Err _) =
    KeepsTree tells before after
    ⊎ ((IsTrue tells → test ≡ true) × (before.left ≢ Some 0) × (IsTrue tells → ChangesFolders before after has))

-- the folders with this one and those above it
abbrev pub has_made : FolderSet → PathBytes → PathBytes → Bool
has_made folders path q = has_above folders path q || bytes_eq q path

abbrev pub has_left : FolderSet → PathBytes → PathBytes → Bool
has_left folders path q = has_folder folders q && not (bytes_eq q path)
