-- The files and the folders of a memory remote, as a tree and a set of folders.
use Rattle.std.specs.Prelude.{◌≡◌, ◌++◌, ◌&&◌, ◌||◌, not, Bool, IsTrue, List, All, map, filter, bytes_eq}
use Rattle.std.specs.FinMap as finmap
use Rattle.bisync_text.specs.Path.{IsPath, partial_name}
use Rattle.bisync_tree.specs.Tree.{Tree}
use Rattle.bisync_tree.specs.Rows.{PathBytes, item_of}
use Rattle.bisync_tree.specs.declared.files.File.{File}
use Rattle.bisync_tree.specs.declared.files.Item.{Item}
use Rattle.bisync_device.specs.FolderSet.{FolderSet, has_folder, is_below}
use Rattle.bisync_memory.specs.declared.stores.Store.{Store}

abbrev pub tree_of : List (PathBytes × File) → Tree
tree_of entries = finmap.from_entries entries

abbrev pub folder_set : List (PathBytes × Unit {0}) → FolderSet
folder_set entries = finmap.from_entries entries

abbrev pub store_tree : Store → Tree
store_tree store = tree_of store.files.entries

abbrev pub store_folders : Store → FolderSet
store_folders store = folder_set store.folders.entries

pub record KeepsStore (before after : Store) : Type 0 where
  pub tree : store_tree after ≡ store_tree before
  pub folders : store_folders after ≡ store_folders before

-- the tree is this, and the folders are these
pub record Holds (store : Store) (made : Tree) (has : PathBytes → Bool) : Type 0 where
  pub tree : store_tree store ≡ made
  pub folders : (q : PathBytes) → has_folder (store_folders store) q ≡ has q

-- the folders of a map are these
abbrev pub HasFolders : List (PathBytes × Unit {0}) → (PathBytes → Bool) → Type 0
HasFolders entries has = (q : PathBytes) → has_folder (folder_set entries) q ≡ has q

-- without the folder and those below it
abbrev pub has_cleared : FolderSet → PathBytes → PathBytes → Bool
has_cleared folders path q = has_folder folders q && not (bytes_eq q path || is_below path q)

-- items of files are added, and after Ok those of all files
pub record AddsItems (entries : List (PathBytes × File)) (old new : List Item) (ok : Bool) : Type 0 where
  pub more : List Item
  pub added : new ≡ old ++ more
  pub paths : All (λ item. IsPath item.path) more
  pub all : IsTrue ok → more ≡ map item_of entries

-- texts of folders are added, and after Ok those of all but the partial name
pub record AddsTexts (entries : List (PathBytes × Unit {0})) (old new : List PathBytes) (ok : Bool) : Type 0 where
  pub more : List PathBytes
  pub added : new ≡ old ++ more
  pub paths : All IsPath more
  pub all : IsTrue ok → more ≡ filter (λ q. not (bytes_eq q partial_name)) (map (λ (e : PathBytes × Unit {0}). e.0) entries)
