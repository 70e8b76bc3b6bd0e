-- The folders of a remote: a finite set of texts, which are paths or the name of the partial file.
use Rattle.std.specs.Prelude.{◌==◌, ◌&&◌, ◌||◌, not, ℕ, Bool, [], ◌∷◌, ◌++◌, is_some, bytes_eq}
use Rattle.std.specs.List.{starts_with, list_any}
use Rattle.std.specs.FinMap as finmap
use Rattle.bisync_tree.specs.Tree.{PathMap, Tree}
use Rattle.bisync_tree.specs.Rows.{PathBytes}
use Rattle.bisync_tree.specs.declared.files.File.{File}

abbrev pub FolderSet : Type 0
FolderSet = PathMap (Unit {0})

abbrev pub has_folder : FolderSet → PathBytes → Bool
has_folder folders q = is_some (finmap.get folders q)

-- whether q lies below the folder p, at any depth
abbrev pub is_below : PathBytes → PathBytes → Bool
is_below p q = starts_with (λ (a b : ℕ). a == b) q (p ++ 47 ∷ [])

-- whether a file lies below the folder
abbrev pub holds_file : Tree → PathBytes → Bool
holds_file tree p = list_any (λ (e : PathBytes × File). is_below p e.0) (finmap.entries tree)

-- whether a folder lies below the folder
abbrev pub holds_folder : FolderSet → PathBytes → Bool
holds_folder folders p = list_any (λ (e : PathBytes × Unit {0}). is_below p e.0) (finmap.entries folders)

-- the folders and those above a path
abbrev pub has_above : FolderSet → PathBytes → PathBytes → Bool
has_above folders path q = has_folder folders q || is_below q path

-- a folder at the path that holds no file makes way, with the folders below it
abbrev pub makes_way : FolderSet → Tree → PathBytes → PathBytes → Bool
makes_way folders tree path q = has_folder folders path && not (holds_file tree path) && (bytes_eq q path || is_below path q)

-- the folders after a file came to a path: those above it are there
abbrev pub has_for_file : FolderSet → Tree → PathBytes → PathBytes → Bool
has_for_file folders tree path q = (has_folder folders q && not (makes_way folders tree path q)) || is_below q path
