-- Rows of a listing: paths in strictly ascending byte order, each with its entry.
use Rattle.std.specs.Prelude.{◌≡◌, ℕ, List, [], ◌∷◌, length, map, filter, Bool, ◌||◌, false, Option, Some, None, bytes_eq, if◌then◌else◌}
use Rattle.std.specs.Ordering.{nat_cmp}
use Rattle.std.specs.Cmp.Lexicographic.{slice_cmp}
use Rattle.std.specs.FinMap.{entries}
use Rattle.std.specs.declared.cmp.Ordering.TheVariants.{Less}
use Rattle.bisync_tree.specs.Tree.{Tree, entry}
use Rattle.bisync_tree.specs.declared.entries.Entry.{Entry}
use Rattle.bisync_tree.specs.declared.entries.Compare.{Compare}
use Rattle.bisync_tree.specs.declared.files.File.{File}
use Rattle.bisync_tree.specs.declared.files.Item.{Item}

abbrev pub PathBytes : Type 0
PathBytes = List ℕ

abbrev pub Rows : Type 0
Rows = List (PathBytes × Entry)

abbrev pub keys : Rows → List PathBytes
keys rows = map (λ r. r.0) rows

abbrev pub values : Rows → List Entry
values rows = map (λ r. r.1) rows

-- the entry of a path
abbrev pub look : Rows → PathBytes → Option Entry
look [] p = None
look (r ∷ rs) p = if bytes_eq r.0 p then Some r.1 else look rs p

abbrev pub is_among : PathBytes → List PathBytes → Bool
is_among n [] = false
is_among n (p ∷ ps) = bytes_eq n p || is_among n ps

-- all of them come after p in byte order
abbrev pub AreAbove : PathBytes → List PathBytes → Type 0
AreAbove p [] = Unit {0}
AreAbove p (q ∷ qs) = (slice_cmp nat_cmp p q ≡ Less) × AreAbove p qs

-- strictly ascending in byte order
abbrev pub AreRising : List PathBytes → Type 0
AreRising [] = Unit {0}
AreRising (p ∷ ps) = AreAbove p ps × AreRising ps

-- the path comes after the last of these
abbrev pub IsAboveLast : List PathBytes → PathBytes → Type 0
IsAboveLast [] p = Unit {0}
IsAboveLast (q ∷ []) p = slice_cmp nat_cmp q p ≡ Less
IsAboveLast (q ∷ r ∷ rs) p = IsAboveLast (r ∷ rs) p

-- the listing of a tree: each passing path, with the entry of its file
abbrev pub listing_of : Compare → (PathBytes → Bool) → Tree → Rows
listing_of c passes tree = map (λ (e : PathBytes × File). (e.0, entry c e.1)) (filter (λ (e : PathBytes × File). passes e.0) (entries tree))

-- the rows of the passing paths
abbrev pub passing : (PathBytes → Bool) → Rows → Rows
passing passes rows = filter (λ (r : PathBytes × Entry). passes r.0) rows

-- all paths of a tree, in byte order
abbrev pub paths_in : Tree → List PathBytes
paths_in tree = map (λ (e : PathBytes × File). e.0) (entries tree)

-- what a remote lists of a file
abbrev pub item_of : PathBytes × File → Item
item_of e = record { path = e.0; size = length e.1.bytes; time = e.1.time }

-- one item a file, in the order of the paths
abbrev pub items_of : Tree → List Item
items_of tree = map item_of (entries tree)
