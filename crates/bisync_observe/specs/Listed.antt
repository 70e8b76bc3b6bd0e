-- What a remote lists of its files, as rows: each path with an entry that has no digest.
use Rattle.std.specs.Prelude.{◌≡◌, ◌++◌, ◌∷◌, ℕ, List, map, Some, None, All, ⊤}
use Rattle.std.specs.List.Sorted.{IsPermutation, IsSortedByKey}
use Rattle.std.specs.Ordering.{nat_cmp}
use Rattle.std.specs.Cmp.Lexicographic.{slice_cmp}
use Rattle.bisync_text.specs.Path.{IsPath}
use Rattle.bisync_tree.specs.Rows.{PathBytes, Rows, look}
use Rattle.bisync_tree.specs.declared.entries.Entry.{Entry}
use Rattle.bisync_tree.specs.declared.files.Item.{Item}
use Rattle.bisync_observe.specs.declared.faults.ObserveFault.{ObserveFault}
use Rattle.bisync_observe.specs.declared.faults.ObserveFault.TheVariants.{RemoteFault, BadPath, TooMany, Moved, OutOfMemory}

abbrev pub row_of : Item → PathBytes × Entry
row_of item = (item.path, record { size = item.size; time = item.time; hash = None })

abbrev pub rows_of : List Item → Rows
rows_of items = map row_of items

-- the text is the first that is no path
pub record IsFirstBad (items : List Item) (text : List ℕ) : Type 0 where
  pub before : List Item
  pub item : Item
  pub later : List Item
  pub split : items ≡ before ++ item ∷ later
  pub paths : All (λ (i : Item). IsPath i.path) before
  pub bad : IsPath item.path → ⊥
  pub is : text ≡ item.path

abbrev pub HaveNoDigests : Rows → Type 0
HaveNoDigests rows = (p : PathBytes) (e : Entry) → look rows p ≡ Some e → e.hash ≡ None

-- in byte order of the paths, where one may stand twice
abbrev pub AreInOrder : Rows → Type 0
AreInOrder rows = IsSortedByKey (λ (r : PathBytes × Entry). r.0) (slice_cmp nat_cmp) rows

-- the same rows in byte order. Of two with one path the earlier still stands first
pub record IsInOrder (listed rows : Rows) : Type 0 where
  pub ordered : AreInOrder rows
  pub permutation : IsPermutation listed rows
  pub first : (p : PathBytes) → look rows p ≡ look listed p

-- items aren't read as rows only where one is no path
abbrev pub IsWhyUnread : List Item → ObserveFault → Type 0
IsWhyUnread items RemoteFault = ⊥
IsWhyUnread items (BadPath text) = IsFirstBad items text
IsWhyUnread items (TooMany _ _) = ⊥
IsWhyUnread items (Moved _ _ _) = ⊥
IsWhyUnread items OutOfMemory = ⊤
