-- Rows that are those of a tree, in any order.
use Rattle.std.proofs.Common.{◌≡◌, ℕ, zero, suc, ◌<◌, ◌-◌, ◌^◌, Bool, true, false, cond, IsTrue, List, [], ◌∷◌, ◌++◌, map, length, get_or, All, Option, Some, None, refl, sym, ◌∙◌, ap, subst, arith}
use Rattle.std.proofs.lemmas.Grind.{common_steps}
use Rattle.std.proofs.lemmas.List.Sorted.{IsPermutation-map, IsPermutation-sym, Contains-permutation, length_permutation, sum_by-IsPermutation}
use Rattle.std.specs.Prelude.{bytes_eq, filter, is_some, option_map, min}
use Rattle.std.specs.List.{Contains, sum_by}
use Rattle.std.specs.List.Sorted.{IsPermutation}
use Rattle.std.specs.FinMap.{entries}
use Rattle.bisync_text.specs.Path.{IsPath}
use Rattle.bisync_tree.specs.Rows.{PathBytes, Rows, keys, look, AreRising, listing_of, paths_in, item_of, items_of}
use Rattle.bisync_tree.specs.Tree.{Tree, file_at}
use Rattle.bisync_tree.specs.declared.entries.Compare.{Compare}
use Rattle.bisync_tree.specs.declared.entries.Entry.{Entry}
use Rattle.bisync_tree.specs.declared.files.File.{File}
use Rattle.bisync_tree.specs.declared.files.Item.{Item}
use Rattle.bisync_tree.specs.declared.windows.Window.TheVariants.{Ns1}
use Rattle.bisync_tree.proofs.ListingLemmas.{listing_rising, look-listing_of}
use Rattle.bisync_tree.proofs.LookLemmas.{found_row}
use Rattle.bisync_tree.proofs.PathOrder.{path_is_itself, same_path}
use Rattle.bisync_tree.proofs.SearchLemmas.{read_at}
use Rattle.bisync_observe.specs.Counting.{name_bytes, AreOfTree}
use Rattle.bisync_tree.specs.declared.options.Limits.{Limits}
use Rattle.bisync_device.specs.Remote.{Lists}
use Rattle.bisync_observe.specs.Listed.{row_of, rows_of, IsFirstBad, IsWhyUnread}
use Rattle.bisync_observe.specs.Observing.{IsCause}
use Rattle.bisync_observe.specs.declared.faults.ObserveFault.{ObserveFault}
use Rattle.bisync_observe.specs.declared.faults.ObserveFault.TheVariants.{RemoteFault, BadPath, TooMany, Moved, OutOfMemory}

-- LOOK-UPS OF A PERMUTATION

contains_look : (rows : Rows) (p : PathBytes) (e : Entry) → look rows p ≡ Some e → Contains rows (p, e)
contains_look [] p e h = absurd (no h)
  where
    no : ◌≡◌ {A = Option Entry} None (Some e) → ⊥
    no f = cc
contains_look (r ∷ rs) p e h = go (λ is. contains_look rs p e is) (bytes_eq r.0 p) refl
  where
    go : (look rs p ≡ Some e → Contains rs (p, e)) → (b : Bool) → bytes_eq r.0 p ≡ b → Contains (r ∷ rs) (p, e)
    go rest true t =
        let path : r.0 ≡ p = same_path r.0 p t in
        let some : Some r.1 ≡ Some e = sym (ap (λ b. cond b (Some r.1) (look rs p)) t) ∙ h in
        let is : r.1 ≡ e = cc in
        (zero, omega arith, λ i. (path i, is i))
    go rest false f =
        let later = rest (sym (ap (λ b. cond b (Some r.1) (look rs p)) f) ∙ h) in
        let less = later.1 in
        (suc later.0, omega (arith, less), later.2)

look_contains : (rows : Rows) (p : PathBytes) (e : Entry) → AreRising (keys rows) → Contains rows (p, e) → look rows p ≡ Some e
look_contains rows p e rising has = found_row rows has.0 (p, e) p rising (read_at rows has.0 (p, e) has.1 (sym has.2)) refl

some_contains : (rows : Rows) (p : PathBytes) (e : Entry) (k : ℕ) → k < length rows → get_or rows k (p, e) ≡ (p, e) → is_some (look rows p) ≡ true
some_contains [] p e k less is = absurd (omega arith)
some_contains (r ∷ rs) p e zero less is =
    ap (λ b. is_some (cond b (Some r.1) (look rs p))) (subst (λ q. bytes_eq r.0 q ≡ true) (ap (λ (x : PathBytes × Entry). x.0) is) (path_is_itself r.0))
some_contains (r ∷ rs) p e (suc k) less is = go (some_contains rs p e k (omega arith) is) (bytes_eq r.0 p)
  where
    go : is_some (look rs p) ≡ true → (b : Bool) → is_some (cond b (Some r.1) (look rs p)) ≡ true
    go rest true = refl
    go rest false = rest

look_permutation : (xs ys : Rows) (p : PathBytes) → IsPermutation xs ys → AreRising (keys ys) → look xs p ≡ look ys p
look_permutation xs ys p moved rising = go (look xs p) (look ys p) refl refl
  where
    go : (v w : Option Entry) → look xs p ≡ v → look ys p ≡ w → look xs p ≡ look ys p
    go (Some e) w v_is w_is = v_is ∙ sym (look_contains ys p e rising (Contains-permutation xs ys (p, e) moved (contains_look xs p e v_is)))
    go None None v_is w_is = v_is ∙ sym w_is
    go None (Some e) v_is w_is =
        let has = Contains-permutation ys xs (p, e) (IsPermutation-sym xs ys moved) (contains_look ys p e w_is) in
        let t = some_contains xs p e has.0 has.1 has.2 in
        let f : is_some (look xs p) ≡ false = ap is_some v_is in cc

-- THE ROWS OF A TREE

-- without digests
bare : Compare
bare = record { size = true; time = true; hash = false; window = Ns1 }

abbrev pub bare_entry : File → Entry
bare_entry file = record { size = length file.bytes; time = file.time; hash = None }

tree_rows : (es : List (PathBytes × File)) → rows_of (map item_of es) ≡ map (λ (e : PathBytes × File). (e.0, bare_entry e.1)) (filter (λ (e : PathBytes × File). true) es)
tree_rows [] = refl
tree_rows (e ∷ es) = ap (λ (rows : Rows). (e.0, bare_entry e.1) ∷ rows) (tree_rows es)

tree_is : (tree : Tree) → rows_of (items_of tree) ≡ listing_of bare (λ p. true) tree
unfolding bare
tree_is tree = tree_rows (entries tree)

tree_look : (tree : Tree) (p : PathBytes) → look (listing_of bare (λ p. true) tree) p ≡ option_map bare_entry (file_at tree p)
unfolding bare
tree_look tree p = look-listing_of bare (λ p. true) tree p

-- rows of a tree's items have each file of the tree, and nothing else
pub look_items : (tree : Tree) (items : List Item) (p : PathBytes) → IsPermutation items (items_of tree) → look (rows_of items) p ≡ option_map bare_entry (file_at tree p)
look_items tree items p moved =
    look_permutation (rows_of items) (rows_of (items_of tree)) p (IsPermutation-map row_of items (items_of tree) moved)
    (subst (λ (rows : Rows). AreRising (keys rows)) (sym (tree_is tree)) (listing_rising bare (λ p. true) tree))
    ∙ ap (λ (rows : Rows). look rows p) (tree_is tree)
    ∙ tree_look tree p

-- COUNTS

item_paths : (items : List Item) → keys (rows_of items) ≡ map (λ (i : Item). i.path) items
item_paths [] = refl
item_paths (i ∷ is) = ap (λ ps. i.path ∷ ps) (item_paths is)

tree_paths : (es : List (PathBytes × File)) → map (λ (i : Item). i.path) (map item_of es) ≡ map (λ (e : PathBytes × File). e.0) es
tree_paths [] = refl
tree_paths (e ∷ es) = ap (λ ps. e.0 ∷ ps) (tree_paths es)

key_count : (rows : Rows) → length (keys rows) ≡ length rows
key_count [] = refl
key_count (r ∷ rs) = ap suc (key_count rs)

pub counted : (tree : Tree) (items : List Item) (files bytes : ℕ) → IsPermutation items (items_of tree) → files ≡ length (rows_of items) → bytes ≡ name_bytes (keys (rows_of items)) → AreOfTree tree files bytes
counted tree items files bytes moved count sum =
    let path = λ (i : Item). i.path in
    let paths = IsPermutation-map path items (items_of tree) moved in
    let all : map path (items_of tree) ≡ paths_in tree = tree_paths (entries tree) in
    record {
      count = count ∙ sym (key_count (rows_of items)) ∙ ap length (item_paths items) ∙ sym (length_permutation (map path items) (map path (items_of tree)) paths) ∙ ap length all;
      sum = sum ∙ ap name_bytes (item_paths items) ∙ sym (same_bytes (map path items) (map path (items_of tree)) (sum_by-IsPermutation length (map path items) (map path (items_of tree)) paths)) ∙ ap name_bytes all;
    }
  where
    same_bytes : (xs ys : List PathBytes) → sum_by length ys ≡ sum_by length xs → name_bytes ys ≡ name_bytes xs
    same_bytes xs ys e = ap (λ n. min n (2 ^ 64 - 1)) e

-- ITEMS

all_at : (before later : List Item) (item : Item) → All (λ (i : Item). IsPath i.path) (before ++ item ∷ later) → IsPath item.path
all_at before later item all = subst (λ (i : Item). IsPath i.path) (at before) (all (length before) item (less before))
  where
    at : (xs : List Item) → get_or (xs ++ item ∷ later) (length xs) item ≡ item
    at [] = refl
    at (x ∷ xs) = at xs

    less : (xs : List Item) → length xs < length (xs ++ item ∷ later)
    less xs = grind (arith, common_steps)

pub bad_text : (items : List Item) (text : List ℕ) → IsFirstBad items text → IsPath text → ⊥
bad_text items text first path = first.bad (subst IsPath first.is path)

pub no_bad_text : (items : List Item) (text : List ℕ) → IsFirstBad items text → All (λ (i : Item). IsPath i.path) items → ⊥
no_bad_text items text first all = first.bad (all_at first.before first.later first.item (subst (λ l. All (λ (i : Item). IsPath i.path) l) first.split all))

pub no_digest : (items : List Item) (p : PathBytes) (e : Entry) → look (rows_of items) p ≡ Some e → e.hash ≡ None
no_digest [] p e h = absurd (no h)
  where
    no : ◌≡◌ {A = Option Entry} None (Some e) → ⊥
    no f = cc
no_digest (i ∷ is) p e h = go (λ t. no_digest is p e t) (bytes_eq i.path p) refl
  where
    go : (look (rows_of is) p ≡ Some e → e.hash ≡ None) → (b : Bool) → bytes_eq i.path p ≡ b → e.hash ≡ None
    go rest true t =
        let some : Some (row_of i).1 ≡ Some e = sym (ap (λ b. cond b (Some (row_of i).1) (look (rows_of is) p)) t) ∙ h in
        let same : (row_of i).1 ≡ e = cc in
        sym (ap (λ (x : Entry). x.hash) same)
    go rest false f = rest (sym (ap (λ b. cond b (Some (row_of i).1) (look (rows_of is) p)) f) ∙ h)

-- LISTED ITEMS

pub told_items : (tells : Bool) (tree : Tree) (old new : List Item) → Lists tells tree old new true → old ≡ [] → IsTrue tells → IsPermutation new (items_of tree)
told_items tells tree old new lists empty t = subst (λ l. IsPermutation l (items_of tree)) (sym (lists.added ∙ ap (λ l. l ++ lists.more) empty)) (lists.items refl t)

pub told_paths : (tells : Bool) (tree : Tree) (old new : List Item) → Lists tells tree old new true → old ≡ [] → IsTrue tells → All (λ (i : Item). IsPath i.path) new
told_paths tells tree old new lists empty t = subst (λ l. All (λ (i : Item). IsPath i.path) l) (sym (lists.added ∙ ap (λ l. l ++ lists.more) empty)) (lists.paths refl t)

-- why items are no rows
pub why_unread : (tells : Bool) (tree : Tree) (c : Compare) (passes : PathBytes → Bool) (limits : Limits) (items : List Item) (fault : ObserveFault)
    → (IsTrue tells → All (λ (i : Item). IsPath i.path) items) → IsWhyUnread items fault → IsCause tells tree c passes limits fault
why_unread tells tree c passes limits items RemoteFault told why = absurd why
why_unread tells tree c passes limits items (BadPath text) told why = (bad_text items text why, λ t. no_bad_text items text why (told t))
why_unread tells tree c passes limits items (TooMany files bytes) told why = absurd why
why_unread tells tree c passes limits items (Moved path listed read) told why = absurd why
why_unread tells tree c passes limits items OutOfMemory told why = tt
