-- Whatever a remote tells, what was seen of it is what some tree would show.
use Rattle.std.proofs.Common.{◌≡◌, ℕ, Bool, true, false, cond, ◌&&◌, ◌||◌, List, [], ◌∷◌, length, Option, Some, None, refl, sym, ◌∙◌, ap}
use Rattle.std.proofs.Math.ListN.{replicate}
use Rattle.std.proofs.lemmas.Cmp.{nat_list_cmp_total}
use Rattle.std.proofs.lemmas.List.{length-replicate}
use Rattle.std.proofs.lemmas.Map.Text.{is_eq-slice_cmp}
use Rattle.std.specs.FinMap as finmap
use Rattle.std.specs.FinMap.{get-empty, get-insert}
use Rattle.std.specs.Prelude.{bytes_eq, is_some, option_map, pos}
use Rattle.md5.specs.Md5.{md5}
use Rattle.bisync_tree.specs.Rows.{PathBytes, Rows, look, is_among, listing_of, paths_in}
use Rattle.bisync_tree.specs.Tree.{Tree, file_at, put, entry}
use Rattle.bisync_tree.specs.declared.entries.Compare.{Compare}
use Rattle.bisync_tree.specs.declared.entries.Entry.{Entry}
use Rattle.bisync_tree.specs.declared.files.File.{File}
use Rattle.bisync_tree.proofs.ListingLemmas.{listing_rising, look-listing_of}
use Rattle.bisync_tree.proofs.LookLemmas.{look_is_some, same_rows}
use Rattle.bisync_tree.proofs.PassingLemmas.{paths_rising, among-paths_in}
use Rattle.bisync_tree.proofs.PathOrder.{same_path}
use Rattle.bisync_tree.proofs.RisingLemmas.{rising_same}
use Rattle.bisync_observe.specs.Listed.{HaveNoDigests}
use Rattle.bisync_observe.specs.Observing.{IsSeenOf}
use Rattle.bisync_observe.specs.Seeing.{IsSeen, IsEntryOf, IsEntryFor}

-- A TREE WITH A FILE FOR EACH NAME

abbrev tree_of : (PathBytes → File) → List PathBytes → Tree
tree_of file [] = finmap.empty
tree_of file (p ∷ ps) = put (tree_of file ps) p (file p)

tree_at : (file : PathBytes → File) (names : List PathBytes) (p : PathBytes) → file_at (tree_of file names) p ≡ cond (is_among p names) (Some (file p)) None
tree_at file [] p = get-empty _ p
tree_at file (q ∷ qs) p =
    get-insert nat_list_cmp_total (tree_of file qs) q (file q) p
    ∙ ap (λ b. cond b (Some (file q)) (file_at (tree_of file qs) p)) (is_eq-slice_cmp p q)
    ∙ go (tree_at file qs p) (bytes_eq p q) refl
  where
    go : file_at (tree_of file qs) p ≡ cond (is_among p qs) (Some (file p)) None → (b : Bool) → bytes_eq p q ≡ b
        → cond b (Some (file q)) (file_at (tree_of file qs) p) ≡ cond (b || is_among p qs) (Some (file p)) None
    go rest true same = ap (λ n. Some (file n)) (sym (same_path p q same))
    go rest false other = rest

-- A FILE FOR EACH ENTRY

abbrev HasFile : Compare → Entry → Type 0
HasFile c e = (file : File) × (e ≡ entry c file)

-- the file of a listed path has the entry listed, and of any other path nothing is asked
abbrev file_of : (c : Compare) (v : Option Entry) → ((e : Entry) → v ≡ Some e → HasFile c e) → File
file_of c None has = record { bytes = []; time = pos 0 }
file_of c (Some e) has = (has e refl).0

none_some : (e : Entry) → ◌≡◌ {A = Option Entry} None (Some e) → ⊥
none_some e f = cc

file_of_is : (c : Compare) (v : Option Entry) (has : (e : Entry) → v ≡ Some e → HasFile c e) (e : Entry) → v ≡ Some e → e ≡ entry c (file_of c v has)
file_of_is c None has e is = absurd (none_some e is)
file_of_is c (Some listed) has e is = let same : e ≡ listed = cc in same ∙ (has listed refl).1

with_file : (c : Compare) (hash : Bool) (tells : Bool) (tree : Tree) (p : PathBytes) (row e : Entry) → c.hash ≡ hash → row.hash ≡ None → IsEntryFor tells tree hash p row e → HasFile c e
with_file c false tells tree p row e hash none is = (
  record { bytes = replicate {A = ℕ} row.size 0; time = row.time },
  is ∙ (λ i. record { size = sym (length-replicate {A = ℕ} row.size 0) i; time = row.time; hash = none i })
      ∙ sym (ap (λ b. record { size = length (replicate {A = ℕ} row.size 0); time = row.time; hash = cond b (Some (md5 (replicate {A = ℕ} row.size 0))) None }) hash),
)
with_file c true tells tree p row e hash none is = (
  record { bytes = is.0; time = row.time },
  is.1 ∙ sym (ap (λ b. record { size = length is.0; time = row.time; hash = cond b (Some (md5 is.0)) None }) hash),
)

has_file : (c : Compare) (tells : Bool) (tree : Tree) (passes : PathBytes → Bool) (rows : Rows) (names : List PathBytes) (listing : Rows) → HaveNoDigests rows
    → IsSeen tells tree c.hash passes rows names listing → (p : PathBytes) (e : Entry) → look listing p ≡ Some e → HasFile c e
has_file c tells tree passes rows names listing none seen p e is = go (passes p) (look rows p) refl (look listing p) is (seen.entries p)
  where
    go : (b : Bool) (v : Option Entry) → look rows p ≡ v → (w : Option Entry) → w ≡ Some e → IsEntryOf tells tree c.hash p (cond b v None) w → HasFile c e
    go b v row None absent for = absurd (none_some e absent)
    go true None row (Some listed) there for = absurd (none_some listed (sym for))
    go false v row (Some listed) there for = absurd (none_some listed (sym for))
    go true (Some r) row (Some listed) there for =
        let same : listed ≡ e = cc in
        let found = with_file c c.hash tells tree p r listed refl (none p r row) for in
        (found.0, sym same ∙ found.1)

-- WHAT IS LISTED

listed_by : (tells : Bool) (tree : Tree) (hash : Bool) (p : PathBytes) (v w : Option Entry) → IsEntryOf tells tree hash p v w → is_some w ≡ is_some v
listed_by tells tree hash p None w is = ap is_some is
listed_by tells tree hash p (Some row) None is = absurd is
listed_by tells tree hash p (Some row) (Some e) is = refl

-- a path is listed exactly where it is a name and passes
is_listed : (tells : Bool) (tree : Tree) (hash : Bool) (passes : PathBytes → Bool) (rows : Rows) (names : List PathBytes) (listing : Rows)
    → IsSeen tells tree hash passes rows names listing → (p : PathBytes) → is_some (look listing p) ≡ (passes p && is_among p names)
is_listed tells tree hash passes rows names listing seen p =
    listed_by tells tree hash p _ (look listing p) (seen.entries p)
    ∙ by (passes p) (look rows p)
    ∙ ap (λ b. passes p && b) (look_is_some rows p ∙ sym (seen.among p))
  where
    by : (b : Bool) (v : Option Entry) → is_some (cond b v None) ≡ (b && is_some v)
    by true v = refl
    by false v = refl

as_in_tree : (c : Compare) (file : File) (b a : Bool) (v : Option Entry) → is_some v ≡ (b && a) → ((e : Entry) → v ≡ Some e → e ≡ entry c file)
    → v ≡ cond b (option_map (entry c) (cond a (Some file) None)) None
as_in_tree c file true true (Some e) some is = ap (λ x. Some x) (is e refl)
as_in_tree c file true true None some is = cc
as_in_tree c file true false (Some e) some is = cc
as_in_tree c file true false None some is = refl
as_in_tree c file false a (Some e) some is = cc
as_in_tree c file false a None some is = refl

module _ (tells : Bool) (c : Compare) (passes : PathBytes → Bool) (told : Tree) (rows : Rows) (names : List PathBytes) (listing : Rows) (none : HaveNoDigests rows)
    (seen : IsSeen tells told c.hash passes rows names listing) where
  has : (p : PathBytes) (e : Entry) → look listing p ≡ Some e → HasFile c e
  has p e is = has_file c tells told passes rows names listing none seen p e is

  abbrev file : PathBytes → File
  file p = file_of c (look listing p) (has p)

  abbrev tree : Tree
  tree = tree_of file names

  mapped : (b : Bool) (f : File) → is_some (cond b (Some f) None) ≡ b
  mapped true f = refl
  mapped false f = refl

  same_names : names ≡ paths_in tree
  same_names = rising_same names (paths_in tree) seen.names_rise (paths_rising tree)
      (λ n. sym (among-paths_in tree n ∙ ap is_some (tree_at file names n) ∙ mapped (is_among n names) (file n)))

  same_listing : listing ≡ listing_of c passes tree
  same_listing = same_rows listing (listing_of c passes tree) seen.listing_rises (listing_rising c passes tree)
      (λ p. as_in_tree c (file p) (passes p) (is_among p names) (look listing p)
      (is_listed tells told c.hash passes rows names listing seen p)
      (λ e is. file_of_is c (look listing p) (has p) e is)
      ∙ ap (λ f. cond (passes p) (option_map (entry c) f) None) (sym (tree_at file names p))
      ∙ sym (look-listing_of c passes tree p))

  -- some tree has exactly the names, and exactly the listing
  pub fiction : (tree : Tree) × IsSeenOf c passes tree names listing
  fiction = (tree, record { names = same_names; listing = same_listing })
