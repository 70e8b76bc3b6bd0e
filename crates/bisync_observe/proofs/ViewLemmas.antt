-- What was seen is the tree's.
use Rattle.std.proofs.Common.{◌≡◌, ℕ, ◌≤◌, ◌-◌, ◌^◌, Bool, true, false, cond, IsTrue, List, [], length, Option, Some, None, Result, Ok, Err, refl, sym, ◌∙◌, ap, subst, arith}
use Rattle.std.proofs.lemmas.List.Sorted.{IsPermutation-map, length_permutation, sum_by-IsPermutation}
use Rattle.std.specs.Prelude.{is_some, option_map, min}
use Rattle.std.specs.List.{sum_by}
use Rattle.std.specs.Result.{IfOk, IfErr}
use Rattle.md5.specs.Md5.{md5}
use Rattle.bisync_tree.specs.Rows.{PathBytes, Rows, keys, look, listing_of, paths_in}
use Rattle.bisync_tree.specs.Tree.{Tree, file_at, entry}
use Rattle.bisync_tree.specs.declared.entries.Compare.{Compare}
use Rattle.bisync_tree.specs.declared.entries.Entry.{Entry}
use Rattle.bisync_tree.specs.declared.files.File.{File}
use Rattle.bisync_tree.specs.declared.options.Limits.{Limits}
use Rattle.bisync_tree.proofs.ListingLemmas.{listing_rising, look-listing_of}
use Rattle.bisync_tree.proofs.LookLemmas.{look_is_some, same_rows}
use Rattle.bisync_tree.proofs.PassingLemmas.{paths_rising, among-paths_in}
use Rattle.bisync_tree.proofs.RisingLemmas.{rising_same}
use Rattle.bisync_tree.specs.declared.files.Item.{Item}
use Rattle.bisync_device.specs.Remote.{Lists}
use Rattle.bisync_observe.specs.Counting.{name_bytes, IsWithin}
use Rattle.bisync_observe.specs.FileReading.{LacksSize}
use Rattle.bisync_observe.specs.Listed.{HaveNoDigests, IsInOrder, rows_of}
use Rattle.bisync_observe.specs.Observing.{IsSeenOf, AreWithin, IsCause}
use Rattle.bisync_observe.specs.Seeing.{IsSeen, IsEntryOf, IsEntryFor, IsWhyUnseen}
use Rattle.bisync_observe.specs.Tally.{entry_of_bytes}
use Rattle.bisync_observe.specs.declared.faults.ObserveFault.{ObserveFault}
use Rattle.bisync_observe.specs.declared.faults.ObserveFault.TheVariants.{RemoteFault, BadPath, TooMany, Moved, OutOfMemory}
use Rattle.bisync_observe.proofs.TreeLemmas.{bare_entry, look_items, told_items}

pub if_ok : {T E : Type 0} (r : Result T E) (P Q : T → Type 0) → ((x : T) → P x → Q x) → IfOk r P → IfOk r Q
if_ok (Ok x) P Q f h = f x h
if_ok (Err e) P Q f h = h

pub if_err : {T E : Type 0} (r : Result T E) (P Q : E → Type 0) → ((e : E) → P e → Q e) → IfErr r P → IfErr r Q
if_err (Ok x) P Q f h = h
if_err (Err e) P Q f h = f e h

-- LIMITS

name_limit : (a b limit : ℕ) → a ≤ b → min b (2 ^ 64 - 1) ≤ limit → min a (2 ^ 64 - 1) ≤ limit
name_limit a b limit le h = omega arith

pub within : (limits : Limits) (listed rows : Rows) (names : List PathBytes) → IsWithin limits (length listed) (name_bytes (keys listed)) → IsInOrder listed rows
    → length names ≤ length rows → sum_by length names ≤ sum_by length (keys rows) → AreWithin limits names
within limits listed rows names limited order few short = record {
  few = count (length_permutation listed rows order.permutation) limited.few;
  short = name_limit (sum_by length names) (sum_by length (keys listed)) limits.names
      (sum (sum_by-IsPermutation length (keys listed) (keys rows) (IsPermutation-map (λ (r : PathBytes × Entry). r.0) listed rows order.permutation))) limited.short;
}
  where
    count : length rows ≡ length listed → length listed ≤ limits.files → length names ≤ limits.files
    count e h = omega arith

    sum : sum_by length (keys rows) ≡ sum_by length (keys listed) → sum_by length names ≤ sum_by length (keys listed)
    sum e = omega arith

-- DIGESTS

has_digest : (tells : Bool) (tree : Tree) (hash : Bool) (p : PathBytes) (row e : Entry) → row.hash ≡ None → IsEntryFor tells tree hash p row e → is_some e.hash ≡ hash
has_digest tells tree false p row e none is = ap (λ (x : Entry). is_some x.hash) is ∙ ap is_some none
has_digest tells tree true p row e none is = ap (λ (x : Entry). is_some x.hash) is.1

pub digests : (tells : Bool) (tree : Tree) (hash : Bool) (passes : PathBytes → Bool) (rows : Rows) (names : List PathBytes) (listing : Rows) → HaveNoDigests rows
    → IsSeen tells tree hash passes rows names listing → (p : PathBytes) (e : Entry) → look listing p ≡ Some e → is_some e.hash ≡ hash
digests tells tree hash passes rows names listing none seen p e is = go (passes p) (look rows p) refl (subst (λ w. IsEntryOf tells tree hash p (cond (passes p) (look rows p) None) w) is (seen.entries p))
  where
    absurd_none : ◌≡◌ {A = Option Entry} (Some e) None → ⊥
    absurd_none f = cc

    go : (b : Bool) (v : Option Entry) → look rows p ≡ v → IsEntryOf tells tree hash p (cond b v None) (Some e) → is_some e.hash ≡ hash
    go true (Some row) row_is entry = has_digest tells tree hash p row e (none p row row_is) entry
    go true None row_is entry = absurd (absurd_none entry)
    go false v row_is entry = absurd (absurd_none entry)

-- A TREE THAT IS TOLD

some_file : (tree : Tree) (p : PathBytes) (file other : File) → file_at tree p ≡ Some file → file_at tree p ≡ Some other → other ≡ file
some_file tree p file other is too = cc

file_entry : (tells : Bool) (c : Compare) (tree : Tree) (p : PathBytes) (file : File) (hash : Bool) (e : Entry) → IsTrue tells → c.hash ≡ hash → file_at tree p ≡ Some file → IsEntryFor tells tree hash p (bare_entry file) e → e ≡ entry c file
file_entry tells c tree p file false e t hash at is = is ∙ sym (ap (λ b. record { size = length file.bytes; time = file.time; hash = cond b (Some (md5 file.bytes)) None }) hash)
file_entry tells c tree p file true e t hash at is =
    let has = is.3 t in
    let same : has.0 ≡ file = some_file tree p file has.0 at has.1 in
    let bytes : is.0 ≡ file.bytes = sym has.2 ∙ ap (λ (f : File). f.bytes) same in
    is.1 ∙ ap (λ b. entry_of_bytes file.time b) bytes ∙ sym (ap (λ b. record { size = length file.bytes; time = file.time; hash = cond b (Some (md5 file.bytes)) None }) hash)

entry_at : (tells : Bool) (c : Compare) (tree : Tree) (p : PathBytes) (b : Bool) (f : Option File) (v : Option Entry) → IsTrue tells → file_at tree p ≡ f
    → IsEntryOf tells tree c.hash p (cond b (option_map bare_entry f) None) v → v ≡ cond b (option_map (entry c) f) None
entry_at tells c tree p false f v t at is = is
entry_at tells c tree p true None v t at is = is
entry_at tells c tree p true (Some file) None t at is = absurd is
entry_at tells c tree p true (Some file) (Some e) t at is = ap (λ x. Some x) (file_entry tells c tree p file c.hash e t refl at is)

pub seen_of : (tells : Bool) (c : Compare) (passes : PathBytes → Bool) (tree : Tree) (rows : Rows) (names : List PathBytes) (listing : Rows)
    → ((p : PathBytes) → look rows p ≡ option_map bare_entry (file_at tree p)) → IsSeen tells tree c.hash passes rows names listing → IsTrue tells → IsSeenOf c passes tree names listing
seen_of tells c passes tree rows names listing told seen t = record {
  names = rising_same names (paths_in tree) seen.names_rise (paths_rising tree)
      (λ n. seen.among n ∙ sym (look_is_some rows n) ∙ ap is_some (told n) ∙ mapped (file_at tree n) ∙ sym (among-paths_in tree n));
  listing = same_rows listing (listing_of c passes tree) seen.listing_rises (listing_rising c passes tree)
      (λ p. entry_at tells c tree p (passes p) (file_at tree p) (look listing p) t refl
      (subst (λ v. IsEntryOf tells tree c.hash p (cond (passes p) v None) (look listing p)) (told p) (seen.entries p))
      ∙ sym (look-listing_of c passes tree p));
}
  where
    mapped : (f : Option File) → is_some (option_map bare_entry f) ≡ is_some f
    mapped None = refl
    mapped (Some file) = refl

not_moved : (tree : Tree) (p : PathBytes) (listed : Entry) (f : Option File) → file_at tree p ≡ f → option_map bare_entry f ≡ Some listed → LacksSize tree p listed.size → ⊥
not_moved tree p listed None at row lacks = no row
  where
    no : ◌≡◌ {A = Option Entry} None (Some listed) → ⊥
    no e = cc
not_moved tree p listed (Some file) at row lacks =
    let same : bare_entry file ≡ listed = cc in lacks file at (ap (λ (x : Entry). x.size) same)

pub why_unseen : (tells : Bool) (tree start : Tree) (c : Compare) (passes : PathBytes → Bool) (limits : Limits) (rows : Rows) (fault : ObserveFault)
    → (IsTrue tells → (p : PathBytes) → look rows p ≡ option_map bare_entry (file_at tree p)) → IsWhyUnseen tells tree c passes rows fault → IsCause tells start c passes limits fault
why_unseen tells tree start c passes limits rows RemoteFault told why = tt
why_unseen tells tree start c passes limits rows (BadPath text) told why = absurd why
why_unseen tells tree start c passes limits rows (TooMany files bytes) told why = absurd why
why_unseen tells tree start c passes limits rows (Moved path listed read) told why =
    (why.moved, λ t. not_moved tree path listed (file_at tree path) refl (sym (told t path) ∙ why.row) (why.lacks t))
why_unseen tells tree start c passes limits rows OutOfMemory told why = tt

-- rows in order of a told tree's items have each of its files
pub told_rows : (tells : Bool) (tree : Tree) (old items : List Item) (listed rows : Rows) → Lists tells tree old items true → old ≡ [] → listed ≡ rows_of items → IsInOrder listed rows
    → IsTrue tells → (p : PathBytes) → look rows p ≡ option_map bare_entry (file_at tree p)
told_rows tells tree old items listed rows lists empty is order t p =
    order.first p ∙ ap (λ (l : Rows). look l p) is ∙ look_items tree items p (told_items tells tree old items lists empty t)
