-- A set of folders after folders are added, taken away or counted.
use Rattle.std.proofs.Common.{◌≡◌, ℕ, ◌+◌, ◌<◌, Bool, true, false, not, ◌&&◌, ◌||◌, List, [], ◌∷◌, length, take, get_or, refl, sym, ap, ◌∙◌, Option, Some, None, is_some, cond}
use Rattle.std.specs.Str.{bytes_eq}
use Rattle.std.specs.Cmp.Lexicographic.{nat_list_eq_equiv}
use Rattle.std.specs.List.{filter, list_any}
use Rattle.std.specs.Map.{lookup, keys_of}
use Rattle.std.specs.BTreeMap.{is_at}
use Rattle.std.proofs.lemmas.Map.Entries.{lookup-filter-keys}
use Rattle.std.proofs.lemmas.Map.Text.{is_eq-slice_cmp}
use Rattle.bisync_tree.specs.Tree.{Tree}
use Rattle.bisync_device.specs.FolderSet.{FolderSet, has_folder, is_below, has_above, holds_file, has_for_file}
use Rattle.bisync_memory.specs.Store.{folder_set}
use Rattle.bisync_memory.proofs.BelowLemmas.{above_is_apart, seen_slash}
use Rattle.bisync_memory.proofs.MapLemmas.{path_cmp, get-map_of, tied}

has-lookup : (es : List (List ℕ × Unit {0})) (q : List ℕ) → has_folder (folder_set es) q ≡ is_some (lookup (is_at (path_cmp q)) es)
has-lookup es q = ap is_some (get-map_of es q)

some_or : (b : Bool) (v : Unit {0}) (o : Option (Unit {0})) → is_some (cond b (Some v) o) ≡ (is_some o || b)
some_or true v None = refl
some_or true v (Some x) = refl
some_or false v None = refl
some_or false v (Some x) = refl

some_and : (b : Bool) (o : Option (Unit {0})) → is_some (cond b o None) ≡ (is_some o && b)
some_and true None = refl
some_and true (Some x) = refl
some_and false None = refl
some_and false (Some x) = refl

-- one folder more
pub has-insert : (es fs : List (List ℕ × Unit {0})) (k : List ℕ) (v : Unit {0})
    → ((q : List ℕ) → lookup (is_at (path_cmp q)) fs ≡ cond (is_at (path_cmp k) q) (Some v) (lookup (is_at (path_cmp q)) es))
    → (q : List ℕ) → has_folder (folder_set fs) q ≡ (has_folder (folder_set es) q || bytes_eq q k)
has-insert es fs k v updates q =
    has-lookup fs q ∙ ap is_some (updates q) ∙ some_or (is_at (path_cmp k) q) v (lookup (is_at (path_cmp q)) es)
    ∙ (λ i. sym (has-lookup es q) i || (is_eq-slice_cmp k q ∙ nat_list_eq_equiv.symm k q) i)

-- the folders whose names pass a test
pub has-filter : (p : List ℕ → Bool) (es : List (List ℕ × Unit {0})) (q : List ℕ) → has_folder (folder_set (filter (λ e. p e.0) es)) q ≡ (has_folder (folder_set es) q && p q)
has-filter p es q =
    has-lookup (filter (λ e. p e.0) es) q
    ∙ ap is_some (lookup-filter-keys (is_at (path_cmp q)) p (p q) (λ k e. ap p (sym (tied q k e))) es)
    ∙ some_and (p q) (lookup (is_at (path_cmp q)) es)
    ∙ ap (λ b. b && p q) (sym (has-lookup es q))

step : (b : Bool) (o : Option (Unit {0})) (v : Unit {0}) (t : Bool) → is_some o ≡ t → is_some (cond b (Some v) o) ≡ (b || t)
step true o v t e = refl
step false o v t e = e

-- a folder is there where a name is its name
pub any-has : (es : List (List ℕ × Unit {0})) (q : List ℕ) → list_any (λ k. bytes_eq k q) (keys_of es) ≡ has_folder (folder_set es) q
any-has es q = sym (has-lookup es q ∙ by es)
  where
    by : (es : List (List ℕ × Unit {0})) → is_some (lookup (is_at (path_cmp q)) es) ≡ list_any (λ k. bytes_eq k q) (keys_of es)
    by [] = refl
    by (e ∷ es) =
        step (is_at (path_cmp q) e.0) (lookup (is_at (path_cmp q)) es) e.1 _ (by es)
        ∙ ap (λ b. b || list_any (λ k. bytes_eq k q) (keys_of es)) (is_eq-slice_cmp q e.0 ∙ nat_list_eq_equiv.symm q e.0)

-- a test of the names is one of the entries
pub any-keys : {X : Type 0} (f : List ℕ → Bool) (es : List (List ℕ × X)) → list_any f (keys_of es) ≡ list_any (λ e. f e.0) es
any-keys f [] = refl
any-keys f (e ∷ es) = ap (λ b. f e.0 || b) (any-keys f es)

with_above : (h x : Bool) → ((h || true) && not false) ≡ ((h && not x) || true)
with_above true true = refl
with_above true false = refl
with_above false x = refl

without_above : (h x : Bool) → ((h || false) && not x) ≡ ((h && not x) || false)
without_above true true = refl
without_above true false = refl
without_above false x = refl

cleared : (h b x m : Bool) → m ≡ (h || b) → (b ≡ true → x ≡ false) → (m && not x) ≡ ((h && not x) || b)
cleared h true x m e f = (λ i. e i && not (f refl i)) ∙ with_above h x
cleared h false x m e f = ap (λ y. y && not x) e ∙ without_above h x

kept : (h b x m : Bool) → m ≡ (h || b) → m ≡ ((h && not (false && x)) || b)
kept true b x m e = e
kept false b x m e = e

-- a folder made way, and those above the path were added
pub made_way : (folders : FolderSet) (tree : Tree) (path q : List ℕ) (middle : Bool)
    → (has_folder folders path && not (holds_file tree path)) ≡ true
    → middle ≡ has_above folders path q
    → (middle && not (bytes_eq q path || is_below path q)) ≡ has_for_file folders tree path q
made_way folders tree path q middle way e =
    cleared (has_folder folders q) (is_below q path) (bytes_eq q path || is_below path q) middle e (above_is_apart path q)
    ∙ ap (λ w. (has_folder folders q && not (w && (bytes_eq q path || is_below path q))) || is_below q path) (sym way)

-- no folder made way
pub kept_all : (folders : FolderSet) (tree : Tree) (path q : List ℕ) (middle : Bool)
    → (has_folder folders path && not (holds_file tree path)) ≡ false
    → middle ≡ has_above folders path q
    → middle ≡ has_for_file folders tree path q
kept_all folders tree path q middle way e =
    kept (has_folder folders q) (is_below q path) (bytes_eq q path || is_below path q) middle e
    ∙ ap (λ w. (has_folder folders q && not (w && (bytes_eq q path || is_below path q))) || is_below q path) (sym way)

-- names are added to a copy one at a time
pub copied_none : (es fs : List (List ℕ × Unit {0})) (ks : List (List ℕ)) → fs ≡ [] → ks ≡ keys_of es → (q : List ℕ) → has_folder (folder_set es) q ≡ (has_folder (folder_set fs) q || list_any (λ k. bytes_eq k q) ks)
copied_none es fs ks none all q =
    sym (any-has es q) ∙ ap (list_any (λ k. bytes_eq k q)) (sym all)
    ∙ ap (λ b. b || list_any (λ k. bytes_eq k q) ks) (sym (has-lookup [] q) ∙ ap (λ l. has_folder (folder_set l) q) (sym none))

moved_over : (c k r n : Bool) → n ≡ (c || k) → (c || (k || r)) ≡ (n || r)
moved_over c k r n e = by c k r ∙ ap (λ b. b || r) (sym e)
  where
    by : (c k r : Bool) → (c || (k || r)) ≡ ((c || k) || r)
    by true k r = refl
    by false k r = refl

pub copied_more : (es fs gs : List (List ℕ × Unit {0})) (ks next : List (List ℕ)) (k : List ℕ)
    → ks ≡ k ∷ next
    → ((q : List ℕ) → has_folder (folder_set es) q ≡ (has_folder (folder_set fs) q || list_any (λ k. bytes_eq k q) ks))
    → ((q : List ℕ) → has_folder (folder_set gs) q ≡ (has_folder (folder_set fs) q || bytes_eq q k))
    → (q : List ℕ) → has_folder (folder_set es) q ≡ (has_folder (folder_set gs) q || list_any (λ k. bytes_eq k q) next)
copied_more es fs gs ks next k is before one q =
    before q ∙ ap (λ l. has_folder (folder_set fs) q || list_any (λ k. bytes_eq k q) l) is
    ∙ moved_over (has_folder (folder_set fs) q) (bytes_eq k q) (list_any (λ k. bytes_eq k q) next) (has_folder (folder_set gs) q)
    (one q ∙ ap (λ b. has_folder (folder_set fs) q || b) (nat_list_eq_equiv.symm q k))

or_more : (a b c n m s : Bool) → m ≡ (a || b) → s ≡ (b || c) → n ≡ (m || c) → n ≡ (a || s)
or_more a b c n m s e f g = g ∙ ap (λ x. x || c) e ∙ by a b c ∙ ap (λ x. a || x) (sym f)
  where
    by : (a b c : Bool) → ((a || b) || c) ≡ (a || (b || c))
    by true b c = refl
    by false b c = refl

-- the folder that a slash ends was added
pub added_slash : (has was now : List ℕ → Bool) (text name : List ℕ) (i : ℕ) → i < length text → get_or text i 0 ≡ 47 → name ≡ take i text
    → ((q : List ℕ) → was q ≡ (has q || is_below q (take i text)))
    → ((q : List ℕ) → now q ≡ (was q || bytes_eq q name))
    → (q : List ℕ) → now q ≡ (has q || is_below q (take (i + 1) text))
added_slash has was now text name i lt is named before one q =
    or_more (has q) (is_below q (take i text)) (bytes_eq q (take i text)) (now q) (was q) (is_below q (take (i + 1) text))
    (before q) (seen_slash q text i lt is) (one q ∙ ap (λ n. was q || bytes_eq q n) named)
