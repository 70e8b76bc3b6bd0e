-- The entries of a `BTreeMap` whose keys are texts, as a finite map.
use Rattle.std.proofs.Common.{◌≡◌, ℕ, Bool, true, false, List, [], ◌∷◌, refl, sym, ap, ◌∙◌, subst, Some, None, T, ◌&&◌, cond, Ordering, Less, Equal, Greater}
use Rattle.std.specs.Ordering.{nat_cmp, is_eq, is_lt, eq_by_cmp}
use Rattle.std.specs.Cmp.Lexicographic.{slice_cmp, nat_list_cmp_total}
use Rattle.std.specs.Cmp.{eq_by_cmp_equiv}
use Rattle.std.specs.FinMap as finmap
use Rattle.std.specs.FinMap.{find, is_sorted, from_sorted, get-from_sorted, entries-from_sorted, get-from_entries, get-insert, get-remove, same_map, slice_cmp-IsAntisymmetric, nat_cmp-IsAntisymmetric}
use Rattle.std.specs.FinMap.Entries.{below_all}
use Rattle.std.specs.List.{AllByRecursion}
use Rattle.std.specs.List.Sorted.{IsStrictlySortedBy}
use Rattle.std.specs.Map.{lookup, keys_of}
use Rattle.std.specs.BTreeMap.{is_at}
use Rattle.bisync_tree.specs.Tree.{PathMap}

abbrev pub path_cmp : List ℕ → List ℕ → Ordering
path_cmp = slice_cmp nat_cmp

abbrev pub map_of : {X : Type 0} → List (List ℕ × X) → PathMap X
map_of es = finmap.from_entries es

find-lookup : {X : Type 0} (q : List ℕ) (es : List (List ℕ × X)) → find path_cmp q es ≡ lookup (is_at (path_cmp q)) es
find-lookup q [] = refl
find-lookup q (e ∷ es) = ap (cond (is_eq (path_cmp q e.0)) (Some e.1)) (find-lookup q es)

-- the value at a key, as the map looks it up
pub get-map_of : {X : Type 0} (es : List (List ℕ × X)) (q : List ℕ) → finmap.get (map_of es) q ≡ lookup (is_at (path_cmp q)) es
get-map_of es q = get-from_entries nat_list_cmp_total es q ∙ find-lookup q es

pub same_maps : {X : Type 0} (a b : PathMap X) → ((q : List ℕ) → finmap.get a q ≡ finmap.get b q) → a ≡ b
same_maps a b = same_map nat_list_cmp_total (slice_cmp-IsAntisymmetric nat_cmp-IsAntisymmetric) a b

turned : (q k : List ℕ) → eq_by_cmp path_cmp q k ≡ is_at (path_cmp k) q
turned q k = (eq_by_cmp_equiv nat_list_cmp_total).symm q k

-- what the map's `updates` says is what `insert` does
pub map_of-insert : {X : Type 0} (es fs : List (List ℕ × X)) (k : List ℕ) (v : X)
    → ((q : List ℕ) → lookup (is_at (path_cmp q)) fs ≡ cond (is_at (path_cmp k) q) (Some v) (lookup (is_at (path_cmp q)) es))
    → map_of fs ≡ finmap.insert (map_of es) k v
map_of-insert es fs k v updates = same_maps _ _ (λ q.
    get-map_of fs q ∙ updates q
    ∙ ap (λ b. cond b (Some v) (lookup (is_at (path_cmp q)) es)) (sym (turned q k))
    ∙ ap (cond (eq_by_cmp path_cmp q k) (Some v)) (sym (get-map_of es q))
    ∙ sym (get-insert nat_list_cmp_total (map_of es) k v q))

pub map_of-remove : {X : Type 0} (es fs : List (List ℕ × X)) (k : List ℕ)
    → ((q : List ℕ) → lookup (is_at (path_cmp q)) fs ≡ cond (is_at (path_cmp k) q) None (lookup (is_at (path_cmp q)) es))
    → map_of fs ≡ finmap.remove (map_of es) k
map_of-remove es fs k updates = same_maps _ _ (λ q.
    get-map_of fs q ∙ updates q
    ∙ ap (λ b. cond b None (lookup (is_at (path_cmp q)) es)) (sym (turned q k))
    ∙ ap (cond (eq_by_cmp path_cmp q k) None) (sym (get-map_of es q))
    ∙ sym (get-remove nat_list_cmp_total (map_of es) k q))

-- a key that ties is the same key
pub tied : (q k : List ℕ) → eq_by_cmp path_cmp q k ≡ true → q ≡ k
tied q k e = slice_cmp-IsAntisymmetric nat_cmp-IsAntisymmetric q k (equal (path_cmp q k) e)
  where
    equal : (o : Ordering) → is_eq o ≡ true → o ≡ Equal
    equal Less e = cc
    equal Equal e = refl
    equal Greater e = cc

both : (a b : Bool) → T a → T b → T (a && b)
both true b p q = q
both false b p q = absurd p

below : {X : Type 0} (x : List ℕ) (es : List (List ℕ × X)) → AllByRecursion (λ y. path_cmp x y ≡ Less) (keys_of es) → T (below_all path_cmp x es)
below x [] h = tt
below x (e ∷ es) h = both _ _ (subst (λ r. T (is_lt r)) (sym h.0) tt) (below x es h.1)

in_order : {X : Type 0} (es : List (List ℕ × X)) → IsStrictlySortedBy path_cmp (keys_of es) → T (is_sorted path_cmp es)
unfolding IsStrictlySortedBy
in_order [] h = tt
in_order (e ∷ es) h = both _ _ (below e.0 es h.0) (in_order es h.1)

-- the map of a list in order has these entries
pub entries-map_of : {X : Type 0} (es : List (List ℕ × X)) → IsStrictlySortedBy path_cmp (keys_of es) → finmap.entries (map_of es) ≡ es
entries-map_of es h =
    let sorted = in_order es h in
    ap finmap.entries (same_maps (map_of es) (from_sorted es) (λ q. get-from_entries nat_list_cmp_total es q ∙ sym (get-from_sorted path_cmp es q sorted)))
    ∙ entries-from_sorted path_cmp es sorted
