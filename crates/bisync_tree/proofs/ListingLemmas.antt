-- The listing of a tree, by its look-ups.
use Rattle.std.proofs.Common.{◌≡◌, Bool, true, false, cond, List, [], ◌∷◌, map, Option, Some, None, refl, sym, ◌∙◌, ap, T, ◌&&◌}
use Rattle.std.specs.Prelude.{bytes_eq, filter, option_map, if◌then◌else◌}
use Rattle.std.specs.Ordering.{is_lt, eq_by_cmp}
use Rattle.std.specs.Cmp.Lexicographic.{nat_list_cmp_total}
use Rattle.std.specs.Cmp.{eq_by_cmp_equiv}
use Rattle.std.specs.FinMap.{entries, entries_sorted, get-entries}
use Rattle.std.specs.FinMap.Entries.{find, is_sorted, below_all, is_sorted-where_key, find-where_key}
use Rattle.std.specs.declared.cmp.Ordering.{Ordering}
use Rattle.std.specs.declared.cmp.Ordering.TheVariants.{Less, Equal, Greater}
use Rattle.std.proofs.lemmas.Map.Text.{is_eq-slice_cmp}
use Rattle.bisync_tree.specs.Rows.{PathBytes, keys, look, AreAbove, AreRising, listing_of}
use Rattle.bisync_tree.specs.Tree.{Tree, file_at, entry}
use Rattle.bisync_tree.specs.declared.entries.Compare.{Compare}
use Rattle.bisync_tree.specs.declared.files.File.{File}
use Rattle.bisync_tree.proofs.PathOrder.{order, order_same}

pub left_of : (a b : Bool) → T (a && b) → T a
left_of true b h = tt
left_of false b h = absurd h

pub right_of : (a b : Bool) → T (a && b) → T b
right_of true b h = h
right_of false b h = absurd h

pub less_of : (o : Ordering) → T (is_lt o) → o ≡ Less
less_of Less h = refl
less_of Equal h = absurd h
less_of Greater h = absurd h

-- paths in order rise
above : (c : Compare) (p : PathBytes) (es : List (PathBytes × File)) → T (below_all order p es) → AreAbove p (keys (map (λ (e : PathBytes × File). (e.0, entry c e.1)) es))
above c p [] h = tt
above c p (e ∷ es) h = (less_of (order p e.0) (left_of (is_lt (order p e.0)) (below_all order p es) h), above c p es (right_of (is_lt (order p e.0)) (below_all order p es) h))

rising : (c : Compare) (es : List (PathBytes × File)) → T (is_sorted order es) → AreRising (keys (map (λ (e : PathBytes × File). (e.0, entry c e.1)) es))
rising c [] h = tt
rising c (e ∷ es) h = (above c e.0 es (left_of (below_all order e.0 es) (is_sorted order es) h), rising c es (right_of (below_all order e.0 es) (is_sorted order es) h))

pub listing_rising : (c : Compare) (passes : PathBytes → Bool) (tree : Tree) → AreRising (keys (listing_of c passes tree))
listing_rising c passes tree = rising c _ (is_sorted-where_key order passes (entries tree) (entries_sorted tree))

-- both ways to look a path up
tested : (p q : PathBytes) → bytes_eq q p ≡ eq_by_cmp order p q
tested p q = sym (is_eq-slice_cmp q p) ∙ (eq_by_cmp_equiv nat_list_cmp_total).symm q p

looked : (c : Compare) (p : PathBytes) (es : List (PathBytes × File)) → look (map (λ (e : PathBytes × File). (e.0, entry c e.1)) es) p ≡ option_map (entry c) (find order p es)
looked c p [] = refl
looked c p (e ∷ es) = ap (λ b. cond b (Some (entry c e.1)) (look (map (λ (e : PathBytes × File). (e.0, entry c e.1)) es) p)) (tested p e.0) ∙ by (eq_by_cmp order p e.0) (looked c p es)
  where
    by : (b : Bool) → look (map (λ (e : PathBytes × File). (e.0, entry c e.1)) es) p ≡ option_map (entry c) (find order p es)
        → cond b (Some (entry c e.1)) (look (map (λ (e : PathBytes × File). (e.0, entry c e.1)) es) p) ≡ option_map (entry c) (cond b (Some e.1) (find order p es))
    by true rest = refl
    by false rest = rest

mapped : (c : Compare) (b : Bool) (f : Option File) → option_map (entry c) (cond b f None) ≡ cond b (option_map (entry c) f) None
mapped c true f = refl
mapped c false f = refl

pub look-listing_of : (c : Compare) (passes : PathBytes → Bool) (tree : Tree) (p : PathBytes)
    → look (listing_of c passes tree) p ≡ (if passes p then option_map (entry c) (file_at tree p) else None)
look-listing_of c passes tree p =
    looked c p (filter (λ (e : PathBytes × File). passes e.0) (entries tree))
    ∙ ap (option_map (entry c)) (find-where_key order passes p (λ q e. ap passes (sym (order_same p q e))) (entries tree))
    ∙ mapped c (passes p) (find order p (entries tree))
    ∙ ap (λ f. cond (passes p) (option_map (entry c) f) None) (sym (get-entries tree p))
