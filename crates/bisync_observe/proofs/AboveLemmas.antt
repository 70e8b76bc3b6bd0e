-- Paths that come after others, and paths that come again.
use Rattle.std.proofs.Common.{◌≡◌, ℕ, zero, suc, ◌<◌, ◌≤◌, Bool, true, false, ◌||◌, List, [], ◌∷◌, ◌++◌, length, get_or, refl, sym, ◌∙◌, ap, subst, arith}
use Rattle.std.proofs.lemmas.Grind.{common_steps}
use Rattle.std.proofs.lemmas.List.Sorted.{sorted_far, ranks_by}
use Rattle.std.specs.Prelude.{bytes_eq}
use Rattle.std.specs.Cmp.Lexicographic.{nat_list_cmp_total}
use Rattle.std.specs.List.Sorted.{IsSortedBy}
use Rattle.std.specs.Ordering.{is_lt}
use Rattle.std.specs.declared.cmp.Ordering.{Ordering}
use Rattle.std.specs.declared.cmp.Ordering.TheVariants.{Less, Equal, Greater}
use Rattle.bisync_tree.specs.Rows.{PathBytes, Rows, keys, is_among, AreRising, IsAboveLast}
use Rattle.bisync_tree.specs.declared.entries.Entry.{Entry}
use Rattle.bisync_tree.proofs.PathOrder.{order, path_is_itself, same_path, below_trans, order_same, order_back, below_differs}
use Rattle.bisync_observe.proofs.RowLemmas.{is_below}

-- AMONG PATHS

pub among_push : (n : PathBytes) (ps : List PathBytes) (p : PathBytes) → is_among n (ps ++ p ∷ []) ≡ (is_among n ps || bytes_eq n p)
among_push n [] p = go (bytes_eq n p)
  where
    go : (b : Bool) → (b || false) ≡ b
    go true = refl
    go false = refl
among_push n (q ∷ qs) p = ap (λ b. bytes_eq n q || b) (among_push n qs p) ∙ or_assoc (bytes_eq n q) (is_among n qs) (bytes_eq n p)
  where
    or_assoc : (a b c : Bool) → (a || (b || c)) ≡ ((a || b) || c)
    or_assoc true b c = refl
    or_assoc false b c = refl

or_right : (a b : Bool) → b ≡ true → (a || b) ≡ true
or_right true b h = refl
or_right false b h = h

-- the last of rising paths is below what comes after it, and so are all
pub below_last : (qs : List PathBytes) (p n : PathBytes) → AreRising qs → IsAboveLast qs p → is_among n qs ≡ true → order n p ≡ Less
below_last [] p n rising h m = cc
below_last (q ∷ []) p n rising h m = go (bytes_eq n q) refl
  where
    go : (b : Bool) → bytes_eq n q ≡ b → order n p ≡ Less
    go true e = subst (λ r. order r p ≡ Less) (sym (same_path n q e)) h
    go false e = let f : (bytes_eq n q || false) ≡ false = ap (λ b. b || false) e in cc
below_last (q ∷ r ∷ rs) p n rising h m = go (λ k a. below_last (r ∷ rs) p k rising.1 h a) (bytes_eq n q) refl
  where
    go : ((k : PathBytes) → is_among k (r ∷ rs) ≡ true → order k p ≡ Less) → (b : Bool) → bytes_eq n q ≡ b → order n p ≡ Less
    go last true e =
        let next : order r p ≡ Less = last r (ap (λ b. b || is_among r rs) (path_is_itself r)) in
        subst (λ k. order k p ≡ Less) (sym (same_path n q e)) (below_trans q r p rising.0.0 next)
    go last false e = last n (sym (ap (λ b. b || is_among n (r ∷ rs)) e) ∙ m)

pub unnamed : (qs : List PathBytes) (p : PathBytes) → AreRising qs → IsAboveLast qs p → is_among p qs ≡ false
unnamed qs p rising h = go (is_among p qs) refl
  where
    go : (b : Bool) → is_among p qs ≡ b → b ≡ false
    go false e = refl
    go true e = let f = below_differs p p (below_last qs p p rising h e) in let t = path_is_itself p in cc

-- what is above each of them is above the last
pub above_each : (qs : List PathBytes) (p : PathBytes) → ((n : PathBytes) → is_among n qs ≡ true → order n p ≡ Less) → IsAboveLast qs p
above_each [] p below = tt
above_each (q ∷ []) p below = below q (ap (λ b. b || false) (path_is_itself q))
above_each (q ∷ r ∷ rs) p below = above_each (r ∷ rs) p (λ n m. below n (or_right (bytes_eq n q) (is_among n (r ∷ rs)) m))

-- what isn't above the last, and below none, is one of them
pub among_not_above : (qs : List PathBytes) (p : PathBytes) → (IsAboveLast qs p → ⊥) → ((n : PathBytes) → is_among n qs ≡ true → is_lt (order p n) ≡ false) → is_among p qs ≡ true
among_not_above [] p below first = absurd (below tt)
among_not_above (q ∷ []) p below first = go (order q p) refl
  where
    go : (o : Ordering) → order q p ≡ o → is_among p (q ∷ []) ≡ true
    go Less e = absurd (below e)
    go Equal e = ap (λ b. b || false) (subst (λ r. bytes_eq p r ≡ true) (sym (order_same q p e)) (path_is_itself p))
    go Greater e =
        let back = order_back q p e in
        let f = first q (ap (λ b. b || false) (path_is_itself q)) in
        let t : is_lt (order p q) ≡ true = ap is_lt back in cc
among_not_above (q ∷ r ∷ rs) p below first =
    or_right (bytes_eq p q) (is_among p (r ∷ rs)) (among_not_above (r ∷ rs) p below (λ n m. first n (or_right (bytes_eq n q) (is_among n (r ∷ rs)) m)))

-- ROWS IN ORDER

place : (rows more : Rows) (n : PathBytes) (d : PathBytes × Entry) → is_among n (keys rows) ≡ true → (i : ℕ) × (i < length rows) × ((get_or (rows ++ more) i d).0 ≡ n)
place [] more n d m = absurd (no m)
  where
    no : false ≡ true → ⊥
    no e = cc
place (r ∷ rs) more n d m = go (λ a. place rs more n d a) (bytes_eq n r.0) refl
  where
    go : (is_among n (keys rs) ≡ true → (i : ℕ) × (i < length rs) × ((get_or (rs ++ more) i d).0 ≡ n)) → (b : Bool) → bytes_eq n r.0 ≡ b → (i : ℕ) × (i < length (r ∷ rs)) × ((get_or (r ∷ (rs ++ more)) i d).0 ≡ n)
    go later true e = (zero, omega arith, sym (same_path n r.0 e))
    go later false e =
        let rest = later (sym (ap (λ b. b || is_among n (keys rs)) e) ∙ m) in
        let less = rest.1 in
        (suc rest.0, omega (arith, less), rest.2)

place_of_next : (rows next : Rows) (r d : PathBytes × Entry) → get_or (rows ++ r ∷ next) (length rows) d ≡ r
place_of_next [] next r d = refl
place_of_next (x ∷ xs) next r d = place_of_next xs next r d

long : (rows next : Rows) (r : PathBytes × Entry) → length rows < length (rows ++ r ∷ next)
long rows next r = grind (arith, common_steps)

-- a row in order is below none before it
pub not_below : (rows next : Rows) (r : PathBytes × Entry) (n : PathBytes) → IsSortedBy is_below (rows ++ r ∷ next) → is_among n (keys rows) ≡ true → is_lt (order r.0 n) ≡ false
not_below rows next r n sorted m =
    let at = place rows (r ∷ next) n r m in
    let far = sorted_far is_below (ranks_by nat_list_cmp_total (λ (x : PathBytes × Entry). x.0)) (rows ++ r ∷ next) sorted at.0 (length rows) r (before at.0 at.1) (long rows next r) in
    sym (λ i. is_lt (order (place_of_next rows next r r i).0 (at.2 i))) ∙ far
  where
    before : (i : ℕ) → i < length rows → i ≤ length rows
    before i less = omega arith
