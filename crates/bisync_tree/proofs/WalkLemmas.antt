-- A step of the walk takes the first cell.
use Rattle.std.proofs.Common.{◌≡◌, ◌⊎◌, Bool, true, false, cond, ◌&&◌, ◌||◌, List, [], ◌∷◌, map, Option, Some, None, refl, sym, ◌∙◌, ap, subst, inl, inr}
use Rattle.std.specs.Prelude.{bytes_eq}
use Rattle.std.specs.Ordering.{is_lt}
use Rattle.std.specs.declared.cmp.Ordering.{Ordering}
use Rattle.std.specs.declared.cmp.Ordering.TheVariants.{Less, Equal, Greater}
use Rattle.bisync_tree.specs.Rows.{PathBytes, Rows, keys, look, is_among, AreAbove, AreRising}
use Rattle.bisync_tree.specs.Walk.{first_key, lesser_key, entry_at_head, rest_after, Listings, paths_of, has_path, CellValue, cell_at, cells, least_key, rests, heads_at, AllRising}
use Rattle.bisync_tree.proofs.PathOrder.{order, path_is_itself, same_path, other_path', below_trans, order_same, order_back, below_differs}
use Rattle.bisync_tree.proofs.RisingLemmas.{above_trans, above_withs, rising_withs, among_withs, rising_same}
use Rattle.bisync_tree.proofs.LookLemmas.{look_absent, look_is_some}

abbrev pub NotBelow : PathBytes → Option PathBytes → Type 0
NotBelow p None = Unit {0}
NotBelow p (Some q) = (order p q ≡ Less) ⊎ (p ≡ q)

some_is : {p q : PathBytes} → ◌≡◌ {A = Option PathBytes} (Some p) (Some q) → p ≡ q
some_is e = cc

pub not_below_trans : (p q : PathBytes) (a : Option PathBytes) → NotBelow p (Some q) → NotBelow q a → NotBelow p a
not_below_trans p q None h k = tt
not_below_trans p q (Some r) (inl h) (inl k) = inl (below_trans p q r h k)
not_below_trans p q (Some r) (inl h) (inr k) = inl (subst (λ x. order p x ≡ Less) k h)
not_below_trans p q (Some r) (inr h) (inl k) = inl (subst (λ x. order x r ≡ Less) (sym h) k)
not_below_trans p q (Some r) (inr h) (inr k) = inr (h ∙ k)

pub lesser_least : (a b : Option PathBytes) (p : PathBytes) → lesser_key a b ≡ Some p → NotBelow p a × NotBelow p b × ((a ≡ Some p) ⊎ (b ≡ Some p))
lesser_least None None p e = cc
lesser_least None (Some q) p e = (tt, inr (sym (some_is e)), inr e)
lesser_least (Some x) None p e = (inr (sym (some_is e)), tt, inl e)
lesser_least (Some x) (Some y) p e = go (order y x) refl e
  where
    go : (o : Ordering) → order y x ≡ o → cond (is_lt o) (Some y) (Some x) ≡ Some p
        → ((order p x ≡ Less) ⊎ (p ≡ x)) × ((order p y ≡ Less) ⊎ (p ≡ y)) × ((◌≡◌ {A = Option PathBytes} (Some x) (Some p)) ⊎ (◌≡◌ {A = Option PathBytes} (Some y) (Some p)))
    go Less o e = (inl (subst (λ r. order r x ≡ Less) (some_is e) o), inr (sym (some_is e)), inr e)
    go Equal o e = (inr (sym (some_is e)), inr (sym (some_is e) ∙ sym (order_same y x o)), inl e)
    go Greater o e = (inr (sym (some_is e)), inl (subst (λ r. order r y ≡ Less) (some_is e) (order_back y x o)), inl e)

lesser_none : (a b : Option PathBytes) → lesser_key a b ≡ None → (a ≡ None) × (b ≡ None)
lesser_none None b e = (refl, e)
lesser_none (Some x) None e = cc
lesser_none (Some x) (Some y) e = go (is_lt (order y x)) e
  where
    go : (b : Bool) → ◌≡◌ {A = Option PathBytes} (cond b (Some y) (Some x)) None → (◌≡◌ {A = Option PathBytes} (Some x) None) × (◌≡◌ {A = Option PathBytes} (Some y) None)
    go true e = cc
    go false e = cc

no_rows : (rows : Rows) → first_key rows ≡ None → rows ≡ []
no_rows [] e = refl
no_rows (r ∷ rs) e = cc

abbrev has_head : Rows → PathBytes → Bool
has_head [] p = false
has_head (r ∷ rs) p = bytes_eq r.0 p

head_is : (rows : Rows) (p : PathBytes) → first_key rows ≡ Some p → has_head rows p ≡ true
head_is [] p e = cc
head_is (r ∷ rs) p e = let is : r.0 ≡ p = some_is e in subst (λ q. bytes_eq r.0 q ≡ true) is (path_is_itself r.0)

-- one listing, whose first path isn't below p
rest_above : (rows : Rows) (p : PathBytes) → AreRising (keys rows) → NotBelow p (first_key rows) → AreAbove p (keys (rest_after rows p))
rest_above [] p rising h = tt
rest_above (r ∷ rs) p rising h = go (bytes_eq r.0 p) refl h
  where
    go : (b : Bool) → bytes_eq r.0 p ≡ b → (order p r.0 ≡ Less) ⊎ (p ≡ r.0) → AreAbove p (keys (cond b rs (r ∷ rs)))
    go true e h = subst (λ q. AreAbove q (keys rs)) (same_path r.0 p e) rising.0
    go false e (inl h) = (h, above_trans p r.0 (keys rs) h rising.0)
    go false e (inr h) = absurd (other_path' r.0 p e (sym h))

pub rest_rising : (rows : Rows) (p : PathBytes) → AreRising (keys rows) → AreRising (keys (rest_after rows p))
rest_rising [] p rising = tt
rest_rising (r ∷ rs) p rising = go (bytes_eq r.0 p)
  where
    go : (b : Bool) → AreRising (keys (cond b rs (r ∷ rs)))
    go true = rising.1
    go false = rising

look_head : (rows : Rows) (p : PathBytes) → AreRising (keys rows) → NotBelow p (first_key rows) → look rows p ≡ entry_at_head rows p
look_head [] p rising h = refl
look_head (r ∷ rs) p rising h = go (bytes_eq r.0 p) refl h
  where
    go : (b : Bool) → bytes_eq r.0 p ≡ b → (order p r.0 ≡ Less) ⊎ (p ≡ r.0) → cond b (Some r.1) (look rs p) ≡ cond b (Some r.1) None
    go true e h = refl
    go false e (inl h) = look_absent rs p (above_trans p r.0 (keys rs) h rising.0)
    go false e (inr h) = absurd (other_path' r.0 p e (sym h))

look_rest : (rows : Rows) (p n : PathBytes) → order p n ≡ Less → look rows n ≡ look (rest_after rows p) n
look_rest [] p n h = refl
look_rest (r ∷ rs) p n h = go (bytes_eq r.0 p) refl
  where
    go : (b : Bool) → bytes_eq r.0 p ≡ b → cond (bytes_eq r.0 n) (Some r.1) (look rs n) ≡ look (cond b rs (r ∷ rs)) n
    go true e =
        let f : bytes_eq r.0 n ≡ false = subst (λ q. bytes_eq q n ≡ false) (sym (same_path r.0 p e)) (below_differs p n h) in
        ap (λ b. cond b (Some r.1) (look rs n)) f
    go false e = refl

among_rest : (rows : Rows) (p n : PathBytes) → is_among n (keys rows) ≡ ((has_head rows p && bytes_eq n p) || is_among n (keys (rest_after rows p)))
among_rest [] p n = refl
among_rest (r ∷ rs) p n = go (bytes_eq r.0 p) refl
  where
    go : (b : Bool) → bytes_eq r.0 p ≡ b → (bytes_eq n r.0 || is_among n (keys rs)) ≡ ((b && bytes_eq n p) || is_among n (keys (cond b rs (r ∷ rs))))
    go true e = ap (λ q. bytes_eq n q || is_among n (keys rs)) (same_path r.0 p e)
    go false e = refl

and_false : (a : Bool) → (a && false) ≡ false
and_false true = refl
and_false false = refl

and_true : (a : Bool) → (a && true) ≡ a
and_true true = refl
and_true false = refl

or_true : (a : Bool) → (a || true) ≡ true
or_true true = refl
or_true false = refl

or_false : (a : Bool) → (a || false) ≡ a
or_false true = refl
or_false false = refl

gather : (e a b c d r s t u : Bool) → ((a ≡ true) ⊎ (b ≡ true)) ⊎ ((c ≡ true) ⊎ (d ≡ true))
    → (((a && e) || r) || (((b && e) || s) || (((c && e) || t) || ((d && e) || u)))) ≡ (e || (r || (s || (t || u))))
gather false a b c d r s t u h = λ i. ((and_false a i || r) || ((and_false b i || s) || ((and_false c i || t) || (and_false d i || u))))
gather true a b c d r s t u (inl (inl h)) = λ i. (((and_true a ∙ h) i || r) || (((b && true) || s) || (((c && true) || t) || ((d && true) || u))))
gather true a b c d r s t u (inl (inr h)) =
    (λ i. (((a && true) || r) || (((and_true b ∙ h) i || s) || (((c && true) || t) || ((d && true) || u))))) ∙ or_true ((a && true) || r)
gather true a b c d r s t u (inr (inl h)) =
    (λ i. (((a && true) || r) || (((b && true) || s) || (((and_true c ∙ h) i || t) || ((d && true) || u)))))
    ∙ ap (λ x. ((a && true) || r) || x) (or_true ((b && true) || s)) ∙ or_true ((a && true) || r)
gather true a b c d r s t u (inr (inr h)) =
    (λ i. (((a && true) || r) || (((b && true) || s) || (((c && true) || t) || ((and_true d ∙ h) i || u)))))
    ∙ ap (λ x. ((a && true) || r) || (((b && true) || s) || x)) (or_true ((c && true) || t))
    ∙ ap (λ x. ((a && true) || r) || x) (or_true ((b && true) || s)) ∙ or_true ((a && true) || r)

pub among_paths : (l : Listings) (n : PathBytes)
    → is_among n (paths_of l) ≡ (is_among n (keys l.base1) || (is_among n (keys l.base2) || (is_among n (keys l.now1) || is_among n (keys l.now2))))
among_paths l n =
    among_withs n (keys l.base1) _ ∙ ap (λ x. is_among n (keys l.base1) || x)
    (among_withs n (keys l.base2) _ ∙ ap (λ x. is_among n (keys l.base2) || x)
    (among_withs n (keys l.now1) _ ∙ ap (λ x. is_among n (keys l.now1) || x)
    (among_withs n (keys l.now2) [] ∙ or_false (is_among n (keys l.now2)))))

pub rising_paths : (l : Listings) → AreRising (paths_of l)
rising_paths l = rising_withs (keys l.base1) _ (rising_withs (keys l.base2) _ (rising_withs (keys l.now1) _ (rising_withs (keys l.now2) [] tt)))

same_cells : (l m : Listings) (p : PathBytes) → ((n : PathBytes) → order p n ≡ Less → cell_at l n ≡ cell_at m n) → (ps : List PathBytes) → AreAbove p ps → map (cell_at l) ps ≡ map (cell_at m) ps
same_cells l m p same [] h = refl
same_cells l m p same (q ∷ qs) h = λ i. same q h.0 i ∷ same_cells l m p same qs h.1 i

pub next_cell : (l : Listings) → AllRising l → (p : PathBytes) → least_key l ≡ Some p → cells l ≡ heads_at l p ∷ cells (rests l p)
next_cell l rising p least = ap (λ ps. map (cell_at l) ps) paths ∙ (λ i. first i ∷ same_cells l (rests l p) p later (paths_of (rests l p)) above i)
  where
    Kept : Type 0
    Kept = NotBelow p (first_key l.base1) × NotBelow p (first_key l.base2) × NotBelow p (first_key l.now1) × NotBelow p (first_key l.now2)

    Heads : Type 0
    Heads = ((has_head l.base1 p ≡ true) ⊎ (has_head l.base2 p ≡ true)) ⊎ ((has_head l.now1 p ≡ true) ⊎ (has_head l.now2 p ≡ true))

    one : (rows : Rows) (rows' : Rows) → (first_key rows ≡ Some p) ⊎ (first_key rows' ≡ Some p) → (has_head rows p ≡ true) ⊎ (has_head rows' p ≡ true)
    one rows rows' (inl e) = inl (head_is rows p e)
    one rows rows' (inr e) = inr (head_is rows' p e)

    pair : (a b : Option PathBytes) → NotBelow p (lesser_key a b) → NotBelow p a × NotBelow p b
    pair a b h = go (lesser_key a b) refl h
      where
        go : (v : Option PathBytes) → lesser_key a b ≡ v → NotBelow p v → NotBelow p a × NotBelow p b
        go None e h = let none = lesser_none a b e in (subst (NotBelow p) (sym none.0) tt, subst (NotBelow p) (sym none.1) tt)
        go (Some q) e h = let is = lesser_least a b q e in (not_below_trans p q a h is.0, not_below_trans p q b h is.1)

    both : NotBelow p (lesser_key (first_key l.base1) (first_key l.base2)) × NotBelow p (lesser_key (first_key l.now1) (first_key l.now2))
        × ((lesser_key (first_key l.base1) (first_key l.base2) ≡ Some p) ⊎ (lesser_key (first_key l.now1) (first_key l.now2) ≡ Some p))
    both = lesser_least _ _ p least

    bases : NotBelow p (first_key l.base1) × NotBelow p (first_key l.base2)
    bases = pair (first_key l.base1) (first_key l.base2) both.0

    nows : NotBelow p (first_key l.now1) × NotBelow p (first_key l.now2)
    nows = pair (first_key l.now1) (first_key l.now2) both.1

    heads : Heads
    heads = go both.2
      where
        go : (lesser_key (first_key l.base1) (first_key l.base2) ≡ Some p) ⊎ (lesser_key (first_key l.now1) (first_key l.now2) ≡ Some p) → Heads
        go (inl e) = inl (one l.base1 l.base2 (lesser_least _ _ p e).2)
        go (inr e) = inr (one l.now1 l.now2 (lesser_least _ _ p e).2)

    above : AreAbove p (paths_of (rests l p))
    above =
        above_withs p (keys (rest_after l.base1 p)) _ (rest_above l.base1 p rising.base1 bases.0)
        (above_withs p (keys (rest_after l.base2 p)) _ (rest_above l.base2 p rising.base2 bases.1)
        (above_withs p (keys (rest_after l.now1 p)) _ (rest_above l.now1 p rising.now1 nows.0)
        (above_withs p (keys (rest_after l.now2 p)) [] (rest_above l.now2 p rising.now2 nows.1) tt)))

    paths : paths_of l ≡ p ∷ paths_of (rests l p)
    paths = rising_same (paths_of l) (p ∷ paths_of (rests l p)) (rising_paths l) (above, rising_paths (rests l p)) (λ n.
        among_paths l n
        ∙ (λ i. among_rest l.base1 p n i || (among_rest l.base2 p n i || (among_rest l.now1 p n i || among_rest l.now2 p n i)))
        ∙ gather (bytes_eq n p) (has_head l.base1 p) (has_head l.base2 p) (has_head l.now1 p) (has_head l.now2 p)
        (is_among n (keys (rest_after l.base1 p))) (is_among n (keys (rest_after l.base2 p))) (is_among n (keys (rest_after l.now1 p))) (is_among n (keys (rest_after l.now2 p))) heads
        ∙ ap (λ x. bytes_eq n p || x) (sym (among_paths (rests l p) n)))

    first : cell_at l p ≡ heads_at l p
    first = λ i. record {
      path = p;
      base1 = look_head l.base1 p rising.base1 bases.0 i;
      base2 = look_head l.base2 p rising.base2 bases.1 i;
      now1 = look_head l.now1 p rising.now1 nows.0 i;
      now2 = look_head l.now2 p rising.now2 nows.1 i;
    }

    later : (n : PathBytes) → order p n ≡ Less → cell_at l n ≡ cell_at (rests l p) n
    later n h = λ i. record {
      path = n;
      base1 = look_rest l.base1 p n h i;
      base2 = look_rest l.base2 p n h i;
      now1 = look_rest l.now1 p n h i;
      now2 = look_rest l.now2 p n h i;
    }

pub no_cell : (l : Listings) → least_key l ≡ None → cells l ≡ []
no_cell l none =
    let both = lesser_none (lesser_key (first_key l.base1) (first_key l.base2)) (lesser_key (first_key l.now1) (first_key l.now2)) none in
    let bases = lesser_none (first_key l.base1) (first_key l.base2) both.0 in
    let nows = lesser_none (first_key l.now1) (first_key l.now2) both.1 in
    λ i. cells (record { base1 = no_rows l.base1 bases.0 i; base2 = no_rows l.base2 bases.1 i; now1 = no_rows l.now1 nows.0 i; now2 = no_rows l.now2 nows.1 i })

pub rests_rising : (l : Listings) (p : PathBytes) → AllRising l → AllRising (rests l p)
rests_rising l p h = record { base1 = rest_rising l.base1 p h.base1; base2 = rest_rising l.base2 p h.base2; now1 = rest_rising l.now1 p h.now1; now2 = rest_rising l.now2 p h.now2 }

-- the same with what each listing gave named
pub taken : (l m : Listings) (cell : CellValue) → AllRising l → least_key l ≡ Some cell.path
    → cell.base1 ≡ entry_at_head l.base1 cell.path → cell.base2 ≡ entry_at_head l.base2 cell.path
    → cell.now1 ≡ entry_at_head l.now1 cell.path → cell.now2 ≡ entry_at_head l.now2 cell.path
    → m.base1 ≡ rest_after l.base1 cell.path → m.base2 ≡ rest_after l.base2 cell.path
    → m.now1 ≡ rest_after l.now1 cell.path → m.now2 ≡ rest_after l.now2 cell.path
    → cells l ≡ cell ∷ cells m
taken l m cell rising least a b c d e f g h =
    next_cell l rising cell.path least
    ∙ (λ i. record { path = cell.path; base1 = sym a i; base2 = sym b i; now1 = sym c i; now2 = sym d i }
    ∷ cells (record { base1 = sym e i; base2 = sym f i; now1 = sym g i; now2 = sym h i }))

pub taken_rising : (l m : Listings) (p : PathBytes) → AllRising l
    → m.base1 ≡ rest_after l.base1 p → m.base2 ≡ rest_after l.base2 p → m.now1 ≡ rest_after l.now1 p → m.now2 ≡ rest_after l.now2 p → AllRising m
taken_rising l m p rising e f g h = record {
  base1 = subst (λ r. AreRising (keys r)) (sym e) (rest_rising l.base1 p rising.base1);
  base2 = subst (λ r. AreRising (keys r)) (sym f) (rest_rising l.base2 p rising.base2);
  now1 = subst (λ r. AreRising (keys r)) (sym g) (rest_rising l.now1 p rising.now1);
  now2 = subst (λ r. AreRising (keys r)) (sym h) (rest_rising l.now2 p rising.now2);
}

left_nested : (a b c d : Bool) → (a || (b || (c || d))) ≡ (((a || b) || c) || d)
left_nested true b c d = refl
left_nested false true c d = refl
left_nested false false c d = refl

-- the paths of a walk are those that one of the listings has
pub covering : (l : Listings) (p : PathBytes) → is_among p (paths_of l) ≡ has_path l p
covering l p =
    among_paths l p
    ∙ left_nested (is_among p (keys l.base1)) (is_among p (keys l.base2)) (is_among p (keys l.now1)) (is_among p (keys l.now2))
    ∙ sym (λ i. ((look_is_some l.base1 p i || look_is_some l.base2 p i) || look_is_some l.now1 p i) || look_is_some l.now2 p i)
