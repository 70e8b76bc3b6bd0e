-- Rising lists of paths: what stands where, and that their members decide them.
use Rattle.std.proofs.Common.{◌≡◌, Bool, true, false, ◌||◌, List, [], ◌∷◌, refl, sym, ◌∙◌, ap, subst}
use Rattle.std.specs.Prelude.{bytes_eq}
use Rattle.std.specs.declared.cmp.Ordering.{Ordering}
use Rattle.std.specs.declared.cmp.Ordering.TheVariants.{Less, Equal, Greater}
use Rattle.bisync_tree.specs.Rows.{PathBytes, is_among, AreAbove, AreRising}
use Rattle.bisync_tree.specs.Walk.{with_path, with_paths, placed}
use Rattle.bisync_tree.proofs.PathOrder.{order, path_is_itself, same_path, below_trans, order_same, order_back, below_differs}

pub above_trans : (p q : PathBytes) (qs : List PathBytes) → order p q ≡ Less → AreAbove q qs → AreAbove p qs
above_trans p q [] e h = tt
above_trans p q (r ∷ rs) e h = (below_trans p q r e h.0, above_trans p q rs e h.1)

pub absent_below : (p : PathBytes) (paths : List PathBytes) → AreAbove p paths → is_among p paths ≡ false
absent_below p [] h = refl
absent_below p (q ∷ qs) h = (λ i. below_differs p q h.0 i || is_among p qs) ∙ absent_below p qs h.1

above_with : (r p : PathBytes) (qs : List PathBytes) → order r p ≡ Less → AreAbove r qs → AreAbove r (with_path p qs)
above_with r p [] e h = (e, tt)
above_with r p (q ∷ qs) e h = go (above_with r p qs e h.1) (order p q)
  where
    go : AreAbove r (with_path p qs) → (o : Ordering) → AreAbove r (placed o p q qs (with_path p qs))
    go rest Less = (e, h)
    go rest Equal = h
    go rest Greater = (h.0, rest)

pub above_withs : (r : PathBytes) (ps qs : List PathBytes) → AreAbove r ps → AreAbove r qs → AreAbove r (with_paths ps qs)
above_withs r [] qs h k = k
above_withs r (p ∷ ps) qs h k = above_with r p (with_paths ps qs) h.0 (above_withs r ps qs h.1 k)

rising_with : (p : PathBytes) (qs : List PathBytes) → AreRising qs → AreRising (with_path p qs)
rising_with p [] h = (tt, tt)
rising_with p (q ∷ qs) h = go (rising_with p qs h.1) (order p q) refl
  where
    go : AreRising (with_path p qs) → (o : Ordering) → order p q ≡ o → AreRising (placed o p q qs (with_path p qs))
    go rest Less e = ((e, above_trans p q qs e h.0), h)
    go rest Equal e = h
    go rest Greater e = (above_with q p qs (order_back p q e) h.0, rest)

pub rising_withs : (ps qs : List PathBytes) → AreRising qs → AreRising (with_paths ps qs)
rising_withs [] qs h = h
rising_withs (p ∷ ps) qs h = rising_with p (with_paths ps qs) (rising_withs ps qs h)

or_swap : (a b c : Bool) → (a || (b || c)) ≡ (b || (a || c))
or_swap true true c = refl
or_swap true false c = refl
or_swap false b c = refl

or_twice : (a c : Bool) → (a || c) ≡ (a || (a || c))
or_twice true c = refl
or_twice false c = refl

or_assoc : (a b c : Bool) → (a || (b || c)) ≡ ((a || b) || c)
or_assoc true b c = refl
or_assoc false b c = refl

among_with : (n p : PathBytes) (qs : List PathBytes) → is_among n (with_path p qs) ≡ (bytes_eq n p || is_among n qs)
among_with n p [] = refl
among_with n p (q ∷ qs) = go (among_with n p qs) (order p q) refl
  where
    go : is_among n (with_path p qs) ≡ (bytes_eq n p || is_among n qs) → (o : Ordering) → order p q ≡ o
        → is_among n (placed o p q qs (with_path p qs)) ≡ (bytes_eq n p || (bytes_eq n q || is_among n qs))
    go rest Less e = refl
    go rest Equal e = or_twice (bytes_eq n q) (is_among n qs) ∙ ap (λ r. bytes_eq n r || (bytes_eq n q || is_among n qs)) (sym (order_same p q e))
    go rest Greater e = ap (λ b. bytes_eq n q || b) rest ∙ or_swap (bytes_eq n q) (bytes_eq n p) (is_among n qs)

pub among_withs : (n : PathBytes) (ps qs : List PathBytes) → is_among n (with_paths ps qs) ≡ (is_among n ps || is_among n qs)
among_withs n [] qs = refl
among_withs n (p ∷ ps) qs =
    among_with n p (with_paths ps qs) ∙ ap (λ b. bytes_eq n p || b) (among_withs n ps qs) ∙ or_assoc (bytes_eq n p) (is_among n ps) (is_among n qs)

pub here : (p : PathBytes) (ps : List PathBytes) → is_among p (p ∷ ps) ≡ true
here p ps = ap (λ b. b || is_among p ps) (path_is_itself p)

-- a rising list is decided by its members
pub rising_same : (xs ys : List PathBytes) → AreRising xs → AreRising ys → ((n : PathBytes) → is_among n xs ≡ is_among n ys) → xs ≡ ys
rising_same [] [] a b same = refl
rising_same [] (y ∷ ys) a b same = let f = same y in let t = here y ys in cc
rising_same (x ∷ xs) [] a b same = let f = same x in let t = here x xs in cc
rising_same (x ∷ xs) (y ∷ ys) a b same = go (λ h. rising_same xs ys a.1 b.1 h) (order x y) refl
  where
    go : (((n : PathBytes) → is_among n xs ≡ is_among n ys) → xs ≡ ys) → (o : Ordering) → order x y ≡ o → x ∷ xs ≡ y ∷ ys
    go rest Less e = let f = absent_below x (y ∷ ys) (e, above_trans x y ys e b.0) in let t = here x xs in let s = same x in cc
    go rest Greater e =
        let back = order_back x y e in
        let f = absent_below y (x ∷ xs) (back, above_trans y x xs back a.0) in let t = here y ys in let s = same y in cc
    go rest Equal e =
        let is : x ≡ y = order_same x y e in
        (λ i. is i ∷ rest (λ n. tails n (bytes_eq n x) refl) i)
      where
        tails : (n : PathBytes) (c : Bool) → bytes_eq n x ≡ c → is_among n xs ≡ is_among n ys
        tails n true t =
            let n_is : n ≡ x = same_path n x t in
            let l : is_among n xs ≡ false = subst (λ r. is_among r xs ≡ false) (sym n_is) (absent_below x xs a.0) in
            let r : is_among n ys ≡ false = subst (λ r. is_among r ys ≡ false) (sym (n_is ∙ order_same x y e)) (absent_below y ys b.0) in
            l ∙ sym r
        tails n false t =
            let u : bytes_eq n y ≡ false = subst (λ r. bytes_eq n r ≡ false) (order_same x y e) t in
            sym (ap (λ c. c || is_among n xs) t) ∙ same n ∙ ap (λ c. c || is_among n ys) u
