-- The entry that rows have at a path.
use Rattle.std.proofs.Common.{◌≡◌, ℕ, zero, suc, Bool, true, false, cond, ◌||◌, [], ◌∷◌, Option, Some, None, refl, sym, ◌∙◌, ap, subst}
use Rattle.std.specs.Prelude.{bytes_eq, slice_get, is_some}
use Rattle.std.specs.declared.cmp.Ordering.{Ordering}
use Rattle.std.specs.declared.cmp.Ordering.TheVariants.{Less, Equal, Greater}
use Rattle.bisync_tree.specs.Rows.{PathBytes, Rows, keys, look, is_among, AreAbove, AreRising}
use Rattle.bisync_tree.specs.declared.entries.Entry.{Entry}
use Rattle.bisync_tree.proofs.PathOrder.{order, path_is_itself, same_path, order_same, order_back, below_differs, below_differs'}
use Rattle.bisync_tree.proofs.RisingLemmas.{above_trans}

-- a path is looked up exactly where it is a key
pub look_is_some : (rows : Rows) (p : PathBytes) → is_some (look rows p) ≡ is_among p (keys rows)
look_is_some [] p = refl
look_is_some (r ∷ rs) p = go (bytes_eq r.0 p) refl (look_is_some rs p)
  where
    go : (b : Bool) → bytes_eq r.0 p ≡ b → is_some (look rs p) ≡ is_among p (keys rs) → is_some (cond b (Some r.1) (look rs p)) ≡ (bytes_eq p r.0 || is_among p (keys rs))
    go true t rest =
        let same : bytes_eq p r.0 ≡ true = subst (λ q. bytes_eq p q ≡ true) (sym (same_path r.0 p t)) (path_is_itself p) in
        sym (ap (λ b. b || is_among p (keys rs)) same)
    go false f rest = rest ∙ sym (ap (λ b. b || is_among p (keys rs)) (turned f))
      where
        turned : bytes_eq r.0 p ≡ false → bytes_eq p r.0 ≡ false
        turned f = by (bytes_eq p r.0) refl
          where
            by : (b : Bool) → bytes_eq p r.0 ≡ b → b ≡ false
            by false e = refl
            by true e =
                let t : bytes_eq r.0 p ≡ true = subst (λ q. bytes_eq r.0 q ≡ true) (sym (same_path p r.0 e)) (path_is_itself r.0) in cc

none_of : (v : Option Entry) → is_some v ≡ false → v ≡ None
none_of None e = refl
none_of (Some e) f = cc

pub look_unlisted : (rows : Rows) (p : PathBytes) → is_among p (keys rows) ≡ false → look rows p ≡ None
look_unlisted rows p e = none_of (look rows p) (look_is_some rows p ∙ e)

pub look_among : (rows : Rows) (p : PathBytes) (e : Entry) → look rows p ≡ Some e → is_among p (keys rows) ≡ true
look_among rows p e h = sym (look_is_some rows p) ∙ ap is_some h

pub look_absent : (rows : Rows) (p : PathBytes) → AreAbove p (keys rows) → look rows p ≡ None
look_absent [] p h = refl
look_absent (r ∷ rs) p h = (λ i. cond (below_differs' p r.0 h.0 i) (Some r.1) (look rs p)) ∙ look_absent rs p h.1

above_row : (q : PathBytes) (rows : Rows) (n : ℕ) (x : PathBytes × Entry) → AreAbove q (keys rows) → slice_get rows n ≡ Some x → order q x.0 ≡ Less
above_row q [] n x h e = cc
above_row q (r ∷ rs) zero x h e = let is : r ≡ x = cc in subst (λ y. order q y.0 ≡ Less) is h.0
above_row q (r ∷ rs) (suc n) x h e = above_row q rs n x h.1 e

pub found_row : (rows : Rows) (n : ℕ) (x : PathBytes × Entry) (p : PathBytes) → AreRising (keys rows) → slice_get rows n ≡ Some x → x.0 ≡ p → look rows p ≡ Some x.1
found_row [] n x p rising e is = cc
found_row (r ∷ rs) zero x p rising e is =
    let same : r ≡ x = cc in
    let t : bytes_eq r.0 p ≡ true = subst (λ q. bytes_eq r.0 q ≡ true) (ap (λ y. y.0) same ∙ is) (path_is_itself r.0) in
    ap (λ b. cond b (Some r.1) (look rs p)) t ∙ ap (λ y. Some y.1) same
found_row (r ∷ rs) (suc n) x p rising e is =
    let f : bytes_eq r.0 p ≡ false = subst (λ q. bytes_eq r.0 q ≡ false) is (below_differs r.0 x.0 (above_row r.0 rs n x rising.0 e)) in
    ap (λ b. cond b (Some r.1) (look rs p)) f ∙ found_row rs n x p rising.1 e is

look_first : (r : PathBytes × Entry) (rs : Rows) → look (r ∷ rs) r.0 ≡ Some r.1
look_first r rs = ap (λ b. cond b (Some r.1) (look rs r.0)) (path_is_itself r.0)

some_entry : {a b : Entry} → ◌≡◌ {A = Option Entry} (Some a) (Some b) → a ≡ b
some_entry e = cc

-- rows whose keys rise are decided by their look-ups
pub same_rows : (xs ys : Rows) → AreRising (keys xs) → AreRising (keys ys) → ((p : PathBytes) → look xs p ≡ look ys p) → xs ≡ ys
same_rows [] [] a b same = refl
same_rows [] (y ∷ ys) a b same = let f = same y.0 in let t = look_first y ys in cc
same_rows (x ∷ xs) [] a b same = let f = same x.0 in let t = look_first x xs in cc
same_rows (x ∷ xs) (y ∷ ys) a b same = go (λ h. same_rows xs ys a.1 b.1 h) (order x.0 y.0) refl
  where
    go : (((p : PathBytes) → look xs p ≡ look ys p) → xs ≡ ys) → (o : Ordering) → order x.0 y.0 ≡ o → x ∷ xs ≡ y ∷ ys
    go rest Less e = let f = look_absent (y ∷ ys) x.0 (e, above_trans x.0 y.0 (keys ys) e b.0) in let t = look_first x xs in let s = same x.0 in cc
    go rest Greater e =
        let back = order_back x.0 y.0 e in
        let f = look_absent (x ∷ xs) y.0 (back, above_trans y.0 x.0 (keys xs) back a.0) in let t = look_first y ys in let s = same y.0 in cc
    go rest Equal e =
        let is : x.0 ≡ y.0 = order_same x.0 y.0 e in
        let at : look (y ∷ ys) x.0 ≡ Some y.1 = subst (λ p. look (y ∷ ys) p ≡ Some y.1) (sym is) (look_first y ys) in
        let entry : x.1 ≡ y.1 = some_entry (sym (look_first x xs) ∙ same x.0 ∙ at) in
        (λ i. (is i, entry i) ∷ rest (λ p. tails p (bytes_eq x.0 p) refl) i)
      where
        tails : (p : PathBytes) (c : Bool) → bytes_eq x.0 p ≡ c → look xs p ≡ look ys p
        tails p true t =
            let p_is : x.0 ≡ p = same_path x.0 p t in
            let l : look xs p ≡ None = subst (λ q. look xs q ≡ None) p_is (look_absent xs x.0 a.0) in
            let r : look ys p ≡ None = subst (λ q. look ys q ≡ None) (sym (order_same x.0 y.0 e) ∙ p_is) (look_absent ys y.0 b.0) in
            l ∙ sym r
        tails p false t =
            let u : bytes_eq y.0 p ≡ false = subst (λ q. bytes_eq q p ≡ false) (order_same x.0 y.0 e) t in
            sym (ap (λ c. cond c (Some x.1) (look xs p)) t) ∙ same p ∙ ap (λ c. cond c (Some y.1) (look ys p)) u
