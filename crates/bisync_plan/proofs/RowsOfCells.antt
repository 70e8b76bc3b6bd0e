-- Rows made of cells: their order, and the entry of each path.
use Rattle.std.proofs.Common.{◌≡◌, Bool, true, false, cond, ◌||◌, List, [], ◌∷◌, ◌++◌, map, Option, Some, None, refl, sym, ◌∙◌, ap, subst}
use Rattle.std.specs.Prelude.{bytes_eq, flat_map, is_some}
use Rattle.std.specs.declared.cmp.Ordering.TheVariants.{Less}
use Rattle.bisync_tree.specs.Rows.{PathBytes, Rows, keys, look, is_among, AreAbove, AreRising, IsAboveLast}
use Rattle.bisync_tree.specs.Walk.{Listings, CellValue, cell_at, cells, paths_of, has_path}
use Rattle.bisync_tree.specs.declared.entries.Entry.{Entry}
use Rattle.bisync_tree.proofs.PathOrder.{order, path_is_itself, same_path}
use Rattle.bisync_tree.proofs.RisingLemmas.{absent_below}
use Rattle.bisync_tree.proofs.WalkLemmas.{rising_paths, covering}
use Rattle.bisync_plan.specs.CellRows.{row_of}

above_rest : (p q : PathBytes) (xs ys : Rows) (e : Entry) → AreAbove p (keys (xs ++ (q, e) ∷ ys)) → order p q ≡ Less
above_rest p q [] ys e h = h.0
above_rest p q (x ∷ xs) ys e h = above_rest p q xs ys e h.1

pub above_from : (xs ys : Rows) (p : PathBytes) (e : Entry) → AreRising (keys (xs ++ (p, e) ∷ ys)) → IsAboveLast (keys xs) p
above_from [] ys p e h = tt
above_from (r ∷ []) ys p e h = h.0.0
above_from (r ∷ s ∷ rs) ys p e h = above_from (s ∷ rs) ys p e h.1

pub none_from : {A : Type 0} (v : Option A) → is_some v ≡ false → v ≡ None
none_from None e = refl
none_from (Some x) e = cc

-- a path that no listing has
pub record IsAbsent (l : Listings) (p : PathBytes) : Type 0 where
  pub base1 : look l.base1 p ≡ None
  pub base2 : look l.base2 p ≡ None
  pub now1 : look l.now1 p ≡ None
  pub now2 : look l.now2 p ≡ None

or_false_first : (a b c d : Bool) → (a || b || c || d) ≡ false → a ≡ false
or_false_first true b c d e = cc
or_false_first false b c d e = refl

or_false_second : (a b c d : Bool) → (a || b || c || d) ≡ false → b ≡ false
or_false_second true b c d e = cc
or_false_second false true c d e = cc
or_false_second false false c d e = refl

or_false_third : (a b c d : Bool) → (a || b || c || d) ≡ false → c ≡ false
or_false_third true b c d e = cc
or_false_third false true c d e = cc
or_false_third false false true d e = cc
or_false_third false false false d e = refl

or_false_fourth : (a b c d : Bool) → (a || b || c || d) ≡ false → d ≡ false
or_false_fourth true b c d e = cc
or_false_fourth false true c d e = cc
or_false_fourth false false true d e = cc
or_false_fourth false false false true e = cc
or_false_fourth false false false false e = refl

pub absent : (l : Listings) (p : PathBytes) → is_among p (paths_of l) ≡ false → IsAbsent l p
absent l p h =
    let e : has_path l p ≡ false = sym (covering l p) ∙ h in
    record {
      base1 = none_from (look l.base1 p) (or_false_first (is_some (look l.base1 p)) (is_some (look l.base2 p)) (is_some (look l.now1 p)) (is_some (look l.now2 p)) e);
      base2 = none_from (look l.base2 p) (or_false_second (is_some (look l.base1 p)) (is_some (look l.base2 p)) (is_some (look l.now1 p)) (is_some (look l.now2 p)) e);
      now1 = none_from (look l.now1 p) (or_false_third (is_some (look l.base1 p)) (is_some (look l.base2 p)) (is_some (look l.now1 p)) (is_some (look l.now2 p)) e);
      now2 = none_from (look l.now2 p) (or_false_fourth (is_some (look l.base1 p)) (is_some (look l.base2 p)) (is_some (look l.now1 p)) (is_some (look l.now2 p)) e);
    }

differ : {b : Bool} → b ≡ true → b ≡ false → ⊥
differ e f = let h : true ≡ false = sym e ∙ f in cc

module _ (l : Listings) (f : CellValue → Option Entry) where
  rows_above : (p : PathBytes) (ps : List PathBytes) → AreAbove p ps → AreAbove p (keys (flat_map (λ c. row_of c.path (f c)) (map (cell_at l) ps)))
  rows_above p [] h = tt
  rows_above p (q ∷ qs) h = go (f (cell_at l q)) (rows_above p qs h.1)
    where
      go : (v : Option Entry) → AreAbove p (keys (flat_map (λ c. row_of c.path (f c)) (map (cell_at l) qs))) → AreAbove p (keys (row_of q v ++ flat_map (λ c. row_of c.path (f c)) (map (cell_at l) qs)))
      go None rest = rest
      go (Some e) rest = (h.0, rest)

  rows_rise : (ps : List PathBytes) → AreRising ps → AreRising (keys (flat_map (λ c. row_of c.path (f c)) (map (cell_at l) ps)))
  rows_rise [] h = tt
  rows_rise (q ∷ qs) h = go (f (cell_at l q)) (rows_rise qs h.1)
    where
      go : (v : Option Entry) → AreRising (keys (flat_map (λ c. row_of c.path (f c)) (map (cell_at l) qs))) → AreRising (keys (row_of q v ++ flat_map (λ c. row_of c.path (f c)) (map (cell_at l) qs)))
      go None rest = rest
      go (Some e) rest = (rows_above q qs h.0, rest)

  look_rows : (p : PathBytes) (ps : List PathBytes) → AreRising ps → look (flat_map (λ c. row_of c.path (f c)) (map (cell_at l) ps)) p ≡ cond (is_among p ps) (f (cell_at l p)) None
  look_rows p [] h = refl
  look_rows p (q ∷ qs) h = go (bytes_eq q p) (bytes_eq p q) refl refl (look_rows p qs h.1)
    where
      more : (v : Option Entry) → bytes_eq q p ≡ false → look (row_of q v ++ flat_map (λ c. row_of c.path (f c)) (map (cell_at l) qs)) p ≡ look (flat_map (λ c. row_of c.path (f c)) (map (cell_at l) qs)) p
      more None e = refl
      more (Some x) e = ap (λ t. cond t (Some x) (look (flat_map (λ c. row_of c.path (f c)) (map (cell_at l) qs)) p)) e

      here : (v : Option Entry) → bytes_eq q p ≡ true → look (flat_map (λ c. row_of c.path (f c)) (map (cell_at l) qs)) p ≡ None → look (row_of q v ++ flat_map (λ c. row_of c.path (f c)) (map (cell_at l) qs)) p ≡ v
      here None e rest = rest
      here (Some x) e rest = ap (λ t. cond t (Some x) (look (flat_map (λ c. row_of c.path (f c)) (map (cell_at l) qs)) p)) e

      go : (a b : Bool) → bytes_eq q p ≡ a → bytes_eq p q ≡ b → look (flat_map (λ c. row_of c.path (f c)) (map (cell_at l) qs)) p ≡ cond (is_among p qs) (f (cell_at l p)) None → look (row_of q (f (cell_at l q)) ++ flat_map (λ c. row_of c.path (f c)) (map (cell_at l) qs)) p ≡ cond (b || is_among p qs) (f (cell_at l p)) None
      go true true a b rest =
          let same : q ≡ p = same_path q p a in
          let none : is_among p qs ≡ false = subst (λ n. is_among n qs ≡ false) same (absent_below q qs h.0) in
          here (f (cell_at l q)) a (rest ∙ ap (λ t. cond t (f (cell_at l p)) None) none) ∙ ap (λ n. f (cell_at l n)) same
      go false false a b rest = more (f (cell_at l q)) a ∙ rest
      go true false a b rest =
          let same : q ≡ p = same_path q p a in
          let t : bytes_eq p q ≡ true = subst (λ n. bytes_eq n q ≡ true) same (path_is_itself q) in absurd (differ t b)
      go false true a b rest =
          let same : p ≡ q = same_path p q b in
          let t : bytes_eq q p ≡ true = subst (λ n. bytes_eq n p ≡ true) same (path_is_itself p) in absurd (differ t a)

  pub rows_rising : AreRising (keys (flat_map (λ c. row_of c.path (f c)) (cells l)))
  rows_rising = rows_rise (paths_of l) (rising_paths l)

  -- each path has what its cell gives, where a cell of nothing gives nothing
  pub look_in_rows : (p : PathBytes) → (IsAbsent l p → f (cell_at l p) ≡ None) → look (flat_map (λ c. row_of c.path (f c)) (cells l)) p ≡ f (cell_at l p)
  look_in_rows p none = look_rows p (paths_of l) (rising_paths l) ∙ go (is_among p (paths_of l)) refl
    where
      go : (b : Bool) → is_among p (paths_of l) ≡ b → cond b (f (cell_at l p)) None ≡ f (cell_at l p)
      go true e = refl
      go false e = sym (none (absent l p e))
