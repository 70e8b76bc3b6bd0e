-- The first path at which two listings aren't the same.
use Rattle.std.proofs.Common.{◌≡◌, Bool, true, false, cond, ◌||◌, List, [], ◌∷◌, map, Option, Some, None, refl, sym, ◌∙◌, ap, subst}
use Rattle.std.specs.Prelude.{bytes_eq}
use Rattle.std.specs.declared.cmp.Ordering.TheVariants.{Less}
use Rattle.bisync_tree.specs.Rows.{PathBytes, Rows, look, is_among, AreRising}
use Rattle.bisync_tree.specs.Same.{same, Agree}
use Rattle.bisync_tree.specs.Walk.{CellValue, cell_at, cells, listings, paths_of}
use Rattle.bisync_tree.specs.declared.entries.Entry.{Entry}
use Rattle.bisync_tree.specs.declared.entries.Compare.{Compare}
use Rattle.bisync_tree.proofs.PathOrder.{order, same_path}
use Rattle.bisync_tree.proofs.RisingLemmas.{above_trans, absent_below}
use Rattle.bisync_tree.proofs.WalkLemmas.{rising_paths}
use Rattle.bisync_model.specs.Trees.{by_side}
use Rattle.bisync_plan.specs.CellRows.{first_apart}
use Rattle.bisync_plan.specs.Faults.{IsFirstApart}
use Rattle.bisync_plan.proofs.RowsOfCells.{absent}

module _ (c : Compare) (one two : Rows) where
  -- the first of these cells
  record IsFound (ps : List PathBytes) (cell : CellValue) : Type 0 where
    is : cell ≡ cell_at (listings one two [] []) cell.path
    differ : same c (look one cell.path) (look two cell.path) ≡ false
    first : (q : PathBytes) → order q cell.path ≡ Less → is_among q ps ≡ true → same c (look one q) (look two q) ≡ true

  among_rest : (q p : PathBytes) (ps : List PathBytes) (b : Bool) → bytes_eq q p ≡ b → is_among q (p ∷ ps) ≡ true → (b ≡ true → same c (look one q) (look two q) ≡ true)
      → (is_among q ps ≡ true → same c (look one q) (look two q) ≡ true) → same c (look one q) (look two q) ≡ true
  among_rest q p ps true e h here later = here refl
  among_rest q p ps false e h here later = later (ap (λ b. b || is_among q ps) (sym e) ∙ h)

  same_at : (q p : PathBytes) → bytes_eq q p ≡ true → same c (look one p) (look two p) ≡ true → same c (look one q) (look two q) ≡ true
  same_at q p e h = subst (λ n. same c (look one n) (look two n) ≡ true) (sym (same_path q p e)) h

  none_apart : (ps : List PathBytes) → first_apart c (map (cell_at (listings one two [] [])) ps) ≡ None
      → (q : PathBytes) → is_among q ps ≡ true → same c (look one q) (look two q) ≡ true
  none_apart [] e q h = cc
  none_apart (p ∷ ps) e q h = go (same c (look one p) (look two p)) refl e (λ f. none_apart ps f q)
    where
      go : (b : Bool) → same c (look one p) (look two p) ≡ b → cond b (first_apart c (map (cell_at (listings one two [] [])) ps)) (Some (cell_at (listings one two [] []) p)) ≡ None
          → (first_apart c (map (cell_at (listings one two [] [])) ps) ≡ None → is_among q ps ≡ true → same c (look one q) (look two q) ≡ true)
          → same c (look one q) (look two q) ≡ true
      go true is e rest = among_rest q p ps (bytes_eq q p) refl h (λ t. same_at q p t is) (rest e)
      go false is e rest = cc

  found : (ps : List PathBytes) → AreRising ps → (cell : CellValue) → first_apart c (map (cell_at (listings one two [] [])) ps) ≡ Some cell → IsFound ps cell
  found [] rising cell e = cc
  found (p ∷ ps) rising cell e = go (same c (look one p) (look two p)) refl e (λ f. found ps rising.1 cell f)
    where
      later : same c (look one p) (look two p) ≡ true → IsFound ps cell → IsFound (p ∷ ps) cell
      later is f = record {
        is = f.is;
        differ = f.differ;
        first = λ q less h. among_rest q p ps (bytes_eq q p) refl h (λ t. same_at q p t is) (f.first q less);
      }

      here : same c (look one p) (look two p) ≡ false → IsFound (p ∷ ps) (cell_at (listings one two [] []) p)
      here is = record {
        is = refl;
        differ = is;
        first = λ q less h. let none : is_among q (p ∷ ps) ≡ false = absent_below q (p ∷ ps) (less, above_trans q p ps less rising.0) in let wrong : true ≡ false = sym h ∙ none in cc;
      }

      go : (b : Bool) → same c (look one p) (look two p) ≡ b → cond b (first_apart c (map (cell_at (listings one two [] [])) ps)) (Some (cell_at (listings one two [] []) p)) ≡ Some cell
          → (first_apart c (map (cell_at (listings one two [] [])) ps) ≡ Some cell → IsFound ps cell) → IsFound (p ∷ ps) cell
      go true is e rest = later is (rest e)
      go false is e rest = let cell_is : cell_at (listings one two [] []) p ≡ cell = cc in subst (λ x. IsFound (p ∷ ps) x) cell_is (here is)

  -- where neither has the path
  unlisted : (q : PathBytes) → is_among q (paths_of (listings one two [] [])) ≡ false → same c (look one q) (look two q) ≡ true
  unlisted q h = let none = absent (listings one two [] []) q h in λ i. same c (none.base1 i) (none.base2 i)

  everywhere : (q : PathBytes) → (is_among q (paths_of (listings one two [] [])) ≡ true → same c (look one q) (look two q) ≡ true) → same c (look one q) (look two q) ≡ true
  everywhere q listed = go (is_among q (paths_of (listings one two [] []))) refl
    where
      go : (b : Bool) → is_among q (paths_of (listings one two [] [])) ≡ b → same c (look one q) (look two q) ≡ true
      go true e = listed e
      go false e = unlisted q e

  pub agree_from : first_apart c (cells (listings one two [] [])) ≡ None → Agree c (look one) (look two)
  agree_from e = λ q. everywhere q (none_apart (paths_of (listings one two [] [])) e q)

  pub apart_from : (cell : CellValue) (p : PathBytes) (a b : Option Entry) → first_apart c (cells (listings one two [] [])) ≡ Some cell
      → p ≡ cell.path → a ≡ cell.base1 → b ≡ cell.base2 → IsFirstApart c (by_side (look one) (look two)) p a b
  apart_from cell p a b e p_is a_is b_is =
      let f : IsFound (paths_of (listings one two [] [])) cell = found (paths_of (listings one two [] [])) (rising_paths (listings one two [] [])) cell e in
      let left : look one p ≡ a = ap (look one) p_is ∙ sym (ap (λ x. x.base1) f.is) ∙ sym a_is in
      let right : look two p ≡ b = ap (look two) p_is ∙ sym (ap (λ x. x.base2) f.is) ∙ sym b_is in
      record {
        one_is = left;
        two_is = right;
        differ = (λ i. same c (sym left i) (sym right i)) ∙ (λ i. same c (look one (p_is i)) (look two (p_is i))) ∙ f.differ;
        first = λ q less. everywhere q (f.first q (subst (λ n. order q n ≡ Less) p_is less));
      }
