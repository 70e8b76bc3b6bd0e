-- Paths in byte order, and their test for equality.
use Rattle.std.proofs.Common.{◌≡◌, ◌≢◌, Bool, true, false, refl, sym, ◌∙◌, ap, subst}
use Rattle.std.specs.Prelude.{bytes_eq}
use Rattle.std.specs.Ordering.{nat_cmp, is_eq}
use Rattle.std.specs.Cmp.Lexicographic.{slice_cmp}
use Rattle.std.specs.FinMap.{slice_cmp-IsAntisymmetric, nat_cmp-IsAntisymmetric}
use Rattle.std.specs.declared.cmp.Ordering.{Ordering}
use Rattle.std.specs.declared.cmp.Ordering.TheVariants.{Less, Equal, Greater}
use Rattle.std.proofs.lemmas.Cmp.{nat_list_cmp_total}
use Rattle.std.proofs.lemmas.Map.Text.{is_eq-slice_cmp}
use Rattle.std.proofs.lemmas.Slice.Eq.{bytes_eq-Decides}
use Rattle.bisync_tree.specs.Rows.{PathBytes}

abbrev pub order : PathBytes → PathBytes → Ordering
order p q = slice_cmp nat_cmp p q

pub path_is_itself : (p : PathBytes) → bytes_eq p p ≡ true
path_is_itself p = (bytes_eq-Decides p p).1 refl

pub same_path : (p q : PathBytes) → bytes_eq p q ≡ true → p ≡ q
same_path p q e = (bytes_eq-Decides p q).0 e

pub other_path : (p q : PathBytes) → p ≢ q → bytes_eq p q ≡ false
other_path p q ne = go (bytes_eq p q) refl
  where
    go : (b : Bool) → bytes_eq p q ≡ b → b ≡ false
    go false e = refl
    go true e = absurd (ne (same_path p q e))

pub other_path' : (p q : PathBytes) → bytes_eq p q ≡ false → p ≢ q
other_path' p q e is = let t : bytes_eq p q ≡ true = (bytes_eq-Decides p q).1 is in cc

pub below_trans : (p q r : PathBytes) → order p q ≡ Less → order q r ≡ Less → order p r ≡ Less
below_trans p q r a b = nat_list_cmp_total.trans p q r a b

pub order_same : (p q : PathBytes) → order p q ≡ Equal → p ≡ q
order_same p q e = slice_cmp-IsAntisymmetric nat_cmp-IsAntisymmetric p q e

pub order_back : (p q : PathBytes) → order p q ≡ Greater → order q p ≡ Less
order_back p q e = nat_list_cmp_total.antisymm q p ∙ ap back e
  where
    back : Ordering → Ordering
    back Less = Greater
    back Equal = Equal
    back Greater = Less

pub below_differs : (p q : PathBytes) → order p q ≡ Less → bytes_eq p q ≡ false
below_differs p q e = sym (is_eq-slice_cmp p q) ∙ ap is_eq e

pub below_differs' : (p q : PathBytes) → order p q ≡ Less → bytes_eq q p ≡ false
below_differs' p q e = go (bytes_eq q p) refl
  where
    go : (b : Bool) → bytes_eq q p ≡ b → b ≡ false
    go false is = refl
    go true is =
        let same : q ≡ p = same_path q p is in
        let t : bytes_eq p q ≡ true = subst (λ r. bytes_eq p r ≡ true) (sym same) (path_is_itself p) in
        let f = below_differs p q e in cc
