-- Two first places at which two listings aren't the same are one, and there is none where they agree.
use Rattle.std.proofs.Common.{◌≡◌, true, false, Option, refl, sym, ◌∙◌, ap}
use Rattle.std.specs.declared.cmp.Ordering.{Ordering}
use Rattle.std.specs.declared.cmp.Ordering.TheVariants.{Less, Equal, Greater}
use Rattle.bisync_tree.specs.Rows.{PathBytes}
use Rattle.bisync_tree.specs.Same.{same, Agree}
use Rattle.bisync_tree.specs.declared.sides.Side.TheVariants.{One, Two}
use Rattle.bisync_tree.specs.declared.entries.Entry.{Entry}
use Rattle.bisync_tree.specs.declared.entries.Compare.{Compare}
use Rattle.bisync_tree.proofs.PathOrder.{order, order_same, order_back}
use Rattle.bisync_model.specs.Entries.{Entries}
use Rattle.bisync_plan.specs.Faults.{IsFirstApart}
use Rattle.bisync_report.specs.declared.ends.End.TheVariants.{ListingsDiffer}

differ : (c : Compare) (a b x y : Option Entry) → a ≡ x → b ≡ y → same c x y ≡ false → same c a b ≡ true → ⊥
differ c a b x y e f h k = let wrong : true ≡ false = sym k ∙ (λ i. same c (e i) (f i)) ∙ h in cc

pub not_apart : (c : Compare) (entries : Entries) (p : PathBytes) (one two : Option Entry) → IsFirstApart c entries p one two → Agree c (entries One) (entries Two) → ⊥
not_apart c entries p one two f agree = differ c (entries One p) (entries Two p) one two f.one_is f.two_is f.differ (agree p)

pub places_same : (c : Compare) (entries : Entries) (p q : PathBytes) (a b x y : Option Entry) → IsFirstApart c entries p a b → IsFirstApart c entries q x y
    → ListingsDiffer p a b ≡ ListingsDiffer q x y
places_same c entries p q a b x y f g = go (order p q) refl
  where
    go : (o : Ordering) → order p q ≡ o → ListingsDiffer p a b ≡ ListingsDiffer q x y
    go Less e = absurd (differ c (entries One p) (entries Two p) a b f.one_is f.two_is f.differ (g.first p e))
    go Greater e = absurd (differ c (entries One q) (entries Two q) x y g.one_is g.two_is g.differ (f.first q (order_back p q e)))
    go Equal e =
        let is : p ≡ q = order_same p q e in
        let one : a ≡ x = sym f.one_is ∙ ap (entries One) is ∙ g.one_is in
        let two : b ≡ y = sym f.two_is ∙ ap (entries Two) is ∙ g.two_is in
        λ i. ListingsDiffer (is i) (one i) (two i)
