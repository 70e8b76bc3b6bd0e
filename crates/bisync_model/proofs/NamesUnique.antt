-- The given names are determined: each is the first candidate that is free.
use Rattle.std.proofs.Common.{◌≡◌, ◌⊎◌, inl, inr, ◌<◌, ◌≤◌, false, List, [], ◌∷◌, refl, sym, ◌∙◌, ap, subst, arith}
use Rattle.std.proofs.lemmas.Bool.{cases_lt}
use Rattle.bisync_tree.specs.Rows.{PathBytes}
use Rattle.bisync_tree.specs.declared.steps.Given.{Given}
use Rattle.bisync_tree.specs.declared.sides.Side.{Side}
use Rattle.bisync_model.specs.Known.{Known}
use Rattle.bisync_model.specs.Names.{candidate, is_held, IsFirstFree, AreGiven}

-- a free candidate isn't before the first one
not_before : (known : Known) (taken : List PathBytes) (side : Side) (p n m : PathBytes) (a : IsFirstFree known taken side p n) (b : IsFirstFree known taken side p m) → b.place ≤ a.place
not_before known taken side p n m a b = go (cases_lt a.place b.place)
  where
    go : (a.place < b.place) ⊎ (b.place ≤ a.place) → b.place ≤ a.place
    go (inr l) = l
    go (inl l) =
        let held = b.first a.place l in
        let free : is_held known taken (candidate known.policy side p a.place) ≡ false = ap (λ x. is_held known taken x) (sym a.is) ∙ a.free in
        cc

-- a loser has one first free candidate
pub first_unique : (known : Known) (taken : List PathBytes) (side : Side) (p n m : PathBytes) → IsFirstFree known taken side p n → IsFirstFree known taken side p m → n ≡ m
first_unique known taken side p n m a b =
    let one = not_before known taken side p n m a b in
    let two = not_before known taken side p m n b a in
    let place : a.place ≡ b.place = omega arith in
    a.is ∙ ap (λ k. candidate known.policy side p k) place ∙ sym b.is

-- of the same loser
pub first_of_loser : (known : Known) (taken : List PathBytes) (l : PathBytes × Side) (g : Given) → g.path ≡ l.0 → g.side ≡ l.1 → IsFirstFree known taken g.side g.path g.name → IsFirstFree known taken l.1 l.0 g.name
first_of_loser known taken l g p s first =
    subst (λ s. IsFirstFree known taken s l.0 g.name) s (subst (λ p. IsFirstFree known taken g.side p g.name) p first)

pub names_unique : (known : Known) (taken : List PathBytes) (losers : List (PathBytes × Side)) (gs hs : List Given) → AreGiven known taken losers gs → AreGiven known taken losers hs → gs ≡ hs
names_unique known taken [] [] [] a b = refl
names_unique known taken [] (g ∷ gs) hs a b = absurd a
names_unique known taken [] [] (h ∷ hs) a b = absurd b
names_unique known taken (l ∷ ls) [] hs a b = absurd a
names_unique known taken (l ∷ ls) (g ∷ gs) [] a b = absurd b
names_unique known taken (l ∷ ls) (g ∷ gs) (h ∷ hs) a b =
    let name : g.name ≡ h.name
    = first_unique known taken l.1 l.0 g.name h.name (first_of_loser known taken l g a.0 a.1 a.2) (first_of_loser known taken l h b.0 b.1 b.2) in
    let rest : gs ≡ hs = names_unique known (g.name ∷ taken) ls gs hs a.4 (subst (λ n. AreGiven known (n ∷ taken) ls hs) (sym name) b.4) in
    λ i. record { path = (a.0 ∙ sym b.0) i; side = (a.1 ∙ sym b.1) i; name = name i } ∷ rest i
