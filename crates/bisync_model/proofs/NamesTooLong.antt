-- Where the name of some loser is too long, there is no list of names, and no other loser is refused.
use Rattle.std.proofs.Common.{◌≡◌, ◌⊎◌, inl, inr, ◌<◌, ◌≤◌, List, [], ◌∷◌, ◌++◌, length, sym, ◌∙◌, ap, subst, arith}
use Rattle.bisync_tree.specs.Rows.{PathBytes}
use Rattle.bisync_tree.specs.declared.steps.Given.{Given}
use Rattle.bisync_tree.specs.declared.sides.Side.{Side}
use Rattle.bisync_model.specs.Known.{Known}
use Rattle.bisync_model.specs.Names.{IsFirstFree, losers_of, AreGiven, AreNames, names_after, AreNotNames}
use Rattle.bisync_model.proofs.NamesUnique.{first_unique, first_of_loser, names_unique}

clash : (known : Known) (taken : List PathBytes) (before later : List (PathBytes × Side)) (side : Side) (p name : PathBytes) (made names : List Given)
    → AreGiven known taken before made → IsFirstFree known (names_after taken made) side p name → 4096 < length name
    → AreGiven known taken (before ++ (p, side) ∷ later) names → ⊥
clash known taken [] later side p name [] [] a first long b = b
clash known taken [] later side p name [] (g ∷ gs) a first long b =
    let same : g.name ≡ name = first_unique known taken side p g.name name (first_of_loser known taken (p, side) g b.0 b.1 b.2) first in
    let short : length name ≤ 4096 = subst (λ n. length n ≤ 4096) same b.3 in
    omega arith
clash known taken [] later side p name (k ∷ ks) names a first long b = a
clash known taken (l ∷ ls) later side p name [] names a first long b = a
clash known taken (l ∷ ls) later side p name (k ∷ ks) [] a first long b = b
clash known taken (l ∷ ls) later side p name (k ∷ ks) (g ∷ gs) a first long b =
    let one : k ∷ [] ≡ g ∷ [] = names_unique known taken (l ∷ []) (k ∷ []) (g ∷ []) (a.0, a.1, a.2, a.3, tt) (b.0, b.1, b.2, b.3, tt) in
    let same : k ≡ g = head_is k g one in
    clash known (k.name ∷ taken) ls later side p name ks gs a.4 first long (subst (λ h. AreGiven known (h.name ∷ taken) (ls ++ (p, side) ∷ later) gs) (sym same) b.4)
  where
    head_is : (k g : Given) → k ∷ [] ≡ g ∷ [] → k ≡ g
    head_is k g e = ap first_or e
      where
        first_or : List Given → Given
        first_or [] = k
        first_or (x ∷ xs) = x

pub no_names : (known : Known) (paths : List PathBytes) (side : Side) (p : PathBytes) → AreNotNames known paths side p → (names : List Given) → AreNames known paths names → ⊥
no_names known paths side p h names are =
    clash known [] h.before h.later side p h.name h.names names h.given h.first h.long (subst (λ ls. AreGiven known [] ls names) h.losers are)

abbrev Losers : Type 0
Losers = List (PathBytes × Side)

head_is : (x y : PathBytes × Side) (xs ys : Losers) → x ∷ xs ≡ y ∷ ys → x ≡ y
head_is x y xs ys e = ap first_or e
  where
    first_or : Losers → PathBytes × Side
    first_or [] = x
    first_or (z ∷ zs) = z

tail_is : (x y : PathBytes × Side) (xs ys : Losers) → x ∷ xs ≡ y ∷ ys → xs ≡ ys
tail_is x y xs ys e = ap rest_of e
  where
    rest_of : Losers → Losers
    rest_of [] = []
    rest_of (z ∷ zs) = zs

-- of two places in a list, one is before the other, or they are the same
place_of : (x y : PathBytes × Side) (xs later ys more : Losers) → xs ++ x ∷ later ≡ ys ++ y ∷ more
    → (x ≡ y) ⊎ ((between : Losers) × (ys ≡ xs ++ x ∷ between)) ⊎ ((between : Losers) × (xs ≡ ys ++ y ∷ between))
place_of x y [] later [] more e = inl (head_is x y later more e)
place_of x y [] later (k ∷ ks) more e = inr (inl (ks, ap (λ z. z ∷ ks) (sym (head_is x k later (ks ++ y ∷ more) e))))
place_of x y (k ∷ ks) later [] more e = inr (inr (ks, ap (λ z. z ∷ ks) (head_is k y (ks ++ x ∷ later) more e)))
place_of x y (k ∷ ks) later (m ∷ ms) more e = go (place_of x y ks later ms more (tail_is k m (ks ++ x ∷ later) (ms ++ y ∷ more) e))
  where
    same : k ≡ m
    same = head_is k m (ks ++ x ∷ later) (ms ++ y ∷ more) e

    go : (x ≡ y) ⊎ ((between : Losers) × (ms ≡ ks ++ x ∷ between)) ⊎ ((between : Losers) × (ks ≡ ms ++ y ∷ between))
        → (x ≡ y) ⊎ ((between : Losers) × (m ∷ ms ≡ k ∷ (ks ++ x ∷ between))) ⊎ ((between : Losers) × (k ∷ ks ≡ m ∷ (ms ++ y ∷ between)))
    go (inl is) = inl is
    go (inr (inl (between, is))) = inr (inl (between, λ i. sym same i ∷ is i))
    go (inr (inr (between, is))) = inr (inr (between, λ i. same i ∷ is i))

-- the loser that is refused is the first whose name is too long
pub one_refused : (known : Known) (paths others : List PathBytes) (side t : Side) (p q : PathBytes) → losers_of known paths ≡ losers_of known others
    → AreNotNames known paths side p → AreNotNames known others t q → (p ≡ q) × (side ≡ t)
one_refused known paths others side t p q same a b =
    go (place_of (p, side) (q, t) a.before a.later b.before b.later (sym a.losers ∙ same ∙ b.losers))
  where
    go : ◌≡◌ {A = PathBytes × Side} (p, side) (q, t) ⊎ ((between : Losers) × (b.before ≡ a.before ++ (p, side) ∷ between)) ⊎ ((between : Losers) × (a.before ≡ b.before ++ (q, t) ∷ between))
        → (p ≡ q) × (side ≡ t)
    go (inl is) = (ap (λ l. l.0) is, ap (λ l. l.1) is)
    go (inr (inl (between, is))) =
        absurd (clash known [] a.before between side p a.name a.names b.names a.given a.first a.long (subst (λ ls. AreGiven known [] ls b.names) is b.given))
    go (inr (inr (between, is))) =
        absurd (clash known [] b.before between t q b.name b.names a.names b.given b.first b.long (subst (λ ls. AreGiven known [] ls a.names) is a.given))
