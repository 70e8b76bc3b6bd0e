-- A folder has one base, one new stamp and one first bad name.
use Rattle.std.proofs.Common.{◌≡◌, ◌⊎◌, ◌<◌, ◌^◌, ℕ, List, [], ◌∷◌, Option, Some, None, refl, sym, ◌∙◌, ap, subst, inl, inr, arith}
use Rattle.bisync_listing.specs.FirstBadLine.{IsFirstBadLine}
use Rattle.bisync_listing.proofs.BadLineLaws.{bad_lines_one}
use Rattle.bisync_device.specs.declared.works.WorkName.{WorkName}
use Rattle.bisync_device.specs.WorkFolder.{Held, WorkFolder, at}
use Rattle.bisync_work.specs.declared.bases.Pair.{Pair}
use Rattle.bisync_work.specs.declared.bases.Pair.TheVariants.{Current, Mixed, Old}
use Rattle.bisync_work.specs.Base.{Base, ArePair, HasBaseIn, HasNoBase, IsBase}
use Rattle.bisync_work.specs.Stamps.{HasStamp, LacksStamp, IsUsed, IsUnused, IsNewStamp}
use Rattle.bisync_work.specs.BadNames.{IsGood, IsBad, IsFirstBad, base_names}
use Rattle.bisync_work.specs.Moves.{KeepsBase, SameListings}
use Rattle.bisync_work.proofs.PairLaws.{one_listing, same_bytes}
use Rattle.bisync_work.proofs.MarkLaws.{bad_no_listing}

-- # The base

pair_one : (limit : ℕ) (one two : Held) (a b : Base) → limit < 2 ^ 64 → ArePair limit one two a → ArePair limit one two b → a ≡ b
pair_one limit one two a b small p q =
    let first = one_listing limit limit one a.header b.header a.one b.one small small p.first q.first in
    let second = one_listing limit limit two a.header b.header a.two b.two small small p.second q.second in
    λ i. record { header = first.0 i; one = first.1 i; two = second.1 i }

module _ (limit : ℕ) (f : WorkFolder) where
  pub pair_is_one : (p q : Pair) (a b : Base) → HasBaseIn limit f p a → HasBaseIn limit f q b → p ≡ q
  pair_is_one Current Current a b x y = refl
  pair_is_one Current Mixed a b x y = absurd (y.0 a x)
  pair_is_one Current Old a b x y = absurd (y.0 a x)
  pair_is_one Mixed Current a b x y = absurd (x.0 b y)
  pair_is_one Mixed Mixed a b x y = refl
  pair_is_one Mixed Old a b x y = absurd (y.1 a x.1)
  pair_is_one Old Current a b x y = absurd (x.0 b y)
  pair_is_one Old Mixed a b x y = absurd (x.1 b y.1)
  pair_is_one Old Old a b x y = refl

  same_in : (p : Pair) (a b : Base) → limit < 2 ^ 64 → HasBaseIn limit f p a → HasBaseIn limit f p b → a ≡ b
  same_in Current a b small x y = pair_one limit f.one f.two a b small x y
  same_in Mixed a b small x y = pair_one limit f.one_old f.two a b small x.1 y.1
  same_in Old a b small x y = pair_one limit f.one_old f.two_old a b small x.2 y.2

  none_in : (p : Pair) (b : Base) → HasNoBase limit f → HasBaseIn limit f p b → ⊥
  none_in Current b none x = none.0 b x
  none_in Mixed b none x = none.1 b x.1
  none_in Old b none x = none.2 b x.2

  pub base_is_one : limit < 2 ^ 64 → (a b : Option Base) → IsBase limit f a → IsBase limit f b → a ≡ b
  base_is_one small None None x y = refl
  base_is_one small None (Some b) x y = absurd (none_in y.0 b x y.1)
  base_is_one small (Some a) None x y = absurd (none_in x.0 a y x.1)
  base_is_one small (Some a) (Some b) x y =
      let same = pair_is_one x.0 y.0 a b x.1 y.1 in
      ap Some (same_in x.0 a b small x.1 (subst (λ (p : Pair). HasBaseIn limit f p b) (sym same) y.1))

  -- # The new stamp

  lacks : (n : ℕ) (held : Held) → LacksStamp limit held n → HasStamp limit held n → ⊥
  lacks n held without has = without has.0 has.1 has.2 has.3

  used_unused : (n : ℕ) → IsUnused limit f n → IsUsed limit f n → ⊥
  used_unused n u (inl a) = lacks n f.one u.one a
  used_unused n u (inr (inl a)) = lacks n f.two u.two a
  used_unused n u (inr (inr (inl a))) = lacks n f.one_old u.one_old a
  used_unused n u (inr (inr (inr a))) = lacks n f.two_old u.two_old a

  order : (m n : ℕ) → (m < n) ⊎ ((m ≡ n) ⊎ (n < m))
  order m n = grind arith

  pub stamp_is_one : (m n : ℕ) → IsNewStamp limit f m → IsNewStamp limit f n → m ≡ n
  stamp_is_one m n a b = elim (order m n) [
    | inl less ↦ absurd (used_unused m a.unused (b.least m a.low less))
    | inr o ↦ elim o [ inl same ↦ same | inr more ↦ absurd (used_unused n b.unused (a.least n b.low more)) ]
  ]

  -- # The first bad name

  no_bytes : (bytes : List ℕ) → None ≡ Some bytes → ⊥
  no_bytes bytes e = cc

  good_bad : (held : Held) (line : ℕ) → IsGood limit held → IsBad limit held line → ⊥
  good_bad held line (inl gone) bad = let b = subst (λ (h : Held). IsBad limit h line) gone bad in no_bytes b.bytes b.there
  good_bad held line (inr l) bad = bad_no_listing limit line held bad l.0 l.1 l.2

  bad_one : (held : Held) (m n : ℕ) → IsBad limit held m → IsBad limit held n → m ≡ n
  bad_one held m n a b =
      let same = same_bytes b.bytes a.bytes (sym b.there ∙ a.there) in
      bad_lines_one limit m n a.bytes a.first (subst (λ (t : List ℕ). IsFirstBadLine limit t n) same b.first)

  pub bad_is_one : (names : List WorkName) (a b : Option (WorkName × ℕ)) → IsFirstBad limit f names a → IsFirstBad limit f names b → a ≡ b
  bad_is_one [] a b x y = x ∙ sym y
  bad_is_one (n ∷ names) a b (inl x) (inl y) = x.1 ∙ ap (λ (line : ℕ). Some (n, line)) (bad_one (at f n) x.0 y.0 x.2 y.2) ∙ sym y.1
  bad_is_one (n ∷ names) a b (inl x) (inr y) = absurd (good_bad (at f n) x.0 y.0 x.2)
  bad_is_one (n ∷ names) a b (inr x) (inl y) = absurd (good_bad (at f n) y.0 x.0 y.2)
  bad_is_one (n ∷ names) a b (inr x) (inr y) = bad_is_one names a b x.1 y.1

-- # The same listings

-- the folder with the listings of another
with_listings : WorkFolder → WorkFolder → WorkFolder
with_listings f g = record g { one = f.one; two = f.two; one_old = f.one_old; two_old = f.two_old }

same_whole : (f g : WorkFolder) → SameListings f g → with_listings f g ≡ g
unfolding with_listings
same_whole f g s = λ i. record g { one = sym s.one i; two = sym s.two i; one_old = sym s.one_old i; two_old = sym s.two_old i }

pub same_in_pair : (limit : ℕ) (f g : WorkFolder) → SameListings f g → (pair : Pair) (base : Base) → HasBaseIn limit f pair base → HasBaseIn limit g pair base
unfolding with_listings
same_in_pair limit f g s Current base x = subst (λ (h : WorkFolder). HasBaseIn limit h Current base) (same_whole f g s) x
same_in_pair limit f g s Mixed base x = subst (λ (h : WorkFolder). HasBaseIn limit h Mixed base) (same_whole f g s) x
same_in_pair limit f g s Old base x = subst (λ (h : WorkFolder). HasBaseIn limit h Old base) (same_whole f g s) x

same_base : (limit : ℕ) (f g : WorkFolder) → SameListings f g → (o : Option Base) → IsBase limit f o → IsBase limit g o
unfolding with_listings
same_base limit f g s None x = subst (HasNoBase limit) (same_whole f g s) x
same_base limit f g s (Some base) x = (x.0, same_in_pair limit f g s x.0 base x.1)

same_unused : (limit : ℕ) (f g : WorkFolder) → SameListings f g → (n : ℕ) → IsUnused limit f n → IsUnused limit g n
unfolding with_listings
same_unused limit f g s n u = subst (λ (h : WorkFolder). IsUnused limit h n) (same_whole f g s) (record { one = u.one; two = u.two; one_old = u.one_old; two_old = u.two_old })

pub same_stamp : (limit : ℕ) (f g : WorkFolder) → SameListings f g → (n : ℕ) → IsNewStamp limit f n → IsNewStamp limit g n
unfolding with_listings
same_stamp limit f g s n u =
    let unused = u.unused in
    subst (λ (h : WorkFolder). IsNewStamp limit h n) (same_whole f g s)
    (record { low = u.low; unused = record { one = unused.one; two = unused.two; one_old = unused.one_old; two_old = unused.two_old }; least = u.least })

pub same_bad : (limit : ℕ) (f g : WorkFolder) → SameListings f g → (bad : Option (WorkName × ℕ)) → IsFirstBad limit f base_names bad → IsFirstBad limit g base_names bad
unfolding with_listings
same_bad limit f g s bad x = subst (λ (h : WorkFolder). IsFirstBad limit h base_names bad) (same_whole f g s) x

pub same_keeps : (limit : ℕ) (f g : WorkFolder) → SameListings f g → KeepsBase limit f g
same_keeps limit f g s = record { base = same_base limit f g s; unused = same_unused limit f g s }
