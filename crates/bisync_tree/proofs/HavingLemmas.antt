-- Which of the four listings have the least path, from the lesser paths of two pairs.
use Rattle.std.proofs.Common.{◌≡◌, ◌⊎◌, Bool, true, false, [], ◌∷◌, Option, Some, None, refl, sym, ◌∙◌, ap, subst, inl, inr}
use Rattle.std.specs.Prelude.{bytes_eq}
use Rattle.std.specs.declared.cmp.Ordering.TheVariants.{Less}
use Rattle.bisync_tree.specs.Rows.{PathBytes, Rows}
use Rattle.bisync_tree.specs.declared.walks.Least.{Least}
use Rattle.bisync_tree.specs.Walk.{first_key, lesser_key, entry_at_head, rest_after, is_key, entry_where, rest_where, IsLeast, least_path, haves}
use Rattle.bisync_tree.proofs.PathOrder.{order, same_path, other_path', below_trans, below_differs'}
use Rattle.bisync_tree.proofs.WalkLemmas.{NotBelow, lesser_least}

-- a pair's lesser path is the lesser key
pub least_path_is : (a b : Option PathBytes) (pair : Option Least) → IsLeast a b pair → least_path pair ≡ lesser_key a b
least_path_is a b None h = sym (λ i. lesser_key (h.0 i) (h.1 i))
least_path_is a b (Some least) h = sym h.0

-- a path below all others of a pair is neither of the two
not_key : (p q : PathBytes) (a : Option PathBytes) → order p q ≡ Less → NotBelow q a → is_key a p ≡ false
not_key p q None below h = refl
not_key p q (Some r) below h = go (not_below_trans' p q r below h)
  where
    not_below_trans' : (p q r : PathBytes) → order p q ≡ Less → (order q r ≡ Less) ⊎ (q ≡ r) → order p r ≡ Less
    not_below_trans' p q r below (inl h) = below_trans p q r below h
    not_below_trans' p q r below (inr h) = subst (λ x. order p x ≡ Less) h below

    go : order p r ≡ Less → bytes_eq r p ≡ false
    go h = below_differs' p r h

pub haves_are : (a b : Option PathBytes) (pair : Option Least) (p : PathBytes) (is_least : Bool)
    → IsLeast a b pair → NotBelow p (least_path pair) → is_least ≡ is_key (least_path pair) p
    → ((haves pair is_least).0 ≡ is_key a p) × ((haves pair is_least).1 ≡ is_key b p)
haves_are a b None p is_least h above is = (sym (ap (λ x. is_key x p) h.0), sym (ap (λ x. is_key x p) h.1))
haves_are a b (Some least) p true h above is =
    let same : least.path.now ≡ p = same_path least.path.now p (sym is) in
    (h.1 ∙ ap (is_key a) same, h.2 ∙ ap (is_key b) same)
haves_are a b (Some least) p false h above is = go above
  where
    all : NotBelow least.path.now a × NotBelow least.path.now b × ((a ≡ Some least.path.now) ⊎ (b ≡ Some least.path.now))
    all = lesser_least a b least.path.now h.0

    go : (order p least.path.now ≡ Less) ⊎ (p ≡ least.path.now) → (false ≡ is_key a p) × (false ≡ is_key b p)
    go (inl below) = (sym (not_key p least.path.now a below all.0), sym (not_key p least.path.now b below all.1))
    go (inr same) = absurd (other_path' least.path.now p (sym is) (sym same))

-- the path and the four tests, from the lesser paths of the two pairs
abbrev pub AreTests : Option PathBytes → Option PathBytes → PathBytes → Bool × Bool → Type 0
AreTests a b p tests = (tests.0 ≡ is_key a p) × (tests.1 ≡ is_key b p)

pub least_of_all : (a b c d x y : Option PathBytes) (bases nows : Option Least) (least : Least)
    → IsLeast a b bases → IsLeast c d nows → x ≡ least_path bases → y ≡ least_path nows → IsLeast x y (Some least)
    → (lesser_key (lesser_key a b) (lesser_key c d) ≡ Some least.path.now)
    × AreTests a b least.path.now (haves bases least.is_first) × AreTests c d least.path.now (haves nows least.is_second)
least_of_all a b c d x y bases nows least h k x_is y_is is =
    let p = least.path.now in
    let all = lesser_least (least_path bases) (least_path nows) p (sym (λ i. lesser_key (x_is i) (y_is i)) ∙ is.0) in (
      sym (λ i. lesser_key ((x_is ∙ least_path_is a b bases h) i) ((y_is ∙ least_path_is c d nows k) i)) ∙ is.0,
      haves_are a b bases p least.is_first h all.0 (is.1 ∙ ap (λ z. is_key z p) x_is),
      haves_are c d nows p least.is_second k all.1 (is.2 ∙ ap (λ z. is_key z p) y_is),
    )

pub entry_taken : (rows : Rows) (a : Option PathBytes) (p : PathBytes) (taken : Bool) → a ≡ first_key rows → taken ≡ is_key a p → entry_where taken rows ≡ entry_at_head rows p
entry_taken rows a p taken head is = ap (λ t. entry_where t rows) (is ∙ ap (λ z. is_key z p) head) ∙ go rows
  where
    go : (rows : Rows) → entry_where (is_key (first_key rows) p) rows ≡ entry_at_head rows p
    go [] = refl
    go (r ∷ rs) = refl

pub rest_taken : (rows : Rows) (a : Option PathBytes) (p : PathBytes) (taken : Bool) → a ≡ first_key rows → taken ≡ is_key a p → rest_where taken rows ≡ rest_after rows p
rest_taken rows a p taken head is = ap (λ t. rest_where t rows) (is ∙ ap (λ z. is_key z p) head) ∙ go rows
  where
    go : (rows : Rows) → rest_where (is_key (first_key rows) p) rows ≡ rest_after rows p
    go [] = refl
    go (r ∷ rs) = refl
