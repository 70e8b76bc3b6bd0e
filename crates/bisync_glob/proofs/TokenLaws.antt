-- The sorts of tokens, and what each says of the text.
use Rattle.std.proofs.Common.{◌≡◌, ◌⊎◌, inl, inr, ℕ, zero, suc, ◌+◌, ◌<◌, ◌≤◌, ◌==◌, ◌||◌, not, Bool, true, false, IsTrue, if◌then◌else◌, List, [], ◌∷◌, ◌++◌, length, take, drop, All, refl, sym, ◌∙◌, ap, subst, arith, length-append}
use Rattle.std.proofs.lemmas.List.Elements.{All-nil, All-head, All-tail, All-cons}
use Rattle.bisync_glob.specs.declared.classes.Item.{Item}
use Rattle.bisync_glob.specs.declared.parts.Simple.{Simple}
use Rattle.bisync_glob.specs.declared.parts.Simple.TheVariants.{Literal, AnyChar, Class, Star, Stars}
use Rattle.bisync_glob.specs.declared.tokens.Piece.{Piece}
use Rattle.bisync_glob.specs.declared.tokens.Piece.TheVariants.{Single, Escaped, Open, Comma, Close, Bad}
use Rattle.bisync_glob.specs.declared.faults.FaultKind.{FaultKind}
use Rattle.bisync_glob.specs.declared.faults.FaultKind.TheVariants.{Stars as TooManyStars, Class as BadClass, Brace, Backslash, Long, NotUtf8, Empty}
use Rattle.bisync_glob.specs.CharSet.{CharSet}
use Rattle.bisync_glob.specs.Spelling.{SpellsClass, NoClass, begins, is_escapable}
use Rattle.bisync_glob.specs.Tokens.{SpellsPiece, SpellsSimple, begins_escapable}
use Rattle.bisync_glob.specs.Reading.{ReadsItems}
use Rattle.bisync_glob.proofs.ClassLaws.{class_parts, items_same, no_item_93, take_at}

-- ONE CLASS

front_same : (f g b h : List ℕ) → f ++ b ≡ g ++ h → b ≡ h → f ≡ g
front_same f g b h e same =
    let lens : length f + length b ≡ length g + length h = sym (length-append f b) ∙ ap length e ∙ length-append g h in
    let size : length f ≡ length g = omega (arith, ap length same) in
    sym (take_at f b (length f) refl) ∙ ap (λ t. take (length f) t) e ∙ take_at g h (length f) (sym size)

set_same : (c d : CharSet) → c.negated ≡ d.negated → c.items ≡ d.items → c ≡ d
set_same c d p q =
    let set : Bool → List Item → CharSet = λ n i. record { negated = n; items = i } in
    ap (λ n. set n c.items) p ∙ ap (λ i. set d.negated i) q

tails : (b h : List ℕ) → 93 ∷ b ≡ 93 ∷ h → b ≡ h
tails b h e = cc

pub class_one : (c d : CharSet) (f b g h : List ℕ) → f ++ b ≡ g ++ h → SpellsClass c f → SpellsClass d g → (c ≡ d) × (f ≡ g) × (b ≡ h)
class_one c d f b g h e p q =
    let (begun, neg, some, reads) = class_parts c (f ++ b) f b refl p in
    let (begun', neg', some', reads') = class_parts d (f ++ b) g h e q in
    let negs : c.negated ≡ d.negated = neg ∙ sym neg' in
    let start : (if d.negated then 2 else 1) ≡ (if c.negated then 2 else 1) = ap (λ (x : Bool). if x then 2 else 1) (sym negs) in
    let P : ℕ → Type 0 = λ s. ReadsItems d.items (drop s (f ++ b)) (93 ∷ h) in
    let both : (c.items ≡ d.items) × (93 ∷ b ≡ 93 ∷ h) = items_same c.items d.items (drop (if c.negated then 2 else 1) (f ++ b)) (93 ∷ b) h reads (no_item_93 b) (subst P start reads') in
    let backs : b ≡ h = tails b h both.1 in
    (set_same c d negs both.0, front_same f g b h e backs, backs)

-- ONE RUN OF STARS

pub run_one : (f g b h : List ℕ) → All (λ c. c ≡ 42) f → All (λ c. c ≡ 42) g → begins 42 b ≡ false → begins 42 h ≡ false → f ++ b ≡ g ++ h → (f ≡ g) × (b ≡ h)
run_one [] [] b h p q nb nh e = (refl, e)
run_one [] (y ∷ g) b h p q nb nh e =
    let star : y ≡ 42 = All-head (λ c. c ≡ 42) y g q in
    absurd (let k : begins 42 (y ∷ (g ++ h)) ≡ false = rw e at nb in let l : begins 42 (42 ∷ (g ++ h)) ≡ false = rw star at k in let m : true ≡ false = l in cc)
run_one (x ∷ f) [] b h p q nb nh e =
    let star : x ≡ 42 = All-head (λ c. c ≡ 42) x f p in
    absurd (let k : begins 42 (x ∷ (f ++ b)) ≡ false = rw (← e) at nh in let l : begins 42 (42 ∷ (f ++ b)) ≡ false = rw star at k in let m : true ≡ false = l in cc)
run_one (x ∷ f) (y ∷ g) b h p q nb nh e =
    let first : x ≡ y = cc in
    let rest : f ++ b ≡ g ++ h = cc in
    let rec : (f ≡ g) × (b ≡ h) = run_one f g b h (All-tail (λ c. c ≡ 42) x f p) (All-tail (λ c. c ≡ 42) y g q) nb nh rest in
    ((let fg : f ≡ g = rec.0 in rw (first, fg) refl), rec.1)

-- THE SORTS OF TOKENS, by their first character

pub data Sort : Type 0 where
  other : Sort
  star : Sort
  bracket : Sort
  escape : Sort

abbrev pub pick : Bool → Bool → Bool → Sort
pick true b c = star
pick false true c = bracket
pick false false true = escape
pick false false false = other

abbrev pub sort_of : ℕ → Sort
sort_of c = pick (c == 42) (c == 91) (c == 92)

-- the token of a character of no other sort
abbrev pub choose : Bool → Bool → Bool → Bool → ℕ → Piece
choose true b c d x = Single AnyChar
choose false true c d x = Open
choose false false true d x = Comma
choose false false false true x = Close
choose false false false false x = Single (Literal x)

abbrev pub other_piece : ℕ → Piece
other_piece c = choose (c == 63) (c == 123) (c == 44) (c == 125) c

-- the token of a run of stars
abbrev pub star_piece : ℕ → Piece
star_piece zero = Bad TooManyStars
star_piece (suc zero) = Single Star
star_piece (suc (suc zero)) = Single Stars
star_piece (suc (suc (suc n))) = Bad TooManyStars

abbrev pub View : Sort → Piece → List ℕ → List ℕ → Type 0
View other piece front back = (c : ℕ) × (front ≡ c ∷ []) × (piece ≡ other_piece c)
View star piece front back = All (λ c. c ≡ 42) front × (begins 42 back ≡ false) × (piece ≡ star_piece (length front))
View bracket piece front back =
    ((class : CharSet) × SpellsClass class front × (piece ≡ Single (Class class)))
    ⊎ ((front ≡ 91 ∷ []) × NoClass (91 ∷ back) × (piece ≡ Bad BadClass))
View escape piece front back =
    ((c : ℕ) × (front ≡ 92 ∷ c ∷ []) × IsTrue (is_escapable c) × (piece ≡ Escaped c))
    ⊎ ((front ≡ 92 ∷ []) × (begins_escapable back ≡ false) × (piece ≡ Bad Backslash))

abbrev pub Viewed : Piece → List ℕ → List ℕ → Type 0
Viewed piece front back = (c : ℕ) × (rest : List ℕ) × (front ≡ c ∷ rest) × View (sort_of c) piece front back

plain_sort : (a b c d e f g : Bool) → not (a || b || c || d || e || f || g) ≡ true → pick a c d ≡ other
plain_sort true b c d e f g h = absurd (let q : false ≡ true = h in cc)
plain_sort false true c d e f g h = absurd (let q : false ≡ true = h in cc)
plain_sort false false true d e f g h = absurd (let q : false ≡ true = h in cc)
plain_sort false false false true e f g h = absurd (let q : false ≡ true = h in cc)
plain_sort false false false false e f g h = refl

plain_piece : (a b c d e f g : Bool) (x : ℕ) → not (a || b || c || d || e || f || g) ≡ true → choose b e f g x ≡ Single (Literal x)
plain_piece true b c d e f g x h = absurd (let q : false ≡ true = h in cc)
plain_piece false true c d e f g x h = absurd (let q : false ≡ true = h in cc)
plain_piece false false true d e f g x h = absurd (let q : false ≡ true = h in cc)
plain_piece false false false true e f g x h = absurd (let q : false ≡ true = h in cc)
plain_piece false false false false true f g x h = absurd (let q : false ≡ true = h in cc)
plain_piece false false false false false true g x h = absurd (let q : false ≡ true = h in cc)
plain_piece false false false false false false true x h = absurd (let q : false ≡ true = h in cc)
plain_piece false false false false false false false x h = refl

star_view : (piece : Piece) (front back : List ℕ) → All (λ c. c ≡ 42) front → 0 < length front → begins 42 back ≡ false → piece ≡ star_piece (length front) → Viewed piece front back
star_view piece [] back stars some none is = absurd (omega arith)
star_view piece (c ∷ rest) back stars some none is =
    let first : c ≡ 42 = All-head (λ c. c ≡ 42) c rest stars in
    (c, rest, refl, subst (λ s. View s piece (c ∷ rest) back) (sym (ap sort_of first)) (stars, none, is))

many_piece : (n : ℕ) → 3 ≤ n → star_piece n ≡ Bad TooManyStars
many_piece zero h = refl
many_piece (suc zero) h = absurd (omega arith)
many_piece (suc (suc zero)) h = absurd (omega arith)
many_piece (suc (suc (suc n))) h = refl

view_simple : (simple : Simple) (front back : List ℕ) → SpellsSimple simple front back → Viewed (Single simple) front back
view_simple (Literal c) front back (e, plain) = (
  c,
  [],
  e,
  subst (λ s. View s (Single (Literal c)) front back) (sym (plain_sort (c == 42) (c == 63) (c == 91) (c == 92) (c == 123) (c == 44) (c == 125) plain))
      (c, e, sym (plain_piece (c == 42) (c == 63) (c == 91) (c == 92) (c == 123) (c == 44) (c == 125) c plain)),
)
view_simple AnyChar front back e = (63, [], e, (63, e, refl))
view_simple (Class class) front back (mark, body, e, marked, unmarked, some, items) = (91, mark ++ body ++ 93 ∷ [], e, inl (class, (mark, body, e, marked, unmarked, some, items), refl))
view_simple Star front back (e, none) =
    rw e (star_view (Single Star) (42 ∷ []) back (All-cons (λ c. c ≡ 42) 42 [] refl (All-nil (λ c. c ≡ 42))) (omega arith) none refl)
view_simple Stars front back (e, none) =
    rw e (star_view (Single Stars) (42 ∷ 42 ∷ []) back (All-cons (λ c. c ≡ 42) 42 (42 ∷ []) refl (All-cons (λ c. c ≡ 42) 42 [] refl (All-nil (λ c. c ≡ 42)))) (omega arith) none refl)

view_bad : (kind : FaultKind) (front back : List ℕ) → SpellsPiece (Bad kind) front back → Viewed (Bad kind) front back
view_bad TooManyStars front back (stars, many, none) = star_view (Bad TooManyStars) front back stars (omega arith) none (sym (many_piece (length front) many))
view_bad BadClass front back (e, none) = (91, [], e, inr (e, none, refl))
view_bad Backslash front back (e, none) = (92, [], e, inr (e, none, refl))
view_bad Brace front back h = absurd h
view_bad Long front back h = absurd h
view_bad NotUtf8 front back h = absurd h
view_bad Empty front back h = absurd h

pub view_of : (piece : Piece) (front back : List ℕ) → SpellsPiece piece front back → Viewed piece front back
view_of (Single simple) front back h = view_simple simple front back h
view_of (Escaped c) front back (e, is) = (92, c ∷ [], e, inl (c, e, is, refl))
view_of Open front back e = (123, [], e, (123, e, refl))
view_of Comma front back e = (44, [], e, (44, e, refl))
view_of Close front back e = (125, [], e, (125, e, refl))
view_of (Bad kind) front back h = view_bad kind front back h
