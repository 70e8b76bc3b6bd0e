-- What lies below a folder.
use Rattle.std.proofs.Common.{◌≡◌, ℕ, ◌+◌, ◌<◌, ◌≤◌, ◌==◌, Bool, true, false, ◌&&◌, ◌||◌, List, [], ◌∷◌, ◌++◌, length, take, drop, get_or, refl, sym, ap, ◌∙◌, ◌⊎◌, inl, inr, arith, length-append}
use Rattle.std.specs.Str.{bytes_eq}
use Rattle.std.specs.List.{starts_with}
use Rattle.std.proofs.lemmas.Bool.Decides.{Decides-eqb, nat_tests}
use Rattle.std.proofs.lemmas.Grind.{common_steps}
use Rattle.std.proofs.lemmas.Slice.Eq.{starts_is, bytes_eq-Decides}
use Rattle.bisync_device.specs.FolderSet.{is_below}

below_nothing : (q : List ℕ) → is_below q [] ≡ false
below_nothing [] = refl
below_nothing (c ∷ q) = refl

first_byte : (b : ℕ) → ((47 == b) && true) ≡ (false || ((b == 47) && true))
first_byte b = grind (arith, nat_tests)

keeps_first : (a b : Bool) → (a && true) ≡ ((a && true) || (b && false))
keeps_first true b = refl
keeps_first false true = refl
keeps_first false false = refl

too_short : (a b c : Bool) → c ≡ false → (a && c) ≡ (false || (b && false))
too_short a b true e = cc
too_short true true false e = refl
too_short true false false e = refl
too_short false true false e = refl
too_short false false false e = refl

next_byte : (a b x y z : Bool) → z ≡ (x || (b && y)) → (a && z) ≡ ((a && x) || (b && (a && y)))
next_byte true b x y z e = e
next_byte false true x y z e = refl
next_byte false false x y z e = refl

-- below which folders one byte more lies
pub below_more : (q xs : List ℕ) (b : ℕ) → is_below q (xs ++ b ∷ []) ≡ (is_below q xs || ((b == 47) && bytes_eq q xs))
below_more [] [] b = first_byte b
below_more [] (x ∷ xs) b = keeps_first (47 == x) (b == 47)
below_more (c ∷ q) [] b = too_short (c == b) (b == 47) (is_below q []) (below_nothing q)
below_more (c ∷ q) (x ∷ xs) b = next_byte (c == x) (b == 47) (is_below q xs) (bytes_eq q xs) (is_below q (xs ++ b ∷ [])) (below_more q xs b)

longer : (p q : List ℕ) → is_below p q ≡ true → length p < length q
longer p q h =
    let e = (starts_is {E = λ (a b : ℕ). a == b} Decides-eqb q (p ++ 47 ∷ []) (is_below p q) refl).0 h in
    omega (arith, ap length e, length-append (p ++ 47 ∷ []) (drop (length (p ++ 47 ∷ [])) q), length-append p (47 ∷ []))

-- what is above a path is neither the path nor below it
pub above_is_apart : (p q : List ℕ) → is_below q p ≡ true → (bytes_eq q p || is_below p q) ≡ false
above_is_apart p q h = by (bytes_eq q p) (is_below p q) refl refl
  where
    by : (a b : Bool) → bytes_eq q p ≡ a → is_below p q ≡ b → (a || b) ≡ false
    by true b e f = absurd (omega (arith, longer q p h, ap length ((bytes_eq-Decides q p).0 e)))
    by false true e f = absurd (omega (arith, longer q p h, longer p q f))
    by false false e f = refl

-- nothing as short as a folder lies below it
pub short_is_apart : (p q : List ℕ) → length q ≤ length p → is_below p q ≡ false
short_is_apart p q h = by (is_below p q) refl
  where
    by : (b : Bool) → is_below p q ≡ b → b ≡ false
    by true e = absurd (omega (arith, longer p q e))
    by false e = refl

wrong_byte : (y : ℕ) → (y ≡ 47 → ⊥) → ((47 == y) && true) ≡ false
wrong_byte y h = by (47 == y) refl
  where
    by : (b : Bool) → (47 == y) ≡ b → (b && true) ≡ false
    by true e = absurd (h (sym ((Decides-eqb 47 y).0 e)))
    by false e = refl

right_byte : (y : ℕ) → y ≡ 47 → true ≡ ((47 == y) && true)
right_byte y h = ap (λ z. (47 == z) && true) (sym h)

both_false : (a b : Bool) → b ≡ false → (a && b) ≡ false
both_false true b e = e
both_false false b e = refl

-- nothing with another byte than a slash after a folder's name lies below it
pub no_slash_is_apart : (p q : List ℕ) → (get_or q (length p) 0 ≡ 47 → ⊥) → is_below p q ≡ false
no_slash_is_apart p [] h = below_nothing p
no_slash_is_apart [] (y ∷ q) h = wrong_byte y h
no_slash_is_apart (x ∷ p) (y ∷ q) h = both_false (x == y) (is_below p q) (no_slash_is_apart p q h)

-- what begins with a folder's name and a slash lies below it
pub slash_is_below : (p q : List ℕ) → length p < length q → get_or q (length p) 0 ≡ 47 → starts_with (λ (a b : ℕ). a == b) q p ≡ is_below p q
slash_is_below p [] lt h = absurd (omega arith)
slash_is_below [] (y ∷ q) lt h = right_byte y h
slash_is_below (x ∷ p) (y ∷ q) lt h = ap (λ b. (x == y) && b) (slash_is_below p q (omega arith) h)

seen_more : (q text : List ℕ) (i : ℕ) → i < length text → is_below q (take (i + 1) text) ≡ (is_below q (take i text) || ((get_or text i 0 == 47) && bytes_eq q (take i text)))
seen_more q text i lt = let e : take (i + 1) text ≡ take i text ++ get_or text i 0 ∷ [] = grind (arith, common_steps) in ap (is_below q) e ∙ below_more q (take i text) (get_or text i 0)

no_more : (a t e : Bool) → t ≡ false → (a || (t && e)) ≡ a
no_more true t e h = refl
no_more false t e h = ap (λ b. b && e) h

not_slash : (y : ℕ) → (y ≡ 47 → ⊥) → (y == 47) ≡ false
not_slash y h = by (y == 47) refl
  where
    by : (b : Bool) → (y == 47) ≡ b → b ≡ false
    by true e = absurd (h ((Decides-eqb y 47).0 e))
    by false e = refl

-- a byte that is no slash ends no folder
pub seen_byte : (q text : List ℕ) (i : ℕ) → i < length text → (get_or text i 0 ≡ 47 → ⊥) → is_below q (take (i + 1) text) ≡ is_below q (take i text)
seen_byte q text i lt h = seen_more q text i lt ∙ no_more (is_below q (take i text)) (get_or text i 0 == 47) (bytes_eq q (take i text)) (not_slash (get_or text i 0) h)

-- a slash ends one folder
pub seen_slash : (q text : List ℕ) (i : ℕ) → i < length text → get_or text i 0 ≡ 47 → is_below q (take (i + 1) text) ≡ (is_below q (take i text) || bytes_eq q (take i text))
seen_slash q text i lt h = seen_more q text i lt ∙ ap (λ y. is_below q (take i text) || ((y == 47) && bytes_eq q (take i text))) h

either : (a b : Bool) → (a || b) ≡ true → (a ≡ true) ⊎ (b ≡ true)
either true b h = inl refl
either false b h = inr h

-- each folder above the part that was seen is among those that were looked up
pub seen_all : (has : List ℕ → Bool) (text : List ℕ) (i : ℕ) → i < length text → get_or text i 0 ≡ 47 → has (take i text) ≡ true
    → ((q : List ℕ) → is_below q (take i text) ≡ true → has q ≡ true) → (q : List ℕ) → is_below q (take (i + 1) text) ≡ true → has q ≡ true
seen_all has text i lt is here before q h =
    elim (either (is_below q (take i text)) (bytes_eq q (take i text)) (sym (seen_slash q text i lt is) ∙ h)) [
      | inl b ↦ before q b
      | inr e ↦ ap has ((bytes_eq-Decides q (take i text)).0 e) ∙ here
    ]
