-- Why a text does not begin as it is wanted to.
use Rattle.std.proofs.Common.{◌≡◌, ◌≢◌, ℕ, List, ◌∷◌, ◌++◌, Option, Some, None, IfSome, IfNone, MatchOption, refl, sym, ap, ◌∙◌, Bor, Bool, true, false, not, Result, Ok, Err, OnOk, is_ok}
use Rattle.std.specs.Str.{bytes_eq}
use Rattle.std.proofs.lemmas.Slice.Eq.{bytes_eq-Decides}
use Rattle.bisync_listing.specs.Words.{Lacks}
use Rattle.bisync_listing.proofs.LineLaws.{append_cancel, cut_apart, lacks_none}

pub found_front : (text front : List ℕ) (r : Option (Bor (List ℕ))) → MatchOption r ((rest : List ℕ) → text ≢ front ++ rest) (λ x. text ≡ front ++ x.now) → IfSome r (λ x. text ≡ front ++ x.now)
found_front text front None h = tt
found_front text front (Some x) h = h

pub no_front : (text front : List ℕ) (r : Option (Bor (List ℕ))) → MatchOption r ((rest : List ℕ) → text ≢ front ++ rest) (λ x. text ≡ front ++ x.now) → IfNone r ((rest : List ℕ) → text ≡ front ++ rest → ⊥)
no_front text front None h = h
no_front text front (Some x) h = tt

-- a word that has no space after it
pub no_word : (front text rest word more : List ℕ) → text ≡ front ++ rest → Lacks 32 rest → text ≡ front ++ (word ++ 32 ∷ more) → ⊥
no_word front text rest word more parts none e = lacks_none 32 rest word more none (append_cancel front rest (word ++ 32 ∷ more) (sym parts ∙ e))

-- the word that a space ends
pub same_word : (front text word more other rest : List ℕ) → text ≡ front ++ (word ++ 32 ∷ more) → Lacks 32 word → Lacks 32 other → text ≡ front ++ (other ++ 32 ∷ rest) → (word ≡ other) × (more ≡ rest)
same_word front text word more other rest parts one two e = cut_apart 32 word other more rest one two (append_cancel front (word ++ 32 ∷ more) (other ++ 32 ∷ rest) (sym parts ∙ e))

pub some_none : {T : Type 0} (r : Option T) (x : T) → r ≡ None → r ≡ Some x → ⊥
some_none r x none some = let bad : None ≡ Some x = sym none ∙ some in cc

-- what a test of two texts has told
pub differs : (xs ys : List ℕ) (r : Bool) → r ≡ true → r ≡ not (bytes_eq xs ys) → xs ≡ ys → ⊥
differs xs ys r told is same = let equal : bytes_eq xs ys ≡ true = (bytes_eq-Decides xs ys).1 same in let bad : true ≡ false = sym told ∙ is ∙ ap not equal in absurd cc

pub agrees : (xs ys : List ℕ) (r : Bool) → r ≡ false → r ≡ not (bytes_eq xs ys) → xs ≡ ys
agrees xs ys r told is = (bytes_eq-Decides xs ys).0 (was_true (bytes_eq xs ys) (sym told ∙ is))
  where
    was_true : (b : Bool) → false ≡ not b → b ≡ true
    was_true true e = refl
    was_true false e = absurd cc

pub on_ok : {A E : Type 0} (r : Result A E) (P : Type 0) → is_ok r ≡ true → OnOk r P → P
on_ok (Ok x) P ok h = h
on_ok (Err x) P ok h = absurd cc
