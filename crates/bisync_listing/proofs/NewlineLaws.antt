-- The first newline, as it is searched for.
use Rattle.std.proofs.Common.{◌≡◌, ◌∙◌, ℕ, suc, ◌+◌, ◌<◌, List, [], ◌∷◌, ◌++◌, length, take, drop, get_or, ap, arith, subst, sym, Option, Some, None, IfSome, IfNone}
use Rattle.std.proofs.lemmas.Bool.{eqb-true}
use Rattle.std.proofs.lemmas.List.{drop_more, get_or-take, length-take-le, take-append-drop}
use Rattle.memchr.specs.Find.{is_byte, IsFirstByte}
use Rattle.bisync_listing.specs.Words.{Lacks}

lacks_all : (xs : List ℕ) → ((k : ℕ) → k < length xs → get_or xs k 0 ≡ 10 → ⊥) → Lacks 10 xs
lacks_all [] none = tt
lacks_all (x ∷ xs) none = (none 0 (omega arith), lacks_all xs (λ k under. none (suc k) (omega arith)))

cut_there : (xs : List ℕ) (n : ℕ) → n < length xs → xs ≡ take n xs ++ get_or xs n 0 ∷ drop (n + 1) xs
cut_there xs n under = sym (take-append-drop n xs) ∙ ap (λ (rest : List ℕ). take n xs ++ rest) (drop_more xs n 0 under)

pub found_newline : (bytes : List ℕ) (found : Option ℕ) → IsFirstByte (is_byte 10) bytes found
    → IfSome found (λ at. (at < length bytes) × Lacks 10 (take at bytes) × (bytes ≡ take at bytes ++ 10 ∷ drop (at + 1) bytes))
found_newline bytes None first = tt
found_newline bytes (Some n) first = (
  first.0.high,
  lacks_all (take n bytes)
      (λ k under same.
      let below : k < n = subst (λ (m : ℕ). k < m) (length-take-le n bytes (omega arith)) under in
      first.0.before k (omega arith) below (ap (is_byte 10) (sym (get_or-take n bytes k 0 below) ∙ same))),
  cut_there bytes n first.0.high ∙ ap (λ (b : ℕ). take n bytes ++ b ∷ drop (n + 1) bytes) (eqb-true (get_or bytes n 0) 10 first.1),
)

pub no_newline : (bytes : List ℕ) (found : Option ℕ) → IsFirstByte (is_byte 10) bytes found → IfNone found (Lacks 10 bytes)
no_newline bytes None first = lacks_all bytes (λ k under same. first k (omega arith) under (ap (is_byte 10) same))
no_newline bytes (Some n) first = tt
