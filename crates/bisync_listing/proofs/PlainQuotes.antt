-- A text in which each byte stands for itself.
use Rattle.std.proofs.Common.{◌≡◌, ◌∙◌, ℕ, List, [], ◌∷◌, ◌++◌, true, not, ap, refl, sym}
use Rattle.std.proofs.lemmas.Bool.{and_parts, not-true}
use Rattle.std.specs.List.{flat_map, list_all}
use Rattle.bisync_text.specs.Quote.{is_escaped, quoted, quoted_byte}
use Rattle.bisync_text.proofs.Quoting.{quoted_byte-plain}

all_plain : (bytes : List ℕ) → list_all (λ b. not (is_escaped b)) bytes ≡ true → flat_map quoted_byte bytes ≡ bytes
all_plain [] are = refl
all_plain (b ∷ bytes) are =
    let both = and_parts (not (is_escaped b)) (list_all (λ c. not (is_escaped c)) bytes) are in
    ap (λ (front : List ℕ). front ++ flat_map quoted_byte bytes) (quoted_byte-plain b (not-true (is_escaped b) both.0)) ∙ ap (λ (rest : List ℕ). b ∷ rest) (all_plain bytes both.1)

pub plain_quoted : (bytes : List ℕ) → list_all (λ b. not (is_escaped b)) bytes ≡ true → 34 ∷ (bytes ++ 34 ∷ []) ≡ quoted bytes
unfolding quoted
plain_quoted bytes are = ap (λ (text : List ℕ). 34 ∷ (text ++ 34 ∷ [])) (sym (all_plain bytes are))
