-- A text has one last part.
use Rattle.std.proofs.Common.{◌≡◌, ◌≢◌, ℕ, inl, inr, List, [], ◌∷◌, ◌++◌, refl, sym, ◌∙◌}
use Rattle.std.specs.Prelude.{All}
use Rattle.std.proofs.lemmas.List.Elements.{All-head, All-tail, All-same}
use Rattle.bisync_text.specs.Path.{IsLastPart}

abbrev LacksSlash : List ℕ → Type 0
LacksSlash part = All (λ b. b ≢ 47) part

slash_inside : (before part : List ℕ) → LacksSlash (before ++ 47 ∷ part) → ⊥
slash_inside [] part clear = All-head (λ b. b ≢ 47) 47 part clear refl
slash_inside (x ∷ before) part clear = slash_inside before part (All-tail (λ b. b ≢ 47) x (before ++ 47 ∷ part) clear)

slash_in : (text before part : List ℕ) → text ≡ before ++ 47 ∷ part → LacksSlash text → ⊥
slash_in text before part e clear = slash_inside before part (All-same (λ b. b ≢ 47) (before ++ 47 ∷ part) text (sym e) clear)

same_after : (before part before' part' : List ℕ) → before ++ 47 ∷ part ≡ before' ++ 47 ∷ part' → LacksSlash part → LacksSlash part' → part ≡ part'
same_after [] part [] part' e clear clear' = cc
same_after [] part (x ∷ before') part' e clear clear' = let rest : part ≡ before' ++ 47 ∷ part' = cc in absurd (slash_in part before' part' rest clear)
same_after (x ∷ before) part [] part' e clear clear' = let rest : part' ≡ before ++ 47 ∷ part = cc in absurd (slash_in part' before part rest clear')
same_after (x ∷ before) part (y ∷ before') part' e clear clear' = let rest : before ++ 47 ∷ part ≡ before' ++ 47 ∷ part' = cc in same_after before part before' part' rest clear clear'

pub IsLastPart-unique : (text part part' : List ℕ) → IsLastPart text part → IsLastPart text part' → part ≡ part'
IsLastPart-unique text part part' h h' =
    elim h.ends [
      | inl e ↦ elim h'.ends [
        | inl e' ↦ sym e ∙ e'
        | inr cut' ↦ absurd (slash_in part cut'.0 part' (sym e ∙ cut'.1) h.no_slash)
      ]
      | inr cut ↦ elim h'.ends [
        | inl e' ↦ absurd (slash_in part' cut.0 part (sym e' ∙ cut.1) h'.no_slash)
        | inr cut' ↦ same_after cut.0 part cut'.0 part' (sym cut.1 ∙ cut'.1) h.no_slash h'.no_slash
      ]
    ]
