-- The first rule that matches decides.
use Rattle.std.proofs.Common.{◌≡◌, ◌↔◌, ℕ, true, List, [], ◌∷◌, ◌++◌, sym, subst, inl, inr}
use Rattle.std.proofs.lemmas.List.Elements.{All-head, All-tail}
use Rattle.bisync_glob.specs.Matching.{Matches}
use Rattle.bisync_filter.specs.declared.rule_lists.Rule.{Rule}
use Rattle.bisync_filter.specs.Passing.{IsFirstMatch, NoneMatches, Passes}

abbrev Fails : List ℕ → Rule → Type 0
Fails text rule = Matches rule.pattern text → ⊥

pub none_matches : (rules : List Rule) (text : List ℕ) → NoneMatches rules text → Passes rules text
none_matches [] text h = tt
none_matches (rule ∷ rules) text h = inr (All-head (Fails text) rule rules h, none_matches rules text (All-tail (Fails text) rule rules h))

decides : (before : List Rule) (rule : Rule) (later : List Rule) (text : List ℕ) → NoneMatches before text → Matches rule.pattern text → Passes (before ++ rule ∷ later) text ↔ (rule.includes ≡ true)
decides [] rule later text none m = (to, λ h. inl (m, h))
  where
    to : Passes (rule ∷ later) text → rule.includes ≡ true
    to (inl (m', h)) = h
    to (inr (never, rest)) = absurd (never m)
decides (first ∷ before) rule later text none m =
    let ih = decides before rule later text (All-tail (Fails text) first before none) m in
    (λ p. ih.0 (to p), λ h. inr (All-head (Fails text) first before none, ih.1 h))
  where
    to : Passes (first ∷ before ++ rule ∷ later) text → Passes (before ++ rule ∷ later) text
    to (inl (m', h)) = absurd (All-head (Fails text) first before none m')
    to (inr (never, rest)) = rest

pub first_match : (rule : Rule) (rules : List Rule) (text : List ℕ) → IsFirstMatch rule rules text → Passes rules text ↔ (rule.includes ≡ true)
first_match rule rules text (before, later, e, none, m) =
    let both = decides before rule later text none m in
    (λ p. both.0 (subst (λ r. Passes r text) e p), λ h. subst (λ r. Passes r text) (sym e) (both.1 h))
