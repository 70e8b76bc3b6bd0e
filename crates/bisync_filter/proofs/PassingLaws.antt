-- The tests decide which paths pass.
use Rattle.std.proofs.Common.{◌≡◌, ◌⊎◌, ℕ, suc, add-one, ◌+◌, ◌<◌, ◌&&◌, ◌==◌, not, Bool, true, false, if◌then◌else◌, List, [], ◌∷◌, ◌++◌, length, get_or, drop, refl, sym, ◌∙◌, ap, subst, inl, inr}
use Rattle.std.proofs.Math.Seq.{drop-cons}
use Rattle.std.specs.Bool.{Decides}
use Rattle.std.proofs.lemmas.Bool.Decides.{Decides-like, Decides-eqb, Decides-or, Decides-and}
use Rattle.bisync_glob.specs.Matching.{Glob, Matches, MatchesWhole}
use Rattle.bisync_glob.specs.Deciding.{parts_match}
use Rattle.bisync_glob.proofs.Decisions.{Tells, parts_match-Decides}
use Rattle.bisync_filter.specs.declared.rule_lists.Rule.{Rule}
use Rattle.bisync_filter.specs.Passing.{Passes, after_some_slash, glob_matches, text_passes}

abbrev pub AfterSlash : (List ℕ → Type 0) → List ℕ → Type 0
AfterSlash Q text = (front : List ℕ) × (back : List ℕ) × (text ≡ front ++ 47 ∷ back) × Q back

after_some_slash-Decides : (q : List ℕ → Bool) (Q : List ℕ → Type 0) → Tells q Q → (text : List ℕ) → Decides (after_some_slash q text) (AfterSlash Q text)
after_some_slash-Decides q Q d [] = (λ h. absurd (cc), λ (front, back, e, b). absurd (no_slash front back e))
  where
    no_slash : (front back : List ℕ) → [] ≡ front ++ 47 ∷ back → ⊥
    no_slash [] back e = cc
    no_slash (a ∷ front) back e = cc
after_some_slash-Decides q Q d (c ∷ text) =
    Decides-like (after_some_slash q (c ∷ text)) there from
    (Decides-or (c == 47 && q text) (after_some_slash q text) (Decides-and (c == 47) (q text) (Decides-eqb c 47) (d text)) (after_some_slash-Decides q Q d text))
  where
    there : ((c ≡ 47) × Q text) ⊎ AfterSlash Q text → AfterSlash Q (c ∷ text)
    there (inl (e, b)) = ([], text, ap (λ x. x ∷ text) e, b)
    there (inr (front, back, e, b)) = (c ∷ front, back, ap (λ t. c ∷ t) e, b)

    step : (front back : List ℕ) → c ∷ text ≡ front ++ 47 ∷ back → Q back → ((c ≡ 47) × Q text) ⊎ AfterSlash Q text
    step [] back e b =
        let first : c ≡ 47 = cc in
        let rest : back ≡ text = cc in
        inl (first, subst Q rest b)
    step (a ∷ front) back e b = let rest : text ≡ front ++ 47 ∷ back = cc in inr (front, back, rest, b)

    from : AfterSlash Q (c ∷ text) → ((c ≡ 47) × Q text) ⊎ AfterSlash Q text
    from (front, back, e, b) = step front back e b

not-Decides : (b : Bool) → Decides (not b) (b ≡ false)
not-Decides true = (λ h. absurd (cc), λ h. absurd (cc))
not-Decides false = (λ h. refl, λ h. refl)

pub glob_matches-Decides : (glob : Glob) (text : List ℕ) → Decides (glob_matches glob text) (Matches glob text)
glob_matches-Decides glob text =
    let whole : Tells (parts_match glob.parts) (MatchesWhole glob.parts) = parts_match-Decides glob.parts in
    Decides-or (parts_match glob.parts text) (not glob.anchored && after_some_slash (parts_match glob.parts) text) (whole text)
    (Decides-and (not glob.anchored) (after_some_slash (parts_match glob.parts) text) (not-Decides glob.anchored) (after_some_slash-Decides (parts_match glob.parts) (MatchesWhole glob.parts) whole text))

first-Decides : (b : Bool) (M : Type 0) → Decides b M → (includes r : Bool) (R : Type 0) → Decides r R → Decides (if b then includes else r) ((M × (includes ≡ true)) ⊎ ((M → ⊥) × R))
first-Decides true M d includes r R e = (λ h. inl (d.0 refl, h), from)
  where
    from : (M × (includes ≡ true)) ⊎ ((M → ⊥) × R) → includes ≡ true
    from (inl (m, h)) = h
    from (inr (never, rest)) = absurd (never (d.0 refl))
first-Decides false M d includes r R e = (λ h. inr (λ m. not_false (d.1 m), e.0 h), from)
  where
    not_false : false ≡ true → ⊥
    not_false h = cc

    from : (M × (includes ≡ true)) ⊎ ((M → ⊥) × R) → r ≡ true
    from (inl (m, h)) = absurd (not_false (d.1 m))
    from (inr (never, rest)) = e.1 rest

pub text_passes-Decides : (rules : List Rule) (text : List ℕ) → Decides (text_passes rules text) (Passes rules text)
text_passes-Decides [] text = (λ h. tt, λ h. refl)
text_passes-Decides (rule ∷ rules) text =
    first-Decides (glob_matches rule.pattern text) (Matches rule.pattern text) (glob_matches-Decides rule.pattern text) rule.includes (text_passes rules text) (Passes rules text) (text_passes-Decides rules text)

pub glob_matches-true : (glob : Glob) (text : List ℕ) → Matches glob text → glob_matches glob text ≡ true
glob_matches-true glob text m = (glob_matches-Decides glob text).1 m

pub glob_matches-false : (glob : Glob) (text : List ℕ) → (Matches glob text → ⊥) → glob_matches glob text ≡ false
glob_matches-false glob text never = step (glob_matches glob text) (λ h. never ((glob_matches-Decides glob text).0 h))
  where
    step : (b : Bool) → (b ≡ true → ⊥) → b ≡ false
    step true h = absurd (h refl)
    step false h = refl

-- a test of the rules that are left, after one that does not match
pub passes_later : (rules later : List Rule) (rule : Rule) (text : List ℕ) → rules ≡ rule ∷ later → (Matches rule.pattern text → ⊥) → text_passes rules text ≡ text_passes later text
passes_later rules later rule text e never = rw e (rw (glob_matches-false rule.pattern text never) refl)

pub passes_now : (rules later : List Rule) (rule : Rule) (text : List ℕ) → rules ≡ rule ∷ later → Matches rule.pattern text → text_passes rules text ≡ rule.includes
passes_now rules later rule text e m = rw e (rw (glob_matches-true rule.pattern text m) refl)

opened : (rules : List Rule) (k : ℕ) (rule : Rule) → k < length rules → rule ≡ get_or rules k rule → drop k rules ≡ rule ∷ drop (k + 1) rules
opened rules k rule below is = drop-cons rules k rule below ∙ ap (λ r. r ∷ drop (suc k) rules) (sym is) ∙ ap (λ n. rule ∷ drop n rules) (sym (add-one k))

pub passes_rest : (rules : List Rule) (k : ℕ) (rule : Rule) (text : List ℕ) → k < length rules → rule ≡ get_or rules k rule → (Matches rule.pattern text → ⊥) → text_passes (drop k rules) text ≡ text_passes (drop (k + 1) rules) text
passes_rest rules k rule text below is never = passes_later (drop k rules) (drop (k + 1) rules) rule text (opened rules k rule below is) never

pub passes_here : (rules : List Rule) (k : ℕ) (rule : Rule) (text : List ℕ) → k < length rules → rule ≡ get_or rules k rule → Matches rule.pattern text → text_passes (drop k rules) text ≡ rule.includes
passes_here rules k rule text below is m = passes_now (drop k rules) (drop (k + 1) rules) rule text (opened rules k rule below is) m
