-- Which paths pass rules: the first rule whose pattern matches decides, and a path that none matches passes.
-- A text is the list of its characters, and 47 is `/`.
use Rattle.std.specs.Prelude.{◌≡◌, ◌⊎◌, ◌==◌, ◌&&◌, ◌||◌, ⊤, ℕ, Bool, true, false, not, List, [], ◌∷◌, ◌++◌, All, chars, if◌then◌else◌}
use Rattle.bisync_glob.specs.Matching.{Glob, Matches}
use Rattle.bisync_glob.specs.Deciding.{parts_match}
use Rattle.bisync_filter.specs.declared.rule_lists.Rule.{Rule}

abbrev pub Passes : List Rule → List ℕ → Type 0
Passes [] text = ⊤
Passes (rule ∷ rules) text =
    (Matches rule.pattern text × (rule.includes ≡ true))
    ⊎ ((Matches rule.pattern text → ⊥) × Passes rules text)

-- no rule matches
abbrev pub NoneMatches : List Rule → List ℕ → Type 0
NoneMatches rules text = All (λ (rule : Rule). Matches rule.pattern text → ⊥) rules

-- the rule is the first that matches
abbrev pub IsFirstMatch : Rule → List Rule → List ℕ → Type 0
IsFirstMatch rule rules text = (before : List Rule) × (later : List Rule) × (rules ≡ before ++ rule ∷ later) × NoneMatches before text × Matches rule.pattern text

-- THE SAME AS TESTS

-- whether what follows some `/` passes a test
abbrev pub after_some_slash : (List ℕ → Bool) → List ℕ → Bool
after_some_slash q [] = false
after_some_slash q (c ∷ text) = (c == 47 && q text) || after_some_slash q text

abbrev pub glob_matches : Glob → List ℕ → Bool
glob_matches glob text = parts_match glob.parts text || (not glob.anchored && after_some_slash (parts_match glob.parts) text)

abbrev pub text_passes : List Rule → List ℕ → Bool
text_passes [] text = true
text_passes (rule ∷ rules) text = if glob_matches rule.pattern text then rule.includes else text_passes rules text

-- whether the path of these bytes passes
abbrev pub rules_pass : List Rule → List ℕ → Bool
rules_pass rules path = text_passes rules (chars path)
