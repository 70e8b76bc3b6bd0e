-- A text spells one list of rules, or has one first bad line.
use Rattle.std.proofs.Common.{◌≡◌, ℕ, ◌+◌, ◌-◌, ◌≤◌, Bool, true, false, List, [], ◌∷◌, refl, sym, ◌∙◌, ap, subst, inl, inr, arith}
use Rattle.bisync_glob.specs.Matching.{Glob}
use Rattle.bisync_glob.specs.Refusals.{IsPatternText}
use Rattle.bisync_glob.proofs.OneAnswer.{only_pattern}
use Rattle.bisync_filter.specs.declared.rule_lists.Rule.{Rule}
use Rattle.bisync_filter.specs.declared.lines.Line.{Line}
use Rattle.bisync_filter.specs.declared.lines.Line.TheVariants.{Skipped, Clears, Adds}
use Rattle.bisync_filter.specs.declared.faults.RuleFault.{RuleFault}
use Rattle.bisync_filter.specs.declared.faults.RuleFault.TheVariants.{BadLine, OutOfMemory}
use Rattle.bisync_filter.specs.Trimming.{lines, stripped}
use Rattle.bisync_filter.specs.Spelling.{Says, SpellsRule, IsBadLine, size_of, rules_after, mark_of, is_skipped, LeadsTo, IsFirstBadLine, SpellsRules, IsFaultOf, AreOnlyRules, IsOnlyFaultOf, most_bytes}

mark_of-one : (a b : Bool) → mark_of a ≡ mark_of b → a ≡ b
mark_of-one true true e = refl
mark_of-one true false e = absurd (omega (arith, e))
mark_of-one false true e = absurd (omega (arith, e))
mark_of-one false false e = refl

one_rule : (a b : Rule) (line : List ℕ) → SpellsRule a line → SpellsRule b line → a ≡ b
one_rule a b line (s, e, p) (t, f, q) =
    let whole : mark_of a.includes ∷ 32 ∷ s ≡ mark_of b.includes ∷ 32 ∷ t = sym e ∙ f in
    let marks : mark_of a.includes ≡ mark_of b.includes = cc in
    let texts : s ≡ t = cc in
    let includes : a.includes ≡ b.includes = mark_of-one a.includes b.includes marks in
    let same : a.pattern ≡ b.pattern = (only_pattern b.pattern t q).0 a.pattern (subst (λ x. IsPatternText a.pattern x) texts p) in
    let make : Bool → Glob → Rule = λ i g. record { includes = i; pattern = g } in
    ap (λ i. make i a.pattern) includes ∙ ap (λ g. make b.includes g) same

not_skipped : (rule : Rule) (line : List ℕ) → SpellsRule rule line → is_skipped line ≡ true → ⊥
not_skipped rule line (s, e, p) h = step rule.includes (rw e at h)
  where
    step : (b : Bool) → is_skipped (mark_of b ∷ 32 ∷ s) ≡ true → ⊥
    step true h = cc
    step false h = cc

not_cleared : (rule : Rule) (line : List ℕ) → SpellsRule rule line → line ≡ 33 ∷ [] → ⊥
not_cleared rule line (s, e, p) f = let g : mark_of rule.includes ∷ 32 ∷ s ≡ 33 ∷ [] = sym e ∙ f in cc

skipped_cleared : (line : List ℕ) → is_skipped line ≡ true → line ≡ 33 ∷ [] → ⊥
skipped_cleared line h e = let g : false ≡ true = rw e at h in cc

one_saying : (a b : Line) (line : List ℕ) → Says a line → Says b line → a ≡ b
one_saying Skipped Skipped line h k = refl
one_saying Skipped Clears line h k = absurd (skipped_cleared line h k)
one_saying Skipped (Adds rule) line h k = absurd (not_skipped rule line k h)
one_saying Clears Skipped line h k = absurd (skipped_cleared line k h)
one_saying Clears Clears line h k = refl
one_saying Clears (Adds rule) line h k = absurd (not_cleared rule line k h)
one_saying (Adds rule) Skipped line h k = absurd (not_skipped rule line h k)
one_saying (Adds rule) Clears line h k = absurd (not_cleared rule line h k)
one_saying (Adds a) (Adds b) line h k = ap Adds (one_rule a b line h k)

one_end : (left : ℕ) (before : List Rule) (ls : List (List ℕ)) (a b : List Rule) → LeadsTo left before ls a → LeadsTo left before ls b → a ≡ b
one_end left before [] a b h k = h ∙ sym k
one_end left before (line ∷ more) a b (s, fits, says, rest) (t, fits', says', rest') =
    let same : t ≡ s = one_saying t s (stripped line) says' says in
    let moved : LeadsTo (left - size_of line more) (rules_after s before) more b = subst (λ x. LeadsTo (left - size_of line more) (rules_after x before) more b) same rest' in
    one_end (left - size_of line more) (rules_after s before) more a b rest moved

not_bad : (left : ℕ) (line : List ℕ) (more : List (List ℕ)) (said : Line) → size_of line more ≤ left → Says said (stripped line) → IsBadLine left line more → ⊥
not_bad left line more said fits says (inl long) = omega (arith, long, fits)
not_bad left line more said fits says (inr never) = never said says

no_bad_line : (left : ℕ) (before : List Rule) (ls : List (List ℕ)) (after : List Rule) (n : ℕ) → LeadsTo left before ls after → IsFirstBadLine n left ls → ⊥
no_bad_line left before [] after n h k = k
no_bad_line left before (line ∷ more) after n (s, fits, says, rest) (inl (e, bad)) = not_bad left line more s fits says bad
no_bad_line left before (line ∷ more) after n (s, fits, says, rest) (inr (later, t, e, fits', says', bad)) = no_bad_line (left - size_of line more) (rules_after s before) more after later rest bad

one_bad_line : (left : ℕ) (ls : List (List ℕ)) (n m : ℕ) → IsFirstBadLine n left ls → IsFirstBadLine m left ls → m ≡ n
one_bad_line left [] n m h k = absurd h
one_bad_line left (line ∷ more) n m (inl (e, bad)) (inl (f, bad')) = f ∙ sym e
one_bad_line left (line ∷ more) n m (inl (e, bad)) (inr (later, t, f, fits, says, rest)) = absurd (not_bad left line more t fits says bad)
one_bad_line left (line ∷ more) n m (inr (later, t, f, fits, says, rest)) (inl (e, bad)) = absurd (not_bad left line more t fits says bad)
one_bad_line left (line ∷ more) n m (inr (later, t, f, fits, says, rest)) (inr (later', t', f', fits', says', rest')) =
    f' ∙ ap (λ k. 1 + k) (one_bad_line (left - size_of line more) more later later' rest rest') ∙ sym f

pub only_rules : (rules : List Rule) (text : List ℕ) → SpellsRules rules text → AreOnlyRules rules text
only_rules rules text h = (λ other k. one_end most_bytes [] (lines text) other rules k h, λ n bad. no_bad_line most_bytes [] (lines text) rules n h bad)

pub only_fault : (fault : RuleFault) (text : List ℕ) → IsFaultOf fault text → IsOnlyFaultOf fault text
only_fault (BadLine n) text h = (λ rules k. no_bad_line most_bytes [] (lines text) rules n k h, λ other k. one_bad_line most_bytes (lines text) n other h k)
only_fault OutOfMemory text h = tt
