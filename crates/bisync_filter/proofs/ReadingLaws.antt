-- The steps of the reader: where a line ends, what it says, and what it leads to.
use Rattle.std.proofs.Common.{◌≡◌, ◌≢◌, ℕ, ◌==◌, ◌+◌, ◌-◌, ◌≤◌, ◌<◌, Bool, true, false, List, [], ◌∷◌, length, get_or, take, drop, refl, sym, ◌∙◌, ap, subst, inr, arith}
use Rattle.std.specs.List.{position_or_len}
use Rattle.std.proofs.lemmas.List.Sums.{position_or_len_is, fails_before_first}
use Rattle.std.proofs.lemmas.List.Splits.{slice_split_none, slice_split_first, length-slice_split}
use Rattle.std.proofs.lemmas.Bool.Decides.{nat_tests}
use Rattle.std.proofs.lemmas.Grind.{common_steps}
use Rattle.bisync_glob.specs.Matching.{Glob}
use Rattle.bisync_glob.specs.Refusals.{IsPatternText}
use Rattle.bisync_filter.specs.declared.rule_lists.Rule.{Rule}
use Rattle.bisync_filter.specs.declared.lines.Line.{Line}
use Rattle.bisync_filter.specs.declared.lines.Line.TheVariants.{Skipped, Clears, Adds}
use Rattle.bisync_filter.specs.Trimming.{lines, stripped}
use Rattle.bisync_filter.specs.Spelling.{Says, IsNoRule, size_of, rules_after, mark_of, is_skipped, LeadsTo, IsFirstBadLine}

pub newline_place : (xs : List ℕ) (n : ℕ) → n ≤ length xs → ((k : ℕ) → k < n → get_or xs k 0 ≡ 10 → ⊥) → (n < length xs → get_or xs n 0 ≡ 10) → n ≡ position_or_len (λ b. b == 10) xs
newline_place xs n fits before found =
    sym (position_or_len_is (λ b. b == 10) xs n 0 fits (λ k lt. let ne : get_or xs k 0 ≢ 10 = before k lt in grind (arith, nat_tests)) (λ lt. let e : get_or xs n 0 ≡ 10 = found lt in grind (arith, nat_tests)))

-- a slice from a place on
rest_whole : (xs : List ℕ) (m : ℕ) → take (length xs - m) (drop m xs) ≡ drop m xs
rest_whole xs m = grind (arith, common_steps)

pub lines_cut : (xs : List ℕ) (n : ℕ) → n ≡ position_or_len (λ b. b == 10) xs → n < length xs → lines xs ≡ take n xs ∷ lines (take (length xs - (n + 1)) (drop (n + 1) xs))
lines_cut xs n e below =
    let inside : position_or_len (λ b. b == 10) xs < length xs = subst (λ k. k < length xs) e below in
    slice_split_first (λ b. b == 10) xs 0 inside ∙ ap (λ k. take k xs ∷ lines (drop (k + 1) xs)) (sym e) ∙ ap (λ r. take n xs ∷ lines r) (sym (rest_whole xs (n + 1)))

pub lines_whole : (xs : List ℕ) (n : ℕ) → n ≡ position_or_len (λ b. b == 10) xs → length xs ≤ n → lines xs ≡ xs ∷ []
lines_whole xs n e above = slice_split_none (λ b. b == 10) xs (λ k a m. let k' = fails_before_first (λ b. b == 10) xs k a (grind (arith, common_steps)) in grind (arith, common_steps))

size_more : (line : List ℕ) (ls : List (List ℕ)) → 0 < length ls → size_of line ls ≡ length line + 1
size_more line [] h = absurd (omega arith)
size_more line (next ∷ more) h = refl

pub size_of-lines : (line xs : List ℕ) → size_of line (lines xs) ≡ length line + 1
size_of-lines line xs = size_more line (lines xs) (omega (arith, length-slice_split (λ b. b == 10) xs))

pub no_rule : (line : List ℕ) (includes : Bool) (text : List ℕ) → is_skipped line ≡ false → (line ≡ 33 ∷ [] → ⊥) → line ≡ mark_of includes ∷ 32 ∷ text → ((glob : Glob) → IsPatternText glob text → ⊥) → IsNoRule line
no_rule line includes text skipped cleared e never Skipped h = let f : true ≡ false = sym h ∙ skipped in cc
no_rule line includes text skipped cleared e never Clears h = cleared h
no_rule line includes text skipped cleared e never (Adds rule) (other, f, p) =
    let whole : mark_of rule.includes ∷ 32 ∷ other ≡ mark_of includes ∷ 32 ∷ text = sym f ∙ e in
    let texts : other ≡ text = cc in
    never rule.pattern (subst (λ x. IsPatternText rule.pattern x) texts p)

pub leads_on : (left size : ℕ) (before middle after : List Rule) (ls : List (List ℕ)) (line : List ℕ) (more : List (List ℕ)) (said : Line) → ls ≡ line ∷ more → size ≡ size_of line more → size ≤ left → Says said (stripped line) → middle ≡ rules_after said before → LeadsTo (left - size) middle more after → LeadsTo left before ls after
leads_on left size before middle after ls line more said cut sized fits says took h =
    let fits' : size_of line more ≤ left = subst (λ n. n ≤ left) sized fits in
    let sized' : LeadsTo (left - size_of line more) middle more after = subst (λ n. LeadsTo (left - n) middle more after) sized h in
    let rest : LeadsTo (left - size_of line more) (rules_after said before) more after = subst (λ m. LeadsTo (left - size_of line more) m more after) took sized' in
    let whole : LeadsTo left before (line ∷ more) after = (said, fits', says, rest) in
    subst (λ x. LeadsTo left before x after) (sym cut) whole

pub bad_on : (left size n : ℕ) (ls : List (List ℕ)) (line : List ℕ) (more : List (List ℕ)) (said : Line) → ls ≡ line ∷ more → size ≡ size_of line more → size ≤ left → Says said (stripped line) → IsFirstBadLine n (left - size) more → IsFirstBadLine (1 + n) left ls
bad_on left size n ls line more said cut sized fits says h =
    let fits' : size_of line more ≤ left = subst (λ m. m ≤ left) sized fits in
    let rest : IsFirstBadLine n (left - size_of line more) more = subst (λ m. IsFirstBadLine n (left - m) more) sized h in
    let whole : IsFirstBadLine (1 + n) left (line ∷ more) = inr (n, said, refl, fits', says, rest) in
    subst (λ x. IsFirstBadLine (1 + n) left x) (sym cut) whole
