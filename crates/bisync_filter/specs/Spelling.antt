-- Which rules the text of a filters file spells, and which line of every other text is the first that is no rule.
-- Codes of bytes: 32 is a space, 33 `!`, 35 `#`, 43 `+`, 45 `-`, 59 `;`.
use Rattle.std.specs.Prelude.{◌≡◌, ◌⊎◌, ◌==◌, ◌||◌, ◌≤◌, ◌<◌, ◌+◌, ◌-◌, ⊤, ℕ, Bool, true, false, IsTrue, List, [], ◌∷◌, ◌++◌, length, Option, Some, None}
use Rattle.std.specs.Option.{option_map_or}
use Rattle.std.specs.Borrow.{Bor}
use Rattle.bisync_glob.specs.Matching.{Glob}
use Rattle.bisync_glob.specs.Refusals.{IsPatternText}
use Rattle.bisync_filter.specs.declared.rule_lists.Rule.{Rule}
use Rattle.bisync_filter.specs.declared.lines.Line.{Line}
use Rattle.bisync_filter.specs.declared.lines.Line.TheVariants.{Skipped, Clears, Adds}
use Rattle.bisync_filter.specs.declared.faults.RuleFault.{RuleFault}
use Rattle.bisync_filter.specs.declared.faults.RuleFault.TheVariants.{BadLine, OutOfMemory}
use Rattle.bisync_filter.specs.Trimming.{lines, stripped}

-- empty, or begins with `#` or `;`
abbrev pub is_skipped : List ℕ → Bool
is_skipped [] = true
is_skipped (b ∷ line) = b == 35 || b == 59

-- `+` where the rule includes, and `-` where it excludes
abbrev pub mark_of : Bool → ℕ
mark_of true = 43
mark_of false = 45

-- the mark, a space and the pattern
abbrev pub SpellsRule : Rule → List ℕ → Type 0
SpellsRule rule line = (text : List ℕ) × (line ≡ mark_of rule.includes ∷ 32 ∷ text) × IsPatternText rule.pattern text

-- what a line says that is left of a line of the file
abbrev pub Says : Line → List ℕ → Type 0
Says Skipped line = IsTrue (is_skipped line)
Says Clears line = line ≡ 33 ∷ []
Says (Adds rule) line = SpellsRule rule line

abbrev pub IsNoRule : List ℕ → Type 0
IsNoRule line = (said : Line) → Says said line → ⊥

-- the rules after a line
abbrev pub rules_after : Line → List Rule → List Rule
rules_after Skipped rules = rules
rules_after Clears rules = []
rules_after (Adds rule) rules = rules ++ rule ∷ []

-- the bytes of a line before others: a newline stands behind each line but the last
abbrev pub size_of : List ℕ → List (List ℕ) → ℕ
size_of line [] = length line
size_of line (next ∷ more) = length line + 1

-- from the rules `before` the lines lead to the rules `after`, and have at most `left` bytes
abbrev pub LeadsTo : ℕ → List Rule → List (List ℕ) → List Rule → Type 0
LeadsTo left before [] after = after ≡ before
LeadsTo left before (line ∷ more) after =
    (said : Line) × (size_of line more ≤ left) × Says said (stripped line)
    × LeadsTo (left - size_of line more) (rules_after said before) more after

-- a line that holds the first byte past `left` bytes, or is no rule
abbrev pub IsBadLine : ℕ → List ℕ → List (List ℕ) → Type 0
IsBadLine left line more = (left < size_of line more) ⊎ IsNoRule (stripped line)

-- the line n, counted from 1, is the first that is bad
abbrev pub IsFirstBadLine : ℕ → ℕ → List (List ℕ) → Type 0
IsFirstBadLine n left [] = ⊥
IsFirstBadLine n left (line ∷ more) =
    ((n ≡ 1) × IsBadLine left line more)
    ⊎ ((later : ℕ) × (said : Line) × (n ≡ 1 + later) × (size_of line more ≤ left) × Says said (stripped line)
    × IsFirstBadLine later (left - size_of line more) more)

-- the most bytes of a filters file
abbrev pub most_bytes : ℕ
most_bytes = 1048576

-- the text has at most that many bytes, no line of it is bad, and its lines lead to these rules
abbrev pub SpellsRules : List Rule → List ℕ → Type 0
SpellsRules rules text = LeadsTo most_bytes [] (lines text) rules

abbrev pub HasFirstBadLine : ℕ → List ℕ → Type 0
HasFirstBadLine n text = IsFirstBadLine n most_bytes (lines text)

-- want of memory may be answered for every text
abbrev pub IsFaultOf : RuleFault → List ℕ → Type 0
IsFaultOf (BadLine n) text = HasFirstBadLine n text
IsFaultOf OutOfMemory text = ⊤

-- ONE ANSWER

-- the text spells no other rules, and no line of it is bad
abbrev pub AreOnlyRules : List Rule → List ℕ → Type 0
AreOnlyRules rules text = ((other : List Rule) → SpellsRules other text → other ≡ rules) × ((n : ℕ) → HasFirstBadLine n text → ⊥)

-- the text spells no rules, and no other line is its first bad one
abbrev pub IsOnlyFaultOf : RuleFault → List ℕ → Type 0
IsOnlyFaultOf (BadLine n) text = ((rules : List Rule) → SpellsRules rules text → ⊥) × ((other : ℕ) → HasFirstBadLine other text → other ≡ n)
IsOnlyFaultOf OutOfMemory text = ⊤

-- INTERNAL

-- the lines of what follows a newline
abbrev pub lines_of : Option (Bor (List ℕ)) → List (List ℕ)
lines_of more = option_map_or (λ rest. lines rest.now) more []

-- a line is cut behind its mark and the space, or has none
abbrev pub SplitsAtMark : List ℕ → Option (Bool × Bor (List ℕ)) → Type 0
SplitsAtMark line None = (includes : Bool) (text : List ℕ) → line ≡ mark_of includes ∷ 32 ∷ text → ⊥
SplitsAtMark line (Some x) = line ≡ mark_of x.0 ∷ 32 ∷ x.1.now

abbrev pub IsReadRule : Bool → List ℕ → Option Rule → Type 0
IsReadRule includes text None = (glob : Glob) → IsPatternText glob text → ⊥
IsReadRule includes text (Some rule) = (rule.includes ≡ includes) × IsPatternText rule.pattern text
