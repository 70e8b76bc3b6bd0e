use Rattle.std.proofs.Common.{◌+◌, ◌≤◌, ℕ, List, length}
use Rattle.bisync_filter.specs.declared.rule_lists.Rule.{Rule}
use Rattle.bisync_filter.specs.Trimming.{lines}
use Rattle.bisync_filter.specs.Spelling.{LeadsTo, IsFirstBadLine, SpellsRules, HasFirstBadLine}
use Rattle.bisync_filter.proofs.rule_lists.read_rules.Given as goal

abbrev pub invariant-lines : goal.invariant-lines
invariant-lines l = record {
  number : l.number + length l.rest ≤ length l.fn.text;
  rules : (after : List Rule) → LeadsTo l.left l.rules.items (lines l.rest) after → SpellsRules after l.fn.text;
  fault : (n : ℕ) → IsFirstBadLine n l.left (lines l.rest) → HasFirstBadLine (l.number + n) l.fn.text;
}

abbrev pub decreases-lines : goal.decreases-lines
decreases-lines l = length l.rest
