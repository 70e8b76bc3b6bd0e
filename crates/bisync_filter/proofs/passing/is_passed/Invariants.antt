use Rattle.std.proofs.Common.{◌≡◌, drop}
use Rattle.bisync_filter.specs.Passing.{text_passes}
use Rattle.bisync_filter.proofs.passing.is_passed.Given as goal

abbrev pub invariant-loop-rule : goal.invariant-loop-rule
invariant-loop-rule l = text_passes l.rules l.subject ≡ text_passes (drop l.rule-index l.rules) l.subject
