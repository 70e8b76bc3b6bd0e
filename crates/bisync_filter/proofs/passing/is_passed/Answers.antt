use Rattle.std.proofs.Common.{◌≡◌, true, false, sym, ◌∙◌}
use Rattle.bisync_glob.specs.Matching.{Matches}
use Rattle.bisync_filter.proofs.PassingLaws.{passes_rest, passes_here}
use Rattle.bisync_filter.proofs.passing.is_passed.Goals as goal

pub returns-then-matches_in : goal.returns-then-matches_in
returns-then-matches_in c =
    let here = passes_here c.args.rules.now c.loop-rule.rule-index c.rule-item.result c.args.subject.now c.loop-rule-test.true c.rule-item.is (c.matches_in.ensures.0 c.if-matches_in.true) in
    sym (c.loop-rule.invariant ∙ here)

pub loop-rule-preserved : goal.loop-rule-preserved
loop-rule-preserved c =
    let never : Matches c.rule-item.result.pattern c.args.subject.now → ⊥ = λ m. let f : true ≡ false = sym (c.matches_in.ensures.1 m) ∙ c.if-matches_in.false in cc in
    c.loop-rule.invariant ∙ passes_rest c.args.rules.now c.loop-rule.rule-index c.rule-item.result c.args.subject.now c.loop-rule-test.true c.rule-item.is never
