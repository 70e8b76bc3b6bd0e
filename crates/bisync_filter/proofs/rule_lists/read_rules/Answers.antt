use Rattle.std.proofs.Common.{◌≡◌, ◌≤◌, ◌<◌, ◌+◌, ◌∷◌, length, arith, subst, IfSome, MatchOption}
use Rattle.bisync_filter.specs.Trimming.{lines, stripped}
use Rattle.bisync_filter.specs.Spelling.{Says, IsNoRule, size_of, lines_of, HasFirstBadLine}
use Rattle.bisync_filter.proofs.ReadingLaws.{leads_on, bad_on}
use Rattle.bisync_filter.proofs.rule_lists.read_rules.Goals as goal

pub lines-preserved : goal.lines-preserved
lines-preserved c =
    let cut : lines c.lines.rest.now ≡ c.cut_line-cut.result.line.now ∷ lines c.in-Some-more.more.now = subst (λ o. lines c.lines.rest.now ≡ c.cut_line-cut.result.line.now ∷ lines_of o) c.in-Some-more.is c.cut_line-cut.ensures.cut in
    let size : c.cut_line-cut.result.size ≡ size_of c.cut_line-cut.result.line.now (lines c.in-Some-more.more.now) = subst (λ o. c.cut_line-cut.result.size ≡ size_of c.cut_line-cut.result.line.now (lines_of o)) c.in-Some-more.is c.cut_line-cut.ensures.size in
    let shorter : length c.in-Some-more.more.now < length c.lines.rest.now = subst (λ o. IfSome o (λ more. length more.now < length c.lines.rest.now)) c.in-Some-more.is c.cut_line-cut.ensures.shorter in
    let fits : c.cut_line-cut.result.size ≤ c.lines.left = omega (arith, c.if-left-cut.false) in
    let says : Says c.in-Some.said (stripped c.cut_line-cut.result.line.now) = subst (λ o. MatchOption o (IsNoRule (stripped c.cut_line-cut.result.line.now)) (λ said. Says said (stripped c.cut_line-cut.result.line.now))) c.in-Some.is c.in_ok-said.ensures in
    record {
      number = omega (arith, c.lines.invariant.number, shorter);
      rules = λ after h. c.lines.invariant.rules after (leads_on c.lines.left c.cut_line-cut.result.size c.lines.rules.items c.take_line.new.rules.items after (lines c.lines.rest.now) c.cut_line-cut.result.line.now (lines c.in-Some-more.more.now) c.in-Some.said cut size fits says c.in_ok-take_line-in-Some.ensures h);
      fault = λ n h. subst (λ k. HasFirstBadLine k c.args.text.now) (omega arith) (c.lines.invariant.fault (1 + n) (bad_on c.lines.left c.cut_line-cut.result.size n (lines c.lines.rest.now) c.cut_line-cut.result.line.now (lines c.in-Some-more.more.now) c.in-Some.said cut size fits says h));
    }
