use Rattle.std.proofs.Common.{◌≡◌}
use Rattle.std.proofs.lemmas.Bool.Decides.{Decides-at}
use Rattle.bisync_filter.specs.Passing.{text_passes}
use Rattle.bisync_filter.proofs.PassingLaws.{text_passes-Decides}
use Rattle.bisync_filter.proofs.rule_lists.Rules.passes_in.Goals as goal

pub returns-clause-passes : goal.returns-clause-passes
returns-clause-passes c =
    let test : c.is_passed.result ≡ text_passes c.args.self.now c.args.subject.now = cc (c.is_passed.ensures, c.deref.ensures.value, c.self.view_is) in
    Decides-at c.is_passed.result (text_passes c.args.self.now c.args.subject.now) test (text_passes-Decides c.args.self.now c.args.subject.now)
