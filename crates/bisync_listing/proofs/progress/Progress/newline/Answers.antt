use Rattle.bisync_listing.proofs.ProgressLaws.{takes_failed, bad_wrong, bad_cut}
use Rattle.bisync_listing.proofs.RefusalLaws.{refused_closed}
use Rattle.bisync_listing.proofs.progress.Progress.newline.Goals as goal

pub returns-then-self-clause-takes : goal.returns-then-self-clause-takes
returns-then-self-clause-takes c = takes_failed c.args.self.now c.bad.new.self _ _ c.bad.result c.bad.ensures.kept c.bad.ensures.err (bad_cut c.args.self.now c.requires.sound c.if-self.true)

pub returns-in-Closed-clause-takes : goal.returns-in-Closed-clause-takes
returns-in-Closed-clause-takes c = takes_failed c.args.self.now c.bad-in-Closed.new.self _ _ c.bad-in-Closed.result c.bad-in-Closed.ensures.kept c.bad-in-Closed.ensures.err
    (bad_wrong c.args.self.now c.requires.sound (refused_closed c.args.self.now.place _ _ c.args.self.now.line c.in-Closed.is))
