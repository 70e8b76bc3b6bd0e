use Rattle.bisync_run.proofs.FallsAsLaws.{written_falls_as}
use Rattle.bisync_run.proofs.OwnNames.{back_own, unchanged_own, written_own}
use Rattle.bisync_run.proofs.OrdinaryWrites.{new_keeps, back_keeps, written_past, one_synced, two_synced, set_back}
use Rattle.bisync_run.proofs.ordinary_changes.write_ordinary.Goals as goal

pub returns-in_err-write_new-clause-keeps : goal.returns-in_err-write_new-clause-keeps
returns-in_err-write_new-clause-keeps g c = λ t limit before is. new_keeps limit (g.W.Work.state c.args.work.now).folder (g.W.Work.state c.write_new.new.work).folder (c.write_new.ensures.rest t)

pub returns-in_err-set_back-clause-keeps : goal.returns-in_err-set_back-clause-keeps
returns-in_err-set_back-clause-keeps g c = λ t limit before is.
    back_keeps limit (g.W.Work.state c.args.work.now).folder (g.W.Work.state c.write_new.new.work).folder (g.W.Work.state c.set_back.new.work).folder c.args.pair before
    (c.write_new.ensures.rest t) (c.set_back.ensures.sets_back t) is

pub returns-clause-keeps : goal.returns-clause-keeps
returns-clause-keeps g c = λ t limit before is.
    back_keeps limit (g.W.Work.state c.args.work.now).folder (g.W.Work.state c.write_new.new.work).folder (g.W.Work.state c.set_back.new.work).folder c.args.pair before
    (c.write_new.ensures.rest t) (c.set_back.ensures.sets_back t) is

pub returns-clause-set_back : goal.returns-clause-set_back
returns-clause-set_back g c = λ t limit before is.
    set_back limit (g.W.Work.state c.args.work.now).folder (g.W.Work.state c.write_new.new.work).folder (g.W.Work.state c.set_back.new.work).folder c.args.pair before c.args.prepared.now
    c.header-header.result c.header-header.ensures is (c.write_new.ensures.rest t) (c.in_ok-write_new.ensures.written t)
    c.in_ok-write_new.ensures.read_again1 c.in_ok-write_new.ensures.read_again2 (c.set_back.ensures.sets_back t) (c.in_ok-set_back.ensures.back t limit before)

pub returns-clause-synced1 : goal.returns-clause-synced1
returns-clause-synced1 g c = λ t.
    one_synced (g.W.Work.state c.set_back.new.work).folder c.header-header.result c.args.prepared.now.plan.final1 c.args.prepared.now.plan.final2
    (written_past c.args.pair (g.W.Work.state c.write_new.new.work).folder (g.W.Work.state c.set_back.new.work).folder c.header-header.result
    c.args.prepared.now.plan.final1 c.args.prepared.now.plan.final2 (c.set_back.ensures.sets_back t) (c.in_ok-write_new.ensures.written t))

pub returns-clause-synced2 : goal.returns-clause-synced2
returns-clause-synced2 g c = λ t.
    two_synced (g.W.Work.state c.set_back.new.work).folder c.header-header.result c.args.prepared.now.plan.final1 c.args.prepared.now.plan.final2
    (written_past c.args.pair (g.W.Work.state c.write_new.new.work).folder (g.W.Work.state c.set_back.new.work).folder c.header-header.result
    c.args.prepared.now.plan.final1 c.args.prepared.now.plan.final2 (c.set_back.ensures.sets_back t) (c.in_ok-write_new.ensures.written t))

pub returns-clause-falls_as : goal.returns-clause-falls_as
returns-clause-falls_as g c = λ t.
    written_falls_as c.args.pair (g.W.Work.state c.args.work.now).folder (g.W.Work.state c.write_new.new.work).folder (g.W.Work.state c.set_back.new.work).folder
    (c.write_new.ensures.rest t) (c.in_ok-set_back.ensures.done t)

pub returns-in_err-write_new-clause-names : goal.returns-in_err-write_new-clause-names
returns-in_err-write_new-clause-names g c = λ t limit compare k same. written_own limit compare k (g.W.Work.state c.args.work.now).folder (g.W.Work.state c.write_new.new.work).folder (c.write_new.ensures.rest t) (unchanged_own limit compare k _ same)

pub returns-in_err-set_back-clause-names : goal.returns-in_err-set_back-clause-names
returns-in_err-set_back-clause-names g c = λ t limit compare k.
    back_own limit compare k (g.W.Work.state c.args.work.now).folder (g.W.Work.state c.write_new.new.work).folder (g.W.Work.state c.set_back.new.work).folder c.args.pair (c.write_new.ensures.rest t) (c.set_back.ensures.begun t)

pub returns-clause-names : goal.returns-clause-names
returns-clause-names g c = λ t limit compare k.
    back_own limit compare k (g.W.Work.state c.args.work.now).folder (g.W.Work.state c.write_new.new.work).folder (g.W.Work.state c.set_back.new.work).folder c.args.pair (c.write_new.ensures.rest t) (c.set_back.ensures.begun t)
