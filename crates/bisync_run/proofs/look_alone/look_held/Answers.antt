use Rattle.std.proofs.Common.{refl}
use Rattle.bisync_run.specs.Counts.{counts}
use Rattle.bisync_run.specs.Sides.{sides_of}
use Rattle.bisync_run.proofs.BeginningLaws.{start_begins}
use Rattle.bisync_run.proofs.CauseLaws.{fails}
use Rattle.bisync_run.proofs.LookBeginnings.{looks_begin, looks_begun}
use Rattle.bisync_run.proofs.LooksBefore.{look_from, looks_answer}
use Rattle.bisync_run.proofs.OrdinaryCauses.{since}
use Rattle.bisync_run.proofs.OrdinaryEndCases.{start_answers}
use Rattle.bisync_run.proofs.look_alone.look_held.Goals as goal

pub returns-in-Err-clause-refusal : goal.returns-in-Err-clause-refusal
returns-in-Err-clause-refusal g c one two work =
    start_answers c.args.opts.now c.args.limits.now (g.W.Work.state c.args.work.now).folder _ c.args.entered.now.digest c.in-Err.end (c.in-Err.ensures.refusal work)

pub returns-in-Err-clause-causes : goal.returns-in-Err-clause-causes
returns-in-Err-clause-causes g c =
    fails _ _ c.in-Err.end (c.in-Err.ensures.causes (g.A.Remote.state c.args.one.now).faults (g.B.Remote.state c.args.two.now).faults 0)

pub returns-clause-look : goal.returns-clause-look
returns-clause-look g c one two work =
    let f = (g.W.Work.state c.args.work.now).folder in
    let s = sides_of c.args.opts.now.compare c.args.entered.now.rules (g.A.Remote.state c.args.one.now) (g.B.Remote.state c.args.two.now) in
    look_from c.args.opts.now c.args.limits.now f s c.args.entered.now.digest c.in-Ok.started c.look_ordinary.result
    (c.look_ordinary.ensures.look one two f c.args.entered.now.digest (c.in-Ok.ensures.starts work) c.requires.more)

pub returns-clause-refusal : goal.returns-clause-refusal
returns-clause-refusal g c one two work =
    let f = (g.W.Work.state c.args.work.now).folder in
    let s = sides_of c.args.opts.now.compare c.args.entered.now.rules (g.A.Remote.state c.args.one.now) (g.B.Remote.state c.args.two.now) in
    looks_answer c.args.opts.now c.args.limits.now f s c.args.entered.now.digest c.look_ordinary.result
    (c.look_ordinary.ensures.refusal one two f c.args.entered.now.digest (c.in-Ok.ensures.starts work) c.requires.more)

pub returns-clause-causes : goal.returns-clause-causes
returns-clause-causes g c =
    let a = (g.A.Remote.state c.args.one.now).faults in
    let b = (g.B.Remote.state c.args.two.now).faults in
    let w = (g.W.Work.state c.args.work.now).faults in
    let w2 = (g.W.Work.state c.start.new.work).faults in
    let a2 = (g.A.Remote.state c.look_ordinary.new.one).faults in
    let b2 = (g.B.Remote.state c.look_ordinary.new.two).faults in
    since (counts a b w 0) (counts a b w2 0) (counts a2 b2 w2 0) c.look_ordinary.result ((c.in-Ok.ensures.causes a b 0).good refl) (c.look_ordinary.ensures.causes w2 0)

pub returns-in-Err-clause-begins : goal.returns-in-Err-clause-begins
returns-in-Err-clause-begins g c work =
    let f = (g.W.Work.state c.args.work.now).folder in
    let s = sides_of c.args.opts.now.compare c.args.entered.now.rules (g.A.Remote.state c.args.one.now) (g.B.Remote.state c.args.two.now) in
    start_begins c.args.opts.now c.args.limits.now f s c.args.entered.now.digest c.in-Err.end (c.in-Err.ensures.refusal work)

pub returns-clause-begins : goal.returns-clause-begins
returns-clause-begins g c work =
    let f = (g.W.Work.state c.args.work.now).folder in
    let s = sides_of c.args.opts.now.compare c.args.entered.now.rules (g.A.Remote.state c.args.one.now) (g.B.Remote.state c.args.two.now) in
    looks_begin c.args.opts.now c.args.limits.now f s c.args.entered.now.digest c.in-Ok.started (c.in-Ok.ensures.starts work) c.requires.more _ c.look_ordinary.result
    c.look_ordinary.ensures.kind c.look_ordinary.ensures.prior c.look_ordinary.ensures.apart

pub returns-clause-begun : goal.returns-clause-begun
returns-clause-begun g c work =
    let f = (g.W.Work.state c.args.work.now).folder in
    let s = sides_of c.args.opts.now.compare c.args.entered.now.rules (g.A.Remote.state c.args.one.now) (g.B.Remote.state c.args.two.now) in
    looks_begun c.args.opts.now c.args.limits.now f s c.args.entered.now.digest c.in-Ok.started (c.in-Ok.ensures.starts work) c.requires.more c.look_ordinary.result c.look_ordinary.ensures.had_prior
