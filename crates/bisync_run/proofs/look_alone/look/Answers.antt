use Rattle.std.proofs.Common.{ap, inl, refl}
use Rattle.bisync_model.specs.Trees.{by_side}
use Rattle.bisync_run.specs.Counts.{Counts, counts}
use Rattle.bisync_run.specs.Grounds.{HasGrounds, IsTold}
use Rattle.bisync_run.specs.OrdinaryEnds.{IsOrdinaryEnd}
use Rattle.bisync_run.specs.ResyncRuns.{Matter}
use Rattle.bisync_run.specs.Sides.{compare_in}
use Rattle.bisync_run.proofs.BlockedFolders.{blocked_nowhere}
use Rattle.bisync_run.proofs.LookBeginnings.{begins_freed, begun_freed}
use Rattle.bisync_run.proofs.LooksBefore.{end_closed, freed_causes, freed_end, look_closed}
use Rattle.bisync_run.proofs.OrdinaryCauses.{since}
use Rattle.bisync_run.proofs.look_alone.look.Goals as goal

pub returns-clause-look : goal.returns-clause-look
returns-clause-look g c one two work =
    let start = by_side (g.A.Remote.state c.args.one.now) (g.B.Remote.state c.args.two.now) in
    let f = (g.W.Work.state c.args.work.now).folder in
    let f2 = (g.W.Work.state c.enter.new.work).folder in
    let m : Matter c.args.opts.now f start = record { rules = c.in-Ok.entered.rules; digest = c.in-Ok.entered.digest; are = c.in-Ok.ensures.rules (inl work) } in
    look_closed c.args.opts.now c.args.limits.now f f2 (c.in-Ok.ensures.others work) start g.C.Clock.tells (g.C.Clock.moment c.args.clock.now) (c.in-Ok.ensures.free work) m
    c.look_held-looked.result c.unlock.result c.unlock.ensures.end (c.look_held-looked.ensures.look one two work)

pub returns-clause-refusal : goal.returns-clause-refusal
returns-clause-refusal g c one two work =
    let start = by_side (g.A.Remote.state c.args.one.now) (g.B.Remote.state c.args.two.now) in
    let f = (g.W.Work.state c.args.work.now).folder in
    let f2 = (g.W.Work.state c.enter.new.work).folder in
    let m : Matter c.args.opts.now f start = record { rules = c.in-Ok.entered.rules; digest = c.in-Ok.entered.digest; are = c.in-Ok.ensures.rules (inl work) } in
    end_closed c.args.opts.now c.args.limits.now f f2 (c.in-Ok.ensures.others work) start g.C.Clock.tells (g.C.Clock.moment c.args.clock.now) (c.in-Ok.ensures.free work) m
    c.look_held-looked.result c.unlock.result c.unlock.ensures.end (c.look_held-looked.ensures.refusal one two work)

pub returns-clause-kind : goal.returns-clause-kind
returns-clause-kind g c =
    freed_end (IsOrdinaryEnd c.args.opts.now (compare_in c.args.opts.now.compare (g.A.Remote.state c.args.one.now).window (g.B.Remote.state c.args.two.now).window))
    c.look_held-looked.result c.unlock.result tt c.unlock.ensures.end c.look_held-looked.ensures.kind

pub returns-clause-grounds : goal.returns-clause-grounds
returns-clause-grounds g c =
    freed_end (HasGrounds c.args.limits.now (by_side g.A.Remote.tells g.B.Remote.tells)) c.look_held-looked.result c.unlock.result tt c.unlock.ensures.end c.look_held-looked.ensures.grounds

pub returns-clause-told : goal.returns-clause-told
returns-clause-told g c =
    freed_end (IsTold (by_side g.A.Remote.tells g.B.Remote.tells) (by_side (g.A.Remote.state c.args.one.now) (g.B.Remote.state c.args.two.now)))
    c.look_held-looked.result c.unlock.result tt c.unlock.ensures.end c.look_held-looked.ensures.told

pub returns-clause-causes : goal.returns-clause-causes
returns-clause-causes g c =
    let a = (g.A.Remote.state c.args.one.now).faults in
    let b = (g.B.Remote.state c.args.two.now).faults in
    let w = (g.W.Work.state c.args.work.now).faults in
    let w1 = (g.W.Work.state c.enter.new.work).faults in
    let a2 = (g.A.Remote.state c.look_held-looked.new.one).faults in
    let b2 = (g.B.Remote.state c.look_held-looked.new.two).faults in
    let w2 = (g.W.Work.state c.look_held-looked.new.work).faults in
    let w3 = (g.W.Work.state c.unlock.new.work).faults in
    since (counts a b w 0) (counts a b w1 0) (counts a2 b2 w3 0) c.unlock.result (ap (λ (k : Counts). counts a b k.work 0) (c.in-Ok.ensures.causes.good refl))
    (freed_causes a b w1 a2 b2 w2 w3 c.look_held-looked.result c.unlock.result c.look_held-looked.ensures.causes c.unlock.ensures.later c.unlock.ensures.end c.unlock.ensures.counts)

pub returns-clause-begins : goal.returns-clause-begins
returns-clause-begins g c work =
    let start = by_side (g.A.Remote.state c.args.one.now) (g.B.Remote.state c.args.two.now) in
    let f = (g.W.Work.state c.args.work.now).folder in
    let f2 = (g.W.Work.state c.enter.new.work).folder in
    let m : Matter c.args.opts.now f start = record { rules = c.in-Ok.entered.rules; digest = c.in-Ok.entered.digest; are = c.in-Ok.ensures.rules (inl work) } in
    begins_freed c.args.opts.now c.args.limits.now f f2 (c.in-Ok.ensures.others work) start g.C.Clock.tells (g.C.Clock.moment c.args.clock.now) (c.in-Ok.ensures.free work) m
    c.look_held-looked.result c.unlock.result c.unlock.ensures.end (c.look_held-looked.ensures.begins work)

pub returns-clause-begun : goal.returns-clause-begun
returns-clause-begun g c work =
    let start = by_side (g.A.Remote.state c.args.one.now) (g.B.Remote.state c.args.two.now) in
    let f = (g.W.Work.state c.args.work.now).folder in
    let f2 = (g.W.Work.state c.enter.new.work).folder in
    let m : Matter c.args.opts.now f start = record { rules = c.in-Ok.entered.rules; digest = c.in-Ok.entered.digest; are = c.in-Ok.ensures.rules (inl work) } in
    begun_freed c.args.opts.now c.args.limits.now f f2 (c.in-Ok.ensures.others work) start g.C.Clock.tells (g.C.Clock.moment c.args.clock.now) (c.in-Ok.ensures.free work) m
    c.look_held-looked.result c.unlock.result c.unlock.ensures.end (c.look_held-looked.ensures.begun work)

pub returns-clause-blocked : goal.returns-clause-blocked
returns-clause-blocked g c work = blocked_nowhere (g.W.Work.state c.args.work.now).folder _ _ _ (c.in-Ok.ensures.free work)
