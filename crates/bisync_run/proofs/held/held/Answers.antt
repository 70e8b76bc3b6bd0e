use Rattle.std.proofs.Common.{◌∙◌, sym, subst, IsTrue, OnOk}
use Rattle.bisync_tree.specs.declared.options.Prefer.{Prefer}
use Rattle.bisync_device.specs.Work.{KeepsFolder}
use Rattle.bisync_model.specs.Trees.{by_side}
use Rattle.bisync_run.specs.HeldResyncs.{TellsPlan, end_of}
use Rattle.bisync_run.specs.KeptNames.{IsSideEnd}
use Rattle.bisync_run.specs.LeftNames.{FellWith}
use Rattle.bisync_run.specs.ResyncRefusals.{HasNoResyncRefusal}
use Rattle.bisync_run.specs.Resyncs.{HasOutcome, IsResynced, LeavesBase, LeavesMix, LeavesTrees}
use Rattle.bisync_run.specs.Sides.{sides_of}
use Rattle.bisync_run.proofs.FolderBases.{map_ok, ordinary_leaves, resync_in_place, resync_leaves}
use Rattle.bisync_run.proofs.ToldEnds.{some_same}
use Rattle.bisync_run.proofs.held.held.Goals as goal

pub returns-in-Some-clause-base : goal.returns-in-Some-clause-base
returns-in-Some-clause-base g c mode is one two work =
    let a = g.A.Remote.state c.args.one.now in
    let b = g.B.Remote.state c.args.two.now in
    let now = by_side (g.A.Remote.state c.resync.new.one) (g.B.Remote.state c.resync.new.two) in
    subst (λ (m : Prefer). LeavesBase m c.args.limits.now (g.W.Work.state c.args.work.now).folder (sides_of c.args.opts.now.compare c.args.entered.now.rules a b) (by_side a b) (g.W.Work.state c.resync.new.work).folder now)
    (some_same c.in-Some.mode mode (sym c.in-Some.is ∙ is)) (c.resync.ensures.base one two work)

pub returns-in-Some-clause-trees : goal.returns-in-Some-clause-trees
returns-in-Some-clause-trees g c mode is one two work =
    let a = g.A.Remote.state c.args.one.now in
    let b = g.B.Remote.state c.args.two.now in
    let now = by_side (g.A.Remote.state c.resync.new.one) (g.B.Remote.state c.resync.new.two) in
    subst (λ (m : Prefer). LeavesTrees m c.args.limits.now (g.W.Work.state c.args.work.now).folder (sides_of c.args.opts.now.compare c.args.entered.now.rules a b) (by_side a b) (g.W.Work.state c.resync.new.work).folder now)
    (some_same c.in-Some.mode mode (sym c.in-Some.is ∙ is)) (c.resync.ensures.trees one two work)

pub returns-in-Some-clause-resynced : goal.returns-in-Some-clause-resynced
returns-in-Some-clause-resynced g c mode is one two work dry =
    let a = g.A.Remote.state c.args.one.now in
    let b = g.B.Remote.state c.args.two.now in
    let now = by_side (g.A.Remote.state c.resync.new.one) (g.B.Remote.state c.resync.new.two) in
    subst (λ (m : Prefer). OnOk c.resync.result (IsResynced m c.args.limits.now (g.W.Work.state c.args.work.now).folder (sides_of c.args.opts.now.compare c.args.entered.now.rules a b) c.args.entered.now.digest (by_side a b) (g.W.Work.state c.resync.new.work).folder now))
    (some_same c.in-Some.mode mode (sym c.in-Some.is ∙ is)) (c.resync.ensures.resynced one two work dry)

pub returns-in-Some-clause-report : goal.returns-in-Some-clause-report
returns-in-Some-clause-report g c mode is one two sink =
    let a = g.A.Remote.state c.args.one.now in
    let b = g.B.Remote.state c.args.two.now in
    let now = by_side (g.A.Remote.state c.resync.new.one) (g.B.Remote.state c.resync.new.two) in
    subst (λ (m : Prefer). TellsPlan m c.args.opts.now.dry_run (sides_of c.args.opts.now.compare c.args.entered.now.rules a b) (by_side a b) now (KeepsFolder g.W.Work.tells (g.W.Work.state c.args.work.now) (g.W.Work.state c.resync.new.work))
    (IsTrue g.W.Work.tells → HasNoResyncRefusal m c.args.limits.now (g.W.Work.state c.args.work.now).folder (sides_of c.args.opts.now.compare c.args.entered.now.rules a b))
    (λ end. IsTrue g.W.Work.tells → IsSideEnd end → FellWith c.args.entered.now.digest (g.W.Work.state c.args.work.now).folder (g.W.Work.state c.resync.new.work).folder) (g.S.Sink.state c.args.sink.now).bytes (g.S.Sink.state c.resync.new.sink).bytes c.resync.result)
    (some_same c.in-Some.mode mode (sym c.in-Some.is ∙ is)) (c.resync.ensures.report one two sink)

-- # What the work folder alone tells

pub returns-in-Some-clause-folder_base : goal.returns-in-Some-clause-folder_base
returns-in-Some-clause-folder_base g c work base is =
    let s = sides_of c.args.opts.now.compare c.args.entered.now.rules (g.A.Remote.state c.args.one.now) (g.B.Remote.state c.args.two.now) in
    resync_leaves c.args.opts.now c.args.limits.now s c.args.entered.now.digest (end_of c.resync.result) (g.W.Work.state c.args.work.now).folder (g.W.Work.state c.resync.new.work).folder
    (λ dry. c.resync.ensures.dry dry work) base is c.in-Some.mode c.in-Some.is (c.resync.ensures.folder_base work base is)

pub returns-in-Some-clause-folder_next : goal.returns-in-Some-clause-folder_next
returns-in-Some-clause-folder_next g c work writes =
    map_ok c.resync.result (resync_in_place c.args.opts.now c.args.limits.now (by_side (g.A.Remote.state c.args.one.now) (g.B.Remote.state c.args.two.now)) (g.W.Work.state c.args.work.now).folder (g.W.Work.state c.resync.new.work).folder c.in-Some.mode c.in-Some.is) (c.resync.ensures.folder_next work writes.0)

pub returns-in-None-clause-folder_base : goal.returns-in-None-clause-folder_base
returns-in-None-clause-folder_base g c work base is =
    let s = sides_of c.args.opts.now.compare c.args.entered.now.rules (g.A.Remote.state c.args.one.now) (g.B.Remote.state c.args.two.now) in
    ordinary_leaves c.args.opts.now c.args.limits.now s c.args.entered.now.digest (end_of c.ordinary.result) (g.W.Work.state c.args.work.now).folder (g.W.Work.state c.ordinary.new.work).folder
    (λ dry. c.ordinary.ensures.dry dry work) base is (λ only. c.ordinary.ensures.compares only work) (c.ordinary.ensures.folder_base work base is)

pub returns-in-None-clause-folder_next : goal.returns-in-None-clause-folder_next
returns-in-None-clause-folder_next g c work writes =
    map_ok c.ordinary.result (λ out. (out.0, λ none. out.1)) (c.ordinary.ensures.folder_next work writes.0 (writes.1 c.in-None.is))

-- # What both sides alone tell

pub returns-in-Some-clause-mixed : goal.returns-in-Some-clause-mixed
returns-in-Some-clause-mixed g c mode is one two =
    let a = g.A.Remote.state c.args.one.now in let b = g.B.Remote.state c.args.two.now in
    let now = by_side (g.A.Remote.state c.resync.new.one) (g.B.Remote.state c.resync.new.two) in
    subst (λ (m : Prefer). LeavesMix m (sides_of c.args.opts.now.compare c.args.entered.now.rules a b) (by_side a b) now)
    (some_same c.in-Some.mode mode (sym c.in-Some.is ∙ is)) (c.resync.ensures.mixed one two)

pub returns-in-Some-clause-outcome : goal.returns-in-Some-clause-outcome
returns-in-Some-clause-outcome g c mode is one two dry =
    let a = g.A.Remote.state c.args.one.now in let b = g.B.Remote.state c.args.two.now in
    let now = by_side (g.A.Remote.state c.resync.new.one) (g.B.Remote.state c.resync.new.two) in
    subst (λ (m : Prefer). OnOk c.resync.result (HasOutcome m (sides_of c.args.opts.now.compare c.args.entered.now.rules a b) (by_side a b) now))
    (some_same c.in-Some.mode mode (sym c.in-Some.is ∙ is)) (c.resync.ensures.outcome one two dry)
