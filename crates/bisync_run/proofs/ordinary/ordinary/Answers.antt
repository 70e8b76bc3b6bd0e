use Rattle.std.proofs.Common.{◌<◌, ◌^◌, ◌∙◌, ap, refl, sym, subst, inl, inr, arith}
use Rattle.bisync_device.specs.WorkFolder.{IsSettled, WorkFolder}
use Rattle.bisync_model.specs.Trees.{by_side}
use Rattle.bisync_report.specs.declared.ends.End.TheVariants.{Done, DryRun, OutOfMemory}
use Rattle.bisync_run.specs.Counts.{counts}
use Rattle.bisync_run.specs.LockNew.{KeepsLockNew}
use Rattle.bisync_run.specs.Sides.{compare_in, sides_of}
use Rattle.bisync_run.proofs.BeginningLaws.{begun_by, compared_begins, compared_begun, look_begins, start_begins, step_begins}
use Rattle.bisync_run.proofs.BasesSetBack.{ordinary_set_back, ordinary_stands}
use Rattle.bisync_run.proofs.CauseLaws.{fails}
use Rattle.bisync_run.proofs.CountedRuns.{counted_since}
use Rattle.bisync_run.proofs.DoneSteps.{looked_told, untouched_same}
use Rattle.bisync_run.proofs.EndCases.{false_true, step_may_change, told_device}
use Rattle.bisync_run.proofs.FallsAsLaws.{falls_as_held, keeps_tree_same, keeps_tree_twice}
use Rattle.bisync_run.proofs.FolderBases.{kept_or_next, next_in_place, ready_to}
use Rattle.bisync_run.proofs.OwnNames.{kept_own, ordinary_own}
use Rattle.bisync_run.proofs.HeldLaws.{untouched, same_windows, are_within}
use Rattle.bisync_run.proofs.OrdinaryCauses.{done_same, lock_new_held, since, stopped, sunk, told_same, unsunk, well, work_same}
use Rattle.bisync_run.proofs.OrdinaryEndCases.{compared_causes, compared_tells, device_answers, not_only, only_is, start_answers, step_kind}
use Rattle.bisync_run.proofs.OrdinaryHeld.{base_held, done_held, numbers_held, planned_finds, prepared_held, prepared_of, told_held, trees_held}
use Rattle.bisync_run.proofs.OwnLocks.{own_around}
use Rattle.bisync_run.proofs.ToldGrounds.{step_told}
use Rattle.bisync_run.proofs.ordinary.ordinary.Goals as goal

pub returns-in-Err-clause-answers : goal.returns-in-Err-clause-answers
returns-in-Err-clause-answers g c one two work =
    start_answers c.args.opts.now c.args.limits.now (g.W.Work.state c.args.work.now).folder _ c.args.entered.now.digest c.in-Err.end (c.in-Err.ensures.refusal work)

pub returns-in-Err-clause-causes : goal.returns-in-Err-clause-causes
returns-in-Err-clause-causes g c =
    fails _ _ c.in-Err.end (c.in-Err.ensures.causes (g.A.Remote.state c.args.one.now).faults (g.B.Remote.state c.args.two.now).faults (g.S.Sink.state c.args.sink.now).faults)

pub returns-then-is_only-clause-report : goal.returns-then-is_only-clause-report
returns-then-is_only-clause-report g c one two work sink =
    compared_tells (compare_in c.args.opts.now.compare (g.A.Remote.state c.args.one.now).window (g.B.Remote.state c.args.two.now).window) c.in-Ok.started.one c.in-Ok.started.two c.args.opts.now c.args.limits.now (g.W.Work.state c.args.work.now).folder _ c.args.entered.now.digest _ _
    (only_is c.args.opts.now.check_sync (sym c.is_only.ensures ∙ c.if-is_only.true)) (g.W.Work.state c.start.new.work).folder (c.in-Ok.ensures.folder work) c.compare_base.result c.compare_base.ensures

pub returns-then-is_only-clause-causes : goal.returns-then-is_only-clause-causes
returns-then-is_only-clause-causes g c =
    let a = (g.A.Remote.state c.args.one.now).faults in let b = (g.B.Remote.state c.args.two.now).faults in let w = (g.W.Work.state c.args.work.now).faults in let s = (g.S.Sink.state c.args.sink.now).faults in
    let w2 = (g.W.Work.state c.start.new.work).faults in let started = (c.in-Ok.ensures.causes a b s).good refl in
    since (counts a b w s) (counts a b w2 s) (counts a b w2 s) c.compare_base.result started (compared_causes (compare_in c.args.opts.now.compare (g.A.Remote.state c.args.one.now).window (g.B.Remote.state c.args.two.now).window) c.in-Ok.started.one c.in-Ok.started.two (counts a b w2 s) c.compare_base.result c.compare_base.ensures)

pub returns-in-Err-look_ordinary-clause-causes : goal.returns-in-Err-look_ordinary-clause-causes
returns-in-Err-look_ordinary-clause-causes g c =
    let a = (g.A.Remote.state c.args.one.now).faults in let b = (g.B.Remote.state c.args.two.now).faults in let w = (g.W.Work.state c.args.work.now).faults in let s = (g.S.Sink.state c.args.sink.now).faults in
    let w2 = (g.W.Work.state c.start.new.work).faults in let started = (c.in-Ok.ensures.causes a b s).good refl in
    since (counts a b w s) (counts a b w2 s) _ _ started (fails _ _ c.in-Err-look_ordinary.end (c.in-Err-look_ordinary.ensures.causes w2 s))

pub returns-in_default-clause-causes : goal.returns-in_default-clause-causes
returns-in_default-clause-causes g c =
    let a = (g.A.Remote.state c.args.one.now).faults in let b = (g.B.Remote.state c.args.two.now).faults in let w = (g.W.Work.state c.args.work.now).faults in let s = (g.S.Sink.state c.args.sink.now).faults in
    let a2 = (g.A.Remote.state c.look_ordinary.new.one).faults in let b2 = (g.B.Remote.state c.look_ordinary.new.two).faults in let w2 = (g.W.Work.state c.start.new.work).faults in
    let started = (c.in-Ok.ensures.causes a b s).good refl in let looked = (c.in-Ok-look_ordinary.ensures.causes w2 s).good refl in
    since (counts a b w s) (counts a2 b2 w2 s) _ _ (looked ∙ started) (stopped (counts a2 b2 w2 s) OutOfMemory tt)

pub returns-in-Err-plan_lines-clause-trees : goal.returns-in-Err-plan_lines-clause-trees
returns-in-Err-plan_lines-clause-trees g c one two work =
    inl (untouched _ _ _ _ (c.in-Ok-look_ordinary.ensures.one.tree one) (c.in-Ok-look_ordinary.ensures.two.tree two), c.in-Ok.ensures.folder work)

pub returns-in-Err-plan_lines-clause-answers : goal.returns-in-Err-plan_lines-clause-answers
returns-in-Err-plan_lines-clause-answers g c one two work =
    let f = (g.W.Work.state c.args.work.now).folder in let more = not_only c.args.opts.now.check_sync (sym c.is_only.ensures ∙ c.if-is_only.false) in let look = c.in-Ok-look_ordinary.ensures.look one two f c.args.entered.now.digest (c.in-Ok.ensures.starts work) more in
    look.course

pub returns-in-Err-plan_lines-clause-causes : goal.returns-in-Err-plan_lines-clause-causes
returns-in-Err-plan_lines-clause-causes g c =
    let a = (g.A.Remote.state c.args.one.now).faults in let b = (g.B.Remote.state c.args.two.now).faults in let w = (g.W.Work.state c.args.work.now).faults in let s = (g.S.Sink.state c.args.sink.now).faults in
    let a2 = (g.A.Remote.state c.look_ordinary.new.one).faults in let b2 = (g.B.Remote.state c.look_ordinary.new.two).faults in let w2 = (g.W.Work.state c.start.new.work).faults in
    let started = (c.in-Ok.ensures.causes a b s).good refl in let looked = (c.in-Ok-look_ordinary.ensures.causes w2 s).good refl in
    since (counts a b w s) (counts a2 b2 w2 s) _ _ (looked ∙ started) (sunk a2 b2 w2 s (g.S.Sink.state c.plan_lines.new.sink).faults c.in-Err-plan_lines.ensures.cause)

pub returns-then-opts-clause-answers : goal.returns-then-opts-clause-answers
returns-then-opts-clause-answers g c one two work =
    let f = (g.W.Work.state c.args.work.now).folder in let more = not_only c.args.opts.now.check_sync (sym c.is_only.ensures ∙ c.if-is_only.false) in let look = c.in-Ok-look_ordinary.ensures.look one two f c.args.entered.now.digest (c.in-Ok.ensures.starts work) more in
    look.course

pub returns-then-opts-clause-accepted : goal.returns-then-opts-clause-accepted
returns-then-opts-clause-accepted g c one two work =
    let f = (g.W.Work.state c.args.work.now).folder in let more = not_only c.args.opts.now.check_sync (sym c.is_only.ensures ∙ c.if-is_only.false) in let look = c.in-Ok-look_ordinary.ensures.look one two f c.args.entered.now.digest (c.in-Ok.ensures.starts work) more in
    inl look.course

pub returns-then-opts-clause-report : goal.returns-then-opts-clause-report
returns-then-opts-clause-report g c one two work sink =
    let a = g.A.Remote.state c.args.one.now in let b = g.B.Remote.state c.args.two.now in let f = (g.W.Work.state c.args.work.now).folder in
    let more = not_only c.args.opts.now.check_sync (sym c.is_only.ensures ∙ c.if-is_only.false) in let look = c.in-Ok-look_ordinary.ensures.look one two f c.args.entered.now.digest (c.in-Ok.ensures.starts work) more in
    inr (told_held c.args.opts.now c.args.limits.now c.args.entered.now.rules c.args.entered.now.digest a b f c.in-Ok.started.stamp c.in-Ok.started.pair c.in-Ok-look_ordinary.look look (g.S.Sink.state c.args.sink.now).bytes (g.S.Sink.state c.plan_lines.new.sink).bytes (c.in-Ok-plan_lines.ensures.bytes sink))

pub returns-then-opts-clause-causes : goal.returns-then-opts-clause-causes
returns-then-opts-clause-causes g c =
    let a = (g.A.Remote.state c.args.one.now).faults in let b = (g.B.Remote.state c.args.two.now).faults in let w = (g.W.Work.state c.args.work.now).faults in let s = (g.S.Sink.state c.args.sink.now).faults in
    let a2 = (g.A.Remote.state c.look_ordinary.new.one).faults in let b2 = (g.B.Remote.state c.look_ordinary.new.two).faults in let w2 = (g.W.Work.state c.start.new.work).faults in
    let started = (c.in-Ok.ensures.causes a b s).good refl in let looked = (c.in-Ok-look_ordinary.ensures.causes w2 s).good refl in let s2 = (g.S.Sink.state c.plan_lines.new.sink).faults in
    let told = told_same a b w s a2 b2 w2 s2 started looked (c.in-Ok-plan_lines.ensures.cause.kept refl) in
    well _ _ DryRun told

pub returns-in-Ok-carry_out_ordinary-clause-base : goal.returns-in-Ok-carry_out_ordinary-clause-base
returns-in-Ok-carry_out_ordinary-clause-base g c one two work =
    let a = g.A.Remote.state c.args.one.now in let b = g.B.Remote.state c.args.two.now in let a2 = g.A.Remote.state c.look_ordinary.new.one in let b2 = g.B.Remote.state c.look_ordinary.new.two in
    let looked = untouched a b a2 b2 (c.in-Ok-look_ordinary.ensures.one.tree one) (c.in-Ok-look_ordinary.ensures.two.tree two) in
    let windows = same_windows a b a2 b2 c.in-Ok-look_ordinary.ensures.one.window c.in-Ok-look_ordinary.ensures.two.window in let f = (g.W.Work.state c.args.work.now).folder in
    let more = not_only c.args.opts.now.check_sync (sym c.is_only.ensures ∙ c.if-is_only.false) in let look = c.in-Ok-look_ordinary.ensures.look one two f c.args.entered.now.digest (c.in-Ok.ensures.starts work) more in let small : c.args.limits.now.listing < 2 ^ 64 = omega arith in
    let fits = are_within c.args.limits.now (prepared_of c.in-Ok.started.stamp c.in-Ok-look_ordinary.look) c.in-Ok-look_ordinary.ensures.within1 c.in-Ok-look_ordinary.ensures.within2 in
    let ready = prepared_held c.args.opts.now c.args.limits.now c.args.entered.now.rules c.args.entered.now.digest a b f c.in-Ok.started.stamp c.in-Ok.started.pair c.in-Ok-look_ordinary.look look a2 b2 looked windows (g.W.Work.state c.start.new.work).folder (c.in-Ok.ensures.folder work) small fits in
    base_held c.args.opts.now c.args.limits.now c.args.entered.now.rules c.args.entered.now.digest a b f c.in-Ok.started.stamp c.in-Ok.started.pair c.in-Ok-look_ordinary.look look a2 b2 looked windows (g.W.Work.state c.start.new.work).folder (c.in-Ok.ensures.folder work) (g.W.Work.state c.carry_out_ordinary.new.work).folder
    (by_side (g.A.Remote.state c.carry_out_ordinary.new.one) (g.B.Remote.state c.carry_out_ordinary.new.two)) c.if-opts.false
    (c.in-Ok-carry_out_ordinary.ensures.base one two work c.args.limits.now.listing look.course.base ready)

pub returns-in-Ok-carry_out_ordinary-clause-trees : goal.returns-in-Ok-carry_out_ordinary-clause-trees
returns-in-Ok-carry_out_ordinary-clause-trees g c one two work =
    let a = g.A.Remote.state c.args.one.now in let b = g.B.Remote.state c.args.two.now in let a2 = g.A.Remote.state c.look_ordinary.new.one in let b2 = g.B.Remote.state c.look_ordinary.new.two in
    let looked = untouched a b a2 b2 (c.in-Ok-look_ordinary.ensures.one.tree one) (c.in-Ok-look_ordinary.ensures.two.tree two) in
    let windows = same_windows a b a2 b2 c.in-Ok-look_ordinary.ensures.one.window c.in-Ok-look_ordinary.ensures.two.window in let f = (g.W.Work.state c.args.work.now).folder in
    let more = not_only c.args.opts.now.check_sync (sym c.is_only.ensures ∙ c.if-is_only.false) in let look = c.in-Ok-look_ordinary.ensures.look one two f c.args.entered.now.digest (c.in-Ok.ensures.starts work) more in
    trees_held c.args.opts.now c.args.limits.now c.args.entered.now.rules c.args.entered.now.digest a b f c.in-Ok.started.stamp c.in-Ok.started.pair c.in-Ok-look_ordinary.look look a2 b2 looked windows c.if-opts.false
    (g.W.Work.state c.carry_out_ordinary.new.work).folder (by_side (g.A.Remote.state c.carry_out_ordinary.new.one) (g.B.Remote.state c.carry_out_ordinary.new.two)) (c.in-Ok-carry_out_ordinary.ensures.part one two)

pub returns-in-Ok-carry_out_ordinary-clause-done : goal.returns-in-Ok-carry_out_ordinary-clause-done
returns-in-Ok-carry_out_ordinary-clause-done g c one two work dry more =
    let a = g.A.Remote.state c.args.one.now in let b = g.B.Remote.state c.args.two.now in let a2 = g.A.Remote.state c.look_ordinary.new.one in let b2 = g.B.Remote.state c.look_ordinary.new.two in
    let looked = untouched a b a2 b2 (c.in-Ok-look_ordinary.ensures.one.tree one) (c.in-Ok-look_ordinary.ensures.two.tree two) in
    let windows = same_windows a b a2 b2 c.in-Ok-look_ordinary.ensures.one.window c.in-Ok-look_ordinary.ensures.two.window in let f = (g.W.Work.state c.args.work.now).folder in
    let look = c.in-Ok-look_ordinary.ensures.look one two f c.args.entered.now.digest (c.in-Ok.ensures.starts work) more in let small : c.args.limits.now.listing < 2 ^ 64 = omega arith in
    let fits = are_within c.args.limits.now (prepared_of c.in-Ok.started.stamp c.in-Ok-look_ordinary.look) c.in-Ok-look_ordinary.ensures.within1 c.in-Ok-look_ordinary.ensures.within2 in
    let ready = prepared_held c.args.opts.now c.args.limits.now c.args.entered.now.rules c.args.entered.now.digest a b f c.in-Ok.started.stamp c.in-Ok.started.pair c.in-Ok-look_ordinary.look look a2 b2 looked windows (g.W.Work.state c.start.new.work).folder (c.in-Ok.ensures.folder work) small fits in
    done_held c.args.opts.now c.args.limits.now c.args.entered.now.rules c.args.entered.now.digest a b f c.in-Ok.started.stamp c.in-Ok.started.pair c.in-Ok-look_ordinary.look look a2 b2 looked windows (g.W.Work.state c.start.new.work).folder (c.in-Ok.ensures.folder work) (g.W.Work.state c.carry_out_ordinary.new.work).folder
    (by_side (g.A.Remote.state c.carry_out_ordinary.new.one) (g.B.Remote.state c.carry_out_ordinary.new.two))
    (c.in-Ok-carry_out_ordinary.ensures.next_set work c.args.limits.now.listing look.course.base ready) (c.in-Ok-carry_out_ordinary.ensures.rest work) (c.in-Ok-carry_out_ordinary.ensures.done one two)

pub returns-in-Ok-carry_out_ordinary-clause-good : goal.returns-in-Ok-carry_out_ordinary-clause-good
returns-in-Ok-carry_out_ordinary-clause-good g c one two work =
    let a = g.A.Remote.state c.args.one.now in let b = g.B.Remote.state c.args.two.now in let f = (g.W.Work.state c.args.work.now).folder in
    let more = not_only c.args.opts.now.check_sync (sym c.is_only.ensures ∙ c.if-is_only.false) in let look = c.in-Ok-look_ordinary.ensures.look one two f c.args.entered.now.digest (c.in-Ok.ensures.starts work) more in
    numbers_held c.args.opts.now c.args.limits.now c.args.entered.now.rules c.args.entered.now.digest a b f c.in-Ok.started.stamp c.in-Ok.started.pair c.in-Ok-look_ordinary.look look c.if-opts.false more c.in-Ok-carry_out_ordinary.changes.one c.in-Ok-carry_out_ordinary.changes.two c.in-Ok-carry_out_ordinary.ensures.changes.0 c.in-Ok-carry_out_ordinary.ensures.changes.1

pub returns-in-Ok-carry_out_ordinary-clause-answers : goal.returns-in-Ok-carry_out_ordinary-clause-answers
returns-in-Ok-carry_out_ordinary-clause-answers g c one two work =
    let f = (g.W.Work.state c.args.work.now).folder in let more = not_only c.args.opts.now.check_sync (sym c.is_only.ensures ∙ c.if-is_only.false) in let look = c.in-Ok-look_ordinary.ensures.look one two f c.args.entered.now.digest (c.in-Ok.ensures.starts work) more in
    look.course

pub returns-in-Ok-carry_out_ordinary-clause-accepted : goal.returns-in-Ok-carry_out_ordinary-clause-accepted
returns-in-Ok-carry_out_ordinary-clause-accepted g c one two work =
    let f = (g.W.Work.state c.args.work.now).folder in let more = not_only c.args.opts.now.check_sync (sym c.is_only.ensures ∙ c.if-is_only.false) in let look = c.in-Ok-look_ordinary.ensures.look one two f c.args.entered.now.digest (c.in-Ok.ensures.starts work) more in
    inl look.course

pub returns-in-Ok-carry_out_ordinary-clause-lock_new : goal.returns-in-Ok-carry_out_ordinary-clause-lock_new
returns-in-Ok-carry_out_ordinary-clause-lock_new g c work sure =
    subst (λ (f : WorkFolder). KeepsLockNew f (g.W.Work.state c.carry_out_ordinary.new.work).folder) (c.in-Ok.ensures.folder work) (c.in-Ok-carry_out_ordinary.ensures.lock_new work (inl refl))

pub returns-in-Ok-carry_out_ordinary-clause-report : goal.returns-in-Ok-carry_out_ordinary-clause-report
returns-in-Ok-carry_out_ordinary-clause-report g c one two work sink =
    let a = g.A.Remote.state c.args.one.now in let b = g.B.Remote.state c.args.two.now in let f = (g.W.Work.state c.args.work.now).folder in
    let more = not_only c.args.opts.now.check_sync (sym c.is_only.ensures ∙ c.if-is_only.false) in let look = c.in-Ok-look_ordinary.ensures.look one two f c.args.entered.now.digest (c.in-Ok.ensures.starts work) more in
    inr (told_held c.args.opts.now c.args.limits.now c.args.entered.now.rules c.args.entered.now.digest a b f c.in-Ok.started.stamp c.in-Ok.started.pair c.in-Ok-look_ordinary.look look (g.S.Sink.state c.args.sink.now).bytes (g.S.Sink.state c.plan_lines.new.sink).bytes (c.in-Ok-plan_lines.ensures.bytes sink))

pub returns-in-Ok-carry_out_ordinary-clause-causes : goal.returns-in-Ok-carry_out_ordinary-clause-causes
returns-in-Ok-carry_out_ordinary-clause-causes g c =
    let a = (g.A.Remote.state c.args.one.now).faults in let b = (g.B.Remote.state c.args.two.now).faults in let w = (g.W.Work.state c.args.work.now).faults in let s = (g.S.Sink.state c.args.sink.now).faults in
    let a2 = (g.A.Remote.state c.look_ordinary.new.one).faults in let b2 = (g.B.Remote.state c.look_ordinary.new.two).faults in let w2 = (g.W.Work.state c.start.new.work).faults in
    let s2 = (g.S.Sink.state c.plan_lines.new.sink).faults in
    let told = told_same a b w s a2 b2 w2 s2 ((c.in-Ok.ensures.causes a b s).good refl) ((c.in-Ok-look_ordinary.ensures.causes w2 s).good refl) (c.in-Ok-plan_lines.ensures.cause.kept refl) in
    let a3 = (g.A.Remote.state c.carry_out_ordinary.new.one).faults in let b3 = (g.B.Remote.state c.carry_out_ordinary.new.two).faults in let w3 = (g.W.Work.state c.carry_out_ordinary.new.work).faults in
    well _ _ (Done c.in-Ok-carry_out_ordinary.changes.one c.in-Ok-carry_out_ordinary.changes.two) (done_same a2 b2 w2 a3 b3 w3 s2 c.in-Ok-carry_out_ordinary.changes c.in-Ok-carry_out_ordinary.ensures.causes ∙ told)

pub returns-clause-base : goal.returns-clause-base
returns-clause-base g c one two work =
    let a = g.A.Remote.state c.args.one.now in let b = g.B.Remote.state c.args.two.now in let a2 = g.A.Remote.state c.look_ordinary.new.one in let b2 = g.B.Remote.state c.look_ordinary.new.two in
    let looked = untouched a b a2 b2 (c.in-Ok-look_ordinary.ensures.one.tree one) (c.in-Ok-look_ordinary.ensures.two.tree two) in
    let windows = same_windows a b a2 b2 c.in-Ok-look_ordinary.ensures.one.window c.in-Ok-look_ordinary.ensures.two.window in let f = (g.W.Work.state c.args.work.now).folder in
    let more = not_only c.args.opts.now.check_sync (sym c.is_only.ensures ∙ c.if-is_only.false) in let look = c.in-Ok-look_ordinary.ensures.look one two f c.args.entered.now.digest (c.in-Ok.ensures.starts work) more in let small : c.args.limits.now.listing < 2 ^ 64 = omega arith in
    let fits = are_within c.args.limits.now (prepared_of c.in-Ok.started.stamp c.in-Ok-look_ordinary.look) c.in-Ok-look_ordinary.ensures.within1 c.in-Ok-look_ordinary.ensures.within2 in
    let ready = prepared_held c.args.opts.now c.args.limits.now c.args.entered.now.rules c.args.entered.now.digest a b f c.in-Ok.started.stamp c.in-Ok.started.pair c.in-Ok-look_ordinary.look look a2 b2 looked windows (g.W.Work.state c.start.new.work).folder (c.in-Ok.ensures.folder work) small fits in
    base_held c.args.opts.now c.args.limits.now c.args.entered.now.rules c.args.entered.now.digest a b f c.in-Ok.started.stamp c.in-Ok.started.pair c.in-Ok-look_ordinary.look look a2 b2 looked windows (g.W.Work.state c.start.new.work).folder (c.in-Ok.ensures.folder work) (g.W.Work.state c.carry_out_ordinary.new.work).folder
    (by_side (g.A.Remote.state c.carry_out_ordinary.new.one) (g.B.Remote.state c.carry_out_ordinary.new.two)) c.if-opts.false
    (c.in-Err-carry_out_ordinary.ensures.base one two work c.args.limits.now.listing look.course.base ready)

pub returns-clause-trees : goal.returns-clause-trees
returns-clause-trees g c one two work =
    let a = g.A.Remote.state c.args.one.now in let b = g.B.Remote.state c.args.two.now in let a2 = g.A.Remote.state c.look_ordinary.new.one in let b2 = g.B.Remote.state c.look_ordinary.new.two in
    let looked = untouched a b a2 b2 (c.in-Ok-look_ordinary.ensures.one.tree one) (c.in-Ok-look_ordinary.ensures.two.tree two) in
    let windows = same_windows a b a2 b2 c.in-Ok-look_ordinary.ensures.one.window c.in-Ok-look_ordinary.ensures.two.window in let f = (g.W.Work.state c.args.work.now).folder in
    let more = not_only c.args.opts.now.check_sync (sym c.is_only.ensures ∙ c.if-is_only.false) in let look = c.in-Ok-look_ordinary.ensures.look one two f c.args.entered.now.digest (c.in-Ok.ensures.starts work) more in
    trees_held c.args.opts.now c.args.limits.now c.args.entered.now.rules c.args.entered.now.digest a b f c.in-Ok.started.stamp c.in-Ok.started.pair c.in-Ok-look_ordinary.look look a2 b2 looked windows c.if-opts.false
    (g.W.Work.state c.carry_out_ordinary.new.work).folder (by_side (g.A.Remote.state c.carry_out_ordinary.new.one) (g.B.Remote.state c.carry_out_ordinary.new.two)) (c.in-Err-carry_out_ordinary.ensures.part one two)

pub returns-clause-answers : goal.returns-clause-answers
returns-clause-answers g c one two work =
    let a = g.A.Remote.state c.args.one.now in let b = g.B.Remote.state c.args.two.now in let a2 = g.A.Remote.state c.look_ordinary.new.one in let b2 = g.B.Remote.state c.look_ordinary.new.two in
    let windows = same_windows a b a2 b2 c.in-Ok-look_ordinary.ensures.one.window c.in-Ok-look_ordinary.ensures.two.window in
    let found = c.in-Err-carry_out_ordinary.ensures.found
    (planned_finds (by_side g.A.Remote.tells g.B.Remote.tells) c.args.opts.now c.args.entered.now.rules a b a2 b2 c.in-Ok.started c.in-Ok-look_ordinary.look
    (looked_told g.A.Remote.tells g.B.Remote.tells a b a2 b2 c.in-Ok-look_ordinary.ensures.one.tree c.in-Ok-look_ordinary.ensures.two.tree) windows c.in-Ok-look_ordinary.ensures.planned) in
    let more = not_only c.args.opts.now.check_sync (sym c.is_only.ensures ∙ c.if-is_only.false) in let look = c.in-Ok-look_ordinary.ensures.look one two (g.W.Work.state c.args.work.now).folder c.args.entered.now.digest (c.in-Ok.ensures.starts work) more in
    device_answers c.args.opts.now c.args.limits.now (g.W.Work.state c.args.work.now).folder _ c.args.entered.now.digest look.course.plans.one c.in-Err-carry_out_ordinary.end
    (told_device (by_side g.A.Remote.tells g.B.Remote.tells) one two c.in-Err-carry_out_ordinary.end c.in-Err-carry_out_ordinary.ensures.end found)

pub returns-clause-lock_new : goal.returns-clause-lock_new
returns-clause-lock_new g c work (inl ok) = false_true ok
returns-clause-lock_new g c work (inr never) =
    lock_new_held (g.W.Work.state c.args.work.now).folder (g.W.Work.state c.start.new.work).folder (g.W.Work.state c.carry_out_ordinary.new.work).folder (g.W.Work.state c.args.work.now).faults (g.W.Work.state c.start.new.work).faults (g.W.Work.state c.carry_out_ordinary.new.work).faults
    (c.in-Ok.ensures.folder work) (work_same (g.W.Work.state c.args.work.now).faults (g.W.Work.state c.start.new.work).faults c.in-Ok.started c.in-Ok.ensures.causes) (λ still. c.in-Err-carry_out_ordinary.ensures.lock_new work (inr still)) never

pub returns-clause-report : goal.returns-clause-report
returns-clause-report g c one two work sink =
    let a = g.A.Remote.state c.args.one.now in let b = g.B.Remote.state c.args.two.now in let f = (g.W.Work.state c.args.work.now).folder in
    let more = not_only c.args.opts.now.check_sync (sym c.is_only.ensures ∙ c.if-is_only.false) in let look = c.in-Ok-look_ordinary.ensures.look one two f c.args.entered.now.digest (c.in-Ok.ensures.starts work) more in
    let stands = ordinary_stands c.args.opts.now c.args.limits.now _ c.args.entered.now.digest f (g.W.Work.state c.start.new.work).folder (c.in-Ok.ensures.folder work) c.in-Ok.started (c.in-Ok.ensures.starts work) c.in-Ok-look_ordinary.look
    c.in-Ok-look_ordinary.ensures.compare (omega arith) (are_within c.args.limits.now (prepared_of c.in-Ok.started.stamp c.in-Ok-look_ordinary.look) c.in-Ok-look_ordinary.ensures.within1 c.in-Ok-look_ordinary.ensures.within2)
    c.in-Err-carry_out_ordinary.end (g.W.Work.state c.carry_out_ordinary.new.work).folder (c.in-Err-carry_out_ordinary.ensures.stands work) in
    inr (inr (step_may_change c.in-Err-carry_out_ordinary.end c.in-Err-carry_out_ordinary.ensures.end, c.if-opts.false, stands, told_held c.args.opts.now c.args.limits.now c.args.entered.now.rules c.args.entered.now.digest a b f c.in-Ok.started.stamp c.in-Ok.started.pair c.in-Ok-look_ordinary.look look (g.S.Sink.state c.args.sink.now).bytes (g.S.Sink.state c.plan_lines.new.sink).bytes (c.in-Ok-plan_lines.ensures.bytes sink)))

pub returns-clause-told : goal.returns-clause-told
returns-clause-told g c =
    let a = g.A.Remote.state c.args.one.now in let b = g.B.Remote.state c.args.two.now in let a2 = g.A.Remote.state c.look_ordinary.new.one in let b2 = g.B.Remote.state c.look_ordinary.new.two in
    let windows = same_windows a b a2 b2 c.in-Ok-look_ordinary.ensures.one.window c.in-Ok-look_ordinary.ensures.two.window in
    step_told (by_side g.A.Remote.tells g.B.Remote.tells) (by_side a b) c.in-Err-carry_out_ordinary.end c.in-Err-carry_out_ordinary.ensures.end c.in-Err-carry_out_ordinary.ensures.read
    (c.in-Err-carry_out_ordinary.ensures.found
    (planned_finds (by_side g.A.Remote.tells g.B.Remote.tells) c.args.opts.now c.args.entered.now.rules a b a2 b2 c.in-Ok.started c.in-Ok-look_ordinary.look
    (looked_told g.A.Remote.tells g.B.Remote.tells a b a2 b2 c.in-Ok-look_ordinary.ensures.one.tree c.in-Ok-look_ordinary.ensures.two.tree) windows c.in-Ok-look_ordinary.ensures.planned))

pub returns-clause-causes : goal.returns-clause-causes
returns-clause-causes g c =
    let a = (g.A.Remote.state c.args.one.now).faults in let b = (g.B.Remote.state c.args.two.now).faults in let w = (g.W.Work.state c.args.work.now).faults in let s = (g.S.Sink.state c.args.sink.now).faults in
    let a2 = (g.A.Remote.state c.look_ordinary.new.one).faults in let b2 = (g.B.Remote.state c.look_ordinary.new.two).faults in let w2 = (g.W.Work.state c.start.new.work).faults in
    let s2 = (g.S.Sink.state c.plan_lines.new.sink).faults in
    let told = told_same a b w s a2 b2 w2 s2 ((c.in-Ok.ensures.causes a b s).good refl) ((c.in-Ok-look_ordinary.ensures.causes w2 s).good refl) (c.in-Ok-plan_lines.ensures.cause.kept refl) in
    let a3 = (g.A.Remote.state c.carry_out_ordinary.new.one).faults in let b3 = (g.B.Remote.state c.carry_out_ordinary.new.two).faults in let w3 = (g.W.Work.state c.carry_out_ordinary.new.work).faults in
    since (counts a b w s) (counts a2 b2 w2 s2) _ _ told (unsunk a2 b2 w2 a3 b3 w3 s2 c.in-Err-carry_out_ordinary.end c.in-Err-carry_out_ordinary.ensures.end c.in-Err-carry_out_ordinary.ensures.causes)

pub returns-in_default-clause-trees : goal.returns-in_default-clause-trees
returns-in_default-clause-trees g c one two work =
    inl (untouched _ _ _ _ (c.in-Ok-look_ordinary.ensures.one.tree one) (c.in-Ok-look_ordinary.ensures.two.tree two), c.in-Ok.ensures.folder work)

pub returns-in_default-clause-report : goal.returns-in_default-clause-report
returns-in_default-clause-report g c one two work sink =
    inr (inl (refl, untouched _ _ _ _ (c.in-Ok-look_ordinary.ensures.one.tree one) (c.in-Ok-look_ordinary.ensures.two.tree two), c.in-Ok.ensures.folder work))

pub returns-then-opts-clause-trees : goal.returns-then-opts-clause-trees
returns-then-opts-clause-trees g c one two work =
    inl (untouched _ _ _ _ (c.in-Ok-look_ordinary.ensures.one.tree one) (c.in-Ok-look_ordinary.ensures.two.tree two), c.in-Ok.ensures.folder work)

pub returns-in-Ok-carry_out_ordinary-clause-settled : goal.returns-in-Ok-carry_out_ordinary-clause-settled
returns-in-Ok-carry_out_ordinary-clause-settled g c work settled =
    c.in-Ok-carry_out_ordinary.ensures.settled work (subst IsSettled (sym (c.in-Ok.ensures.folder work)) settled)

pub returns-clause-settled : goal.returns-clause-settled
returns-clause-settled g c work settled =
    c.in-Err-carry_out_ordinary.ensures.settled work (subst IsSettled (sym (c.in-Ok.ensures.folder work)) settled)

pub returns-clause-kind : goal.returns-clause-kind
returns-clause-kind g c =
    step_kind c.args.opts.now (compare_in c.args.opts.now.compare (g.A.Remote.state c.args.one.now).window (g.B.Remote.state c.args.two.now).window)
    (not_only c.args.opts.now.check_sync (sym c.is_only.ensures ∙ c.if-is_only.false)) c.in-Err-carry_out_ordinary.end c.in-Err-carry_out_ordinary.ensures.end

-- # What the work folder alone tells

pub returns-in-Err-clause-begins : goal.returns-in-Err-clause-begins
returns-in-Err-clause-begins g c work =
    let f = (g.W.Work.state c.args.work.now).folder in let s = sides_of c.args.opts.now.compare c.args.entered.now.rules (g.A.Remote.state c.args.one.now) (g.B.Remote.state c.args.two.now) in
    start_begins c.args.opts.now c.args.limits.now f s c.args.entered.now.digest c.in-Err.end (c.in-Err.ensures.refusal work)

pub returns-then-is_only-clause-begins : goal.returns-then-is_only-clause-begins
returns-then-is_only-clause-begins g c work =
    let f = (g.W.Work.state c.args.work.now).folder in let s = sides_of c.args.opts.now.compare c.args.entered.now.rules (g.A.Remote.state c.args.one.now) (g.B.Remote.state c.args.two.now) in
    compared_begins c.args.opts.now c.args.limits.now f s c.args.entered.now.digest c.in-Ok.started (c.in-Ok.ensures.starts work)
    (only_is c.args.opts.now.check_sync (sym c.is_only.ensures ∙ c.if-is_only.true)) c.compare_base.result c.compare_base.ensures

pub returns-then-is_only-clause-begun : goal.returns-then-is_only-clause-begun
returns-then-is_only-clause-begun g c work =
    let f = (g.W.Work.state c.args.work.now).folder in let s = sides_of c.args.opts.now.compare c.args.entered.now.rules (g.A.Remote.state c.args.one.now) (g.B.Remote.state c.args.two.now) in
    compared_begun c.args.opts.now c.args.limits.now f s c.args.entered.now.digest c.in-Ok.started (c.in-Ok.ensures.starts work)
    (only_is c.args.opts.now.check_sync (sym c.is_only.ensures ∙ c.if-is_only.true)) c.compare_base.result c.compare_base.ensures

pub returns-in-Err-look_ordinary-clause-begins : goal.returns-in-Err-look_ordinary-clause-begins
returns-in-Err-look_ordinary-clause-begins g c work =
    let f = (g.W.Work.state c.args.work.now).folder in let s = sides_of c.args.opts.now.compare c.args.entered.now.rules (g.A.Remote.state c.args.one.now) (g.B.Remote.state c.args.two.now) in
    let more = not_only c.args.opts.now.check_sync (sym c.is_only.ensures ∙ c.if-is_only.false) in
    look_begins c.args.opts.now c.args.limits.now f s c.args.entered.now.digest c.in-Ok.started (c.in-Ok.ensures.starts work) more _ c.in-Err-look_ordinary.end c.in-Err-look_ordinary.ensures.kind c.in-Err-look_ordinary.ensures.prior c.in-Err-look_ordinary.ensures.apart

pub returns-in-Err-plan_lines-clause-begins : goal.returns-in-Err-plan_lines-clause-begins
returns-in-Err-plan_lines-clause-begins g c work =
    let f = (g.W.Work.state c.args.work.now).folder in let s = sides_of c.args.opts.now.compare c.args.entered.now.rules (g.A.Remote.state c.args.one.now) (g.B.Remote.state c.args.two.now) in
    let more = not_only c.args.opts.now.check_sync (sym c.is_only.ensures ∙ c.if-is_only.false) in
    begun_by c.args.opts.now c.args.limits.now f s c.args.entered.now.digest c.in-Ok.started (c.in-Ok.ensures.starts work) more c.in-Ok-look_ordinary.ensures.had_prior

pub returns-then-opts-clause-begins : goal.returns-then-opts-clause-begins
returns-then-opts-clause-begins g c work =
    let f = (g.W.Work.state c.args.work.now).folder in let s = sides_of c.args.opts.now.compare c.args.entered.now.rules (g.A.Remote.state c.args.one.now) (g.B.Remote.state c.args.two.now) in
    let more = not_only c.args.opts.now.check_sync (sym c.is_only.ensures ∙ c.if-is_only.false) in
    begun_by c.args.opts.now c.args.limits.now f s c.args.entered.now.digest c.in-Ok.started (c.in-Ok.ensures.starts work) more c.in-Ok-look_ordinary.ensures.had_prior

pub returns-then-opts-clause-begun : goal.returns-then-opts-clause-begun
returns-then-opts-clause-begun g c work =
    let f = (g.W.Work.state c.args.work.now).folder in let s = sides_of c.args.opts.now.compare c.args.entered.now.rules (g.A.Remote.state c.args.one.now) (g.B.Remote.state c.args.two.now) in
    let more = not_only c.args.opts.now.check_sync (sym c.is_only.ensures ∙ c.if-is_only.false) in
    inl (begun_by c.args.opts.now c.args.limits.now f s c.args.entered.now.digest c.in-Ok.started (c.in-Ok.ensures.starts work) more c.in-Ok-look_ordinary.ensures.had_prior)

pub returns-in-Ok-carry_out_ordinary-clause-begins : goal.returns-in-Ok-carry_out_ordinary-clause-begins
returns-in-Ok-carry_out_ordinary-clause-begins g c work =
    let f = (g.W.Work.state c.args.work.now).folder in let s = sides_of c.args.opts.now.compare c.args.entered.now.rules (g.A.Remote.state c.args.one.now) (g.B.Remote.state c.args.two.now) in
    let more = not_only c.args.opts.now.check_sync (sym c.is_only.ensures ∙ c.if-is_only.false) in
    begun_by c.args.opts.now c.args.limits.now f s c.args.entered.now.digest c.in-Ok.started (c.in-Ok.ensures.starts work) more c.in-Ok-look_ordinary.ensures.had_prior

pub returns-in-Ok-carry_out_ordinary-clause-begun : goal.returns-in-Ok-carry_out_ordinary-clause-begun
returns-in-Ok-carry_out_ordinary-clause-begun g c work =
    let f = (g.W.Work.state c.args.work.now).folder in let s = sides_of c.args.opts.now.compare c.args.entered.now.rules (g.A.Remote.state c.args.one.now) (g.B.Remote.state c.args.two.now) in
    let more = not_only c.args.opts.now.check_sync (sym c.is_only.ensures ∙ c.if-is_only.false) in
    inl (begun_by c.args.opts.now c.args.limits.now f s c.args.entered.now.digest c.in-Ok.started (c.in-Ok.ensures.starts work) more c.in-Ok-look_ordinary.ensures.had_prior)

pub returns-clause-begins : goal.returns-clause-begins
returns-clause-begins g c work =
    let f = (g.W.Work.state c.args.work.now).folder in let s = sides_of c.args.opts.now.compare c.args.entered.now.rules (g.A.Remote.state c.args.one.now) (g.B.Remote.state c.args.two.now) in
    let more = not_only c.args.opts.now.check_sync (sym c.is_only.ensures ∙ c.if-is_only.false) in
    step_begins c.args.opts.now c.args.limits.now f s c.args.entered.now.digest (begun_by c.args.opts.now c.args.limits.now f s c.args.entered.now.digest c.in-Ok.started (c.in-Ok.ensures.starts work) more c.in-Ok-look_ordinary.ensures.had_prior) c.in-Err-carry_out_ordinary.end c.in-Err-carry_out_ordinary.ensures.end

pub returns-in-Ok-carry_out_ordinary-clause-folder_base : goal.returns-in-Ok-carry_out_ordinary-clause-folder_base
returns-in-Ok-carry_out_ordinary-clause-folder_base g c work =
    let f = (g.W.Work.state c.args.work.now).folder in let f2 = (g.W.Work.state c.start.new.work).folder in
    let s = sides_of c.args.opts.now.compare c.args.entered.now.rules (g.A.Remote.state c.args.one.now) (g.B.Remote.state c.args.two.now) in let start = c.in-Ok.ensures.starts work in
    let more = not_only c.args.opts.now.check_sync (sym c.is_only.ensures ∙ c.if-is_only.false) in
    let begun = begun_by c.args.opts.now c.args.limits.now f s c.args.entered.now.digest c.in-Ok.started start more c.in-Ok-look_ordinary.ensures.had_prior in
    let ready = ready_to c.args.opts.now c.args.limits.now _ c.args.entered.now.digest f f2 (c.in-Ok.ensures.folder work) c.in-Ok.started start c.in-Ok-look_ordinary.look c.in-Ok-look_ordinary.ensures.compare (omega arith)
    (are_within c.args.limits.now (prepared_of c.in-Ok.started.stamp c.in-Ok-look_ordinary.look) c.in-Ok-look_ordinary.ensures.within1 c.in-Ok-look_ordinary.ensures.within2) in
    kept_or_next c.args.opts.now c.args.limits.now _ c.args.entered.now.digest f f2 (c.in-Ok.ensures.folder work) c.in-Ok.started start c.in-Ok-look_ordinary.look c.in-Ok-look_ordinary.ensures.compare
    (g.W.Work.state c.carry_out_ordinary.new.work).folder _ s begun (c.in-Ok-carry_out_ordinary.ensures.folder_base work c.args.limits.now.listing start.base ready)

pub returns-in-Ok-carry_out_ordinary-clause-folder_next : goal.returns-in-Ok-carry_out_ordinary-clause-folder_next
returns-in-Ok-carry_out_ordinary-clause-folder_next g c work dry more =
    let f = (g.W.Work.state c.args.work.now).folder in let f2 = (g.W.Work.state c.start.new.work).folder in let start = c.in-Ok.ensures.starts work in
    let small : c.args.limits.now.listing < 2 ^ 64 = omega arith in
    let fits = are_within c.args.limits.now (prepared_of c.in-Ok.started.stamp c.in-Ok-look_ordinary.look) c.in-Ok-look_ordinary.ensures.within1 c.in-Ok-look_ordinary.ensures.within2 in
    let ready = ready_to c.args.opts.now c.args.limits.now _ c.args.entered.now.digest f f2 (c.in-Ok.ensures.folder work) c.in-Ok.started start c.in-Ok-look_ordinary.look c.in-Ok-look_ordinary.ensures.compare small fits in
    next_in_place c.args.opts.now c.args.limits.now _ c.args.entered.now.digest f f2 (c.in-Ok.ensures.folder work) c.in-Ok.started start c.in-Ok-look_ordinary.look c.in-Ok-look_ordinary.ensures.compare
    (g.W.Work.state c.carry_out_ordinary.new.work).folder (c.in-Ok-carry_out_ordinary.ensures.next_set work c.args.limits.now.listing start.base ready)

pub returns-clause-folder_base : goal.returns-clause-folder_base
returns-clause-folder_base g c work =
    let f = (g.W.Work.state c.args.work.now).folder in let f2 = (g.W.Work.state c.start.new.work).folder in
    let s = sides_of c.args.opts.now.compare c.args.entered.now.rules (g.A.Remote.state c.args.one.now) (g.B.Remote.state c.args.two.now) in let start = c.in-Ok.ensures.starts work in
    let more = not_only c.args.opts.now.check_sync (sym c.is_only.ensures ∙ c.if-is_only.false) in
    let begun = begun_by c.args.opts.now c.args.limits.now f s c.args.entered.now.digest c.in-Ok.started start more c.in-Ok-look_ordinary.ensures.had_prior in
    let ready = ready_to c.args.opts.now c.args.limits.now _ c.args.entered.now.digest f f2 (c.in-Ok.ensures.folder work) c.in-Ok.started start c.in-Ok-look_ordinary.look c.in-Ok-look_ordinary.ensures.compare (omega arith)
    (are_within c.args.limits.now (prepared_of c.in-Ok.started.stamp c.in-Ok-look_ordinary.look) c.in-Ok-look_ordinary.ensures.within1 c.in-Ok-look_ordinary.ensures.within2) in
    kept_or_next c.args.opts.now c.args.limits.now _ c.args.entered.now.digest f f2 (c.in-Ok.ensures.folder work) c.in-Ok.started start c.in-Ok-look_ordinary.look c.in-Ok-look_ordinary.ensures.compare
    (g.W.Work.state c.carry_out_ordinary.new.work).folder _ s begun (c.in-Err-carry_out_ordinary.ensures.folder_base work c.args.limits.now.listing start.base ready)

pub returns-clause-falls_as : goal.returns-clause-falls_as
returns-clause-falls_as g c work never =
    falls_as_held _ (g.W.Work.state c.start.new.work).folder _ _ (g.W.Work.state c.start.new.work).faults (g.W.Work.state c.carry_out_ordinary.new.work).faults (c.in-Ok.ensures.folder work)
    (work_same (g.W.Work.state c.args.work.now).faults (g.W.Work.state c.start.new.work).faults c.in-Ok.started c.in-Ok.ensures.causes) (c.in-Err-carry_out_ordinary.ensures.falls_as work) never

pub returns-in-Ok-carry_out_ordinary-clause-set_back : goal.returns-in-Ok-carry_out_ordinary-clause-set_back
returns-in-Ok-carry_out_ordinary-clause-set_back g c work =
    ordinary_set_back c.args.opts.now c.args.limits.now _ c.args.entered.now.digest (g.W.Work.state c.args.work.now).folder (g.W.Work.state c.start.new.work).folder (c.in-Ok.ensures.folder work) c.in-Ok.started (c.in-Ok.ensures.starts work) c.in-Ok-look_ordinary.look
    c.in-Ok-look_ordinary.ensures.compare (omega arith) (are_within c.args.limits.now (prepared_of c.in-Ok.started.stamp c.in-Ok-look_ordinary.look) c.in-Ok-look_ordinary.ensures.within1 c.in-Ok-look_ordinary.ensures.within2) (g.W.Work.state c.carry_out_ordinary.new.work).folder _ _
    (λ kept. (keeps_tree_twice _ _ _ _ c.in-Ok-look_ordinary.ensures.one.tree kept.0, keeps_tree_twice _ _ _ _ c.in-Ok-look_ordinary.ensures.two.tree kept.1)) (c.in-Ok-carry_out_ordinary.ensures.set_back work)

pub returns-clause-own_lock : goal.returns-clause-own_lock
returns-clause-own_lock g c work =
    own_around _ _ _ _ _ _ _ (ap (λ (w : WorkFolder). w.lock) (c.in-Ok.ensures.folder work)) (c.in-Err-carry_out_ordinary.ensures.own_lock work) refl

pub returns-clause-set_back : goal.returns-clause-set_back
returns-clause-set_back g c work =
    ordinary_set_back c.args.opts.now c.args.limits.now _ c.args.entered.now.digest (g.W.Work.state c.args.work.now).folder (g.W.Work.state c.start.new.work).folder (c.in-Ok.ensures.folder work) c.in-Ok.started (c.in-Ok.ensures.starts work) c.in-Ok-look_ordinary.look
    c.in-Ok-look_ordinary.ensures.compare (omega arith) (are_within c.args.limits.now (prepared_of c.in-Ok.started.stamp c.in-Ok-look_ordinary.look) c.in-Ok-look_ordinary.ensures.within1 c.in-Ok-look_ordinary.ensures.within2) (g.W.Work.state c.carry_out_ordinary.new.work).folder _ _
    (λ kept. (keeps_tree_twice _ _ _ _ c.in-Ok-look_ordinary.ensures.one.tree kept.0, keeps_tree_twice _ _ _ _ c.in-Ok-look_ordinary.ensures.two.tree kept.1)) (c.in-Err-carry_out_ordinary.ensures.set_back work)

pub returns-in-Ok-carry_out_ordinary-clause-counted : goal.returns-in-Ok-carry_out_ordinary-clause-counted
returns-in-Ok-carry_out_ordinary-clause-counted g c = counted_since g.A.Remote.tells g.B.Remote.tells (g.A.Remote.state c.args.one.now) (g.B.Remote.state c.args.two.now) (g.A.Remote.state c.look_ordinary.new.one) (g.B.Remote.state c.look_ordinary.new.two) c.in-Ok-look_ordinary.ensures.one.tree c.in-Ok-look_ordinary.ensures.two.tree (by_side (g.A.Remote.state c.carry_out_ordinary.new.one) (g.B.Remote.state c.carry_out_ordinary.new.two)) c.in-Ok-carry_out_ordinary.changes.one c.in-Ok-carry_out_ordinary.changes.two c.in-Ok-carry_out_ordinary.ensures.counted

pub returns-in-Ok-carry_out_ordinary-clause-names : goal.returns-in-Ok-carry_out_ordinary-clause-names
returns-in-Ok-carry_out_ordinary-clause-names g c work =
    ordinary_own c.args.opts.now c.args.limits.now _ c.args.entered.now.digest (g.W.Work.state c.args.work.now).folder (g.W.Work.state c.start.new.work).folder (c.in-Ok.ensures.folder work) c.in-Ok.started (c.in-Ok.ensures.starts work) c.in-Ok-look_ordinary.look
    c.in-Ok-look_ordinary.ensures.compare (omega arith) (are_within c.args.limits.now (prepared_of c.in-Ok.started.stamp c.in-Ok-look_ordinary.look) c.in-Ok-look_ordinary.ensures.within1 c.in-Ok-look_ordinary.ensures.within2)
    (g.W.Work.state c.carry_out_ordinary.new.work).folder (c.in-Ok-carry_out_ordinary.ensures.names work)

pub returns-clause-names : goal.returns-clause-names
returns-clause-names g c work =
    ordinary_own c.args.opts.now c.args.limits.now _ c.args.entered.now.digest (g.W.Work.state c.args.work.now).folder (g.W.Work.state c.start.new.work).folder (c.in-Ok.ensures.folder work) c.in-Ok.started (c.in-Ok.ensures.starts work) c.in-Ok-look_ordinary.look
    c.in-Ok-look_ordinary.ensures.compare (omega arith) (are_within c.args.limits.now (prepared_of c.in-Ok.started.stamp c.in-Ok-look_ordinary.look) c.in-Ok-look_ordinary.ensures.within1 c.in-Ok-look_ordinary.ensures.within2)
    (g.W.Work.state c.carry_out_ordinary.new.work).folder (c.in-Err-carry_out_ordinary.ensures.names work)

pub returns-in_default-clause-set_back : goal.returns-in_default-clause-set_back
returns-in_default-clause-set_back g c work before is = inl (c.look_ordinary.ensures.one.tree, c.look_ordinary.ensures.two.tree)

pub returns-in-Err-plan_lines-clause-set_back : goal.returns-in-Err-plan_lines-clause-set_back
returns-in-Err-plan_lines-clause-set_back g c work before is = inl (c.look_ordinary.ensures.one.tree, c.look_ordinary.ensures.two.tree)

pub returns-then-opts-clause-set_back : goal.returns-then-opts-clause-set_back
returns-then-opts-clause-set_back g c work before is = inl (c.look_ordinary.ensures.one.tree, c.look_ordinary.ensures.two.tree)

pub returns-in-Err-clause-names : goal.returns-in-Err-clause-names
returns-in-Err-clause-names g c work = kept_own c.args.limits.now _ _ _ (c.start.ensures.folder work)

pub returns-then-is_only-clause-names : goal.returns-then-is_only-clause-names
returns-then-is_only-clause-names g c work = kept_own c.args.limits.now _ _ _ (c.start.ensures.folder work)

pub returns-in-Err-look_ordinary-clause-names : goal.returns-in-Err-look_ordinary-clause-names
returns-in-Err-look_ordinary-clause-names g c work = kept_own c.args.limits.now _ _ _ (c.start.ensures.folder work)

pub returns-in_default-clause-names : goal.returns-in_default-clause-names
returns-in_default-clause-names g c work = kept_own c.args.limits.now _ _ _ (c.start.ensures.folder work)

pub returns-in-Err-plan_lines-clause-names : goal.returns-in-Err-plan_lines-clause-names
returns-in-Err-plan_lines-clause-names g c work = kept_own c.args.limits.now _ _ _ (c.start.ensures.folder work)

pub returns-then-opts-clause-names : goal.returns-then-opts-clause-names
returns-then-opts-clause-names g c work = kept_own c.args.limits.now _ _ _ (c.start.ensures.folder work)

pub returns-in-Err-clause-trees : goal.returns-in-Err-clause-trees
returns-in-Err-clause-trees g c one two work = inl (untouched_same (by_side (g.A.Remote.state c.args.one.now) (g.B.Remote.state c.args.two.now)), c.start.ensures.folder work)

pub returns-then-is_only-clause-trees : goal.returns-then-is_only-clause-trees
returns-then-is_only-clause-trees g c one two work = inl (untouched_same (by_side (g.A.Remote.state c.args.one.now) (g.B.Remote.state c.args.two.now)), c.start.ensures.folder work)

pub returns-in-Err-look_ordinary-clause-trees : goal.returns-in-Err-look_ordinary-clause-trees
returns-in-Err-look_ordinary-clause-trees g c one two work = inl (untouched _ _ _ _ (c.look_ordinary.ensures.one.tree one) (c.look_ordinary.ensures.two.tree two), c.start.ensures.folder work)

pub returns-clause-stands : goal.returns-clause-stands
returns-clause-stands g c work =
    inr (ordinary_stands c.args.opts.now c.args.limits.now _ c.args.entered.now.digest (g.W.Work.state c.args.work.now).folder (g.W.Work.state c.start.new.work).folder (c.in-Ok.ensures.folder work) c.in-Ok.started (c.in-Ok.ensures.starts work) c.in-Ok-look_ordinary.look
    c.in-Ok-look_ordinary.ensures.compare (omega arith) (are_within c.args.limits.now (prepared_of c.in-Ok.started.stamp c.in-Ok-look_ordinary.look) c.in-Ok-look_ordinary.ensures.within1 c.in-Ok-look_ordinary.ensures.within2)
    c.in-Err-carry_out_ordinary.end (g.W.Work.state c.carry_out_ordinary.new.work).folder (c.in-Err-carry_out_ordinary.ensures.stands work))

pub returns-in-Err-clause-stands : goal.returns-in-Err-clause-stands
returns-in-Err-clause-stands g c work = inl ((keeps_tree_same g.A.Remote.tells (g.A.Remote.state c.args.one.now), keeps_tree_same g.B.Remote.tells (g.B.Remote.state c.args.two.now)), c.start.ensures.folder work)

pub returns-then-is_only-clause-stands : goal.returns-then-is_only-clause-stands
returns-then-is_only-clause-stands g c work = inl ((keeps_tree_same g.A.Remote.tells (g.A.Remote.state c.args.one.now), keeps_tree_same g.B.Remote.tells (g.B.Remote.state c.args.two.now)), c.start.ensures.folder work)

pub returns-in-Err-look_ordinary-clause-stands : goal.returns-in-Err-look_ordinary-clause-stands
returns-in-Err-look_ordinary-clause-stands g c work = inl ((c.look_ordinary.ensures.one.tree, c.look_ordinary.ensures.two.tree), c.start.ensures.folder work)

pub returns-in_default-clause-stands : goal.returns-in_default-clause-stands
returns-in_default-clause-stands g c work = inl ((c.look_ordinary.ensures.one.tree, c.look_ordinary.ensures.two.tree), c.start.ensures.folder work)

pub returns-in-Err-plan_lines-clause-stands : goal.returns-in-Err-plan_lines-clause-stands
returns-in-Err-plan_lines-clause-stands g c work = inl ((c.look_ordinary.ensures.one.tree, c.look_ordinary.ensures.two.tree), c.start.ensures.folder work)

pub returns-then-opts-clause-stands : goal.returns-then-opts-clause-stands
returns-then-opts-clause-stands g c work = inl ((c.look_ordinary.ensures.one.tree, c.look_ordinary.ensures.two.tree), c.start.ensures.folder work)

pub returns-in-Ok-carry_out_ordinary-clause-stands : goal.returns-in-Ok-carry_out_ordinary-clause-stands
returns-in-Ok-carry_out_ordinary-clause-stands g c work = inr (λ side before is. absurd side)

pub returns-in-Err-look_ordinary-clause-set_back : goal.returns-in-Err-look_ordinary-clause-set_back
returns-in-Err-look_ordinary-clause-set_back g c work before is = inl (c.look_ordinary.ensures.one.tree, c.look_ordinary.ensures.two.tree)
