use Rattle.std.proofs.Common.{◌++◌, ◌<◌, ◌^◌, ◌∙◌, ap, refl, subst, inl, inr, arith, ℕ, List}
use Rattle.bisync_tree.specs.declared.sides.Side.TheVariants.{One, Two}
use Rattle.bisync_device.specs.WorkFolder.{WorkFolder}
use Rattle.bisync_model.specs.Trees.{by_side}
use Rattle.bisync_run.specs.LeftNames.{FellWith}
use Rattle.bisync_run.specs.Sides.{sides_of}
use Rattle.bisync_run.proofs.BasesSetBack.{late_held, late_same}
use Rattle.bisync_run.proofs.CountedRuns.{counted_since}
use Rattle.bisync_run.proofs.DoneSteps.{looked_told}
use Rattle.bisync_run.proofs.EndCases.{device_answers, step_may_change, told_device}
use Rattle.bisync_run.specs.Counts.{Counts}
use Rattle.bisync_run.proofs.FallsAsLaws.{fell_held, keeps_tree_twice}
use Rattle.bisync_run.proofs.FolderBases.{carried_in_place, lost_or_next}
use Rattle.bisync_run.proofs.OwnNames.{kept_own, resync_own}
use Rattle.bisync_run.proofs.HeldLaws.{untouched, same_windows, looked_base, are_within, aside_held, base_held, done_held, trees_held, mix_held, outcome_held, finds_held, lines_held, numbers_held}
use Rattle.bisync_run.proofs.OwnLocks.{own_around}
use Rattle.bisync_run.proofs.ToldGrounds.{step_told}
use Rattle.bisync_run.proofs.resyncs.resync.Goals as goal

pub returns-in_default-clause-base : goal.returns-in_default-clause-base
returns-in_default-clause-base g c one two work =
    let a = g.A.Remote.state c.args.one.now in
    let b = g.B.Remote.state c.args.two.now in
    let a2 = g.A.Remote.state c.look_resync.new.one in
    let b2 = g.B.Remote.state c.look_resync.new.two in
    looked_base c.args.mode c.args.limits.now (sides_of c.args.opts.now.compare c.args.entered.now.rules a b) (g.W.Work.state c.args.work.now).folder (g.W.Work.state c.look_resync.new.work).folder (by_side a b) (by_side a2 b2)
    (c.in-Ok.ensures.folder work) (untouched a b a2 b2 (c.in-Ok.ensures.one.tree one) (c.in-Ok.ensures.two.tree two))

pub returns-in-Err-plan_lines-clause-base : goal.returns-in-Err-plan_lines-clause-base
returns-in-Err-plan_lines-clause-base g c one two work =
    let a = g.A.Remote.state c.args.one.now in
    let b = g.B.Remote.state c.args.two.now in
    let a2 = g.A.Remote.state c.look_resync.new.one in
    let b2 = g.B.Remote.state c.look_resync.new.two in
    looked_base c.args.mode c.args.limits.now (sides_of c.args.opts.now.compare c.args.entered.now.rules a b) (g.W.Work.state c.args.work.now).folder (g.W.Work.state c.look_resync.new.work).folder (by_side a b) (by_side a2 b2)
    (c.in-Ok.ensures.folder work) (untouched a b a2 b2 (c.in-Ok.ensures.one.tree one) (c.in-Ok.ensures.two.tree two))

pub returns-then-opts-clause-base : goal.returns-then-opts-clause-base
returns-then-opts-clause-base g c one two work =
    let a = g.A.Remote.state c.args.one.now in
    let b = g.B.Remote.state c.args.two.now in
    let a2 = g.A.Remote.state c.look_resync.new.one in
    let b2 = g.B.Remote.state c.look_resync.new.two in
    looked_base c.args.mode c.args.limits.now (sides_of c.args.opts.now.compare c.args.entered.now.rules a b) (g.W.Work.state c.args.work.now).folder (g.W.Work.state c.look_resync.new.work).folder (by_side a b) (by_side a2 b2)
    (c.in-Ok.ensures.folder work) (untouched a b a2 b2 (c.in-Ok.ensures.one.tree one) (c.in-Ok.ensures.two.tree two))

pub returns-in-Ok-carry_out-clause-base : goal.returns-in-Ok-carry_out-clause-base
returns-in-Ok-carry_out-clause-base g c one two work =
    let a = g.A.Remote.state c.args.one.now in
    let b = g.B.Remote.state c.args.two.now in
    let a2 = g.A.Remote.state c.look_resync.new.one in
    let b2 = g.B.Remote.state c.look_resync.new.two in
    let looked = untouched a b a2 b2 (c.in-Ok.ensures.one.tree one) (c.in-Ok.ensures.two.tree two) in
    let windows = same_windows a b a2 b2 c.in-Ok.ensures.one.window c.in-Ok.ensures.two.window in
    let f = (g.W.Work.state c.args.work.now).folder in
    let f2 = (g.W.Work.state c.look_resync.new.work).folder in
    let small : c.args.limits.now.listing < 2 ^ 64 = omega arith in
    let fits = are_within c.args.limits.now c.in-Ok.prepared c.in-Ok.ensures.within1 c.in-Ok.ensures.within2 in
    base_held c.args.mode c.args.limits.now c.args.opts.now.compare c.args.entered.now.rules a b a2 b2 f f2 c.in-Ok.prepared (c.in-Ok.ensures.plan one two) looked windows (c.in-Ok.ensures.folder work)
    c.in-Ok.ensures.compare (c.in-Ok.ensures.new_stamp work) (g.W.Work.state c.carry_out.new.work).folder
    (by_side (g.A.Remote.state c.carry_out.new.one) (g.B.Remote.state c.carry_out.new.two)) (c.in-Ok.ensures.accepted one two work) (c.in-Ok-carry_out.ensures.base one two work c.args.limits.now.listing small fits)

pub returns-in-Ok-carry_out-clause-trees : goal.returns-in-Ok-carry_out-clause-trees
returns-in-Ok-carry_out-clause-trees g c one two work =
    let a = g.A.Remote.state c.args.one.now in
    let b = g.B.Remote.state c.args.two.now in
    let a2 = g.A.Remote.state c.look_resync.new.one in
    let b2 = g.B.Remote.state c.look_resync.new.two in
    let looked = untouched a b a2 b2 (c.in-Ok.ensures.one.tree one) (c.in-Ok.ensures.two.tree two) in
    let windows = same_windows a b a2 b2 c.in-Ok.ensures.one.window c.in-Ok.ensures.two.window in
    let f = (g.W.Work.state c.args.work.now).folder in
    let f2 = (g.W.Work.state c.look_resync.new.work).folder in
    trees_held c.args.mode c.args.limits.now c.args.opts.now.compare c.args.entered.now.rules a b a2 b2 f f2 c.in-Ok.prepared (c.in-Ok.ensures.plan one two) looked windows (c.in-Ok.ensures.folder work)
    (c.in-Ok.ensures.accepted one two work) (g.W.Work.state c.carry_out.new.work).folder (by_side (g.A.Remote.state c.carry_out.new.one) (g.B.Remote.state c.carry_out.new.two)) (c.in-Ok-carry_out.ensures.part one two)

pub returns-in-Ok-carry_out-clause-resynced : goal.returns-in-Ok-carry_out-clause-resynced
returns-in-Ok-carry_out-clause-resynced g c one two work dry =
    let a = g.A.Remote.state c.args.one.now in
    let b = g.B.Remote.state c.args.two.now in
    let a2 = g.A.Remote.state c.look_resync.new.one in
    let b2 = g.B.Remote.state c.look_resync.new.two in
    let looked = untouched a b a2 b2 (c.in-Ok.ensures.one.tree one) (c.in-Ok.ensures.two.tree two) in
    let windows = same_windows a b a2 b2 c.in-Ok.ensures.one.window c.in-Ok.ensures.two.window in
    let f = (g.W.Work.state c.args.work.now).folder in
    let f2 = (g.W.Work.state c.look_resync.new.work).folder in
    let small : c.args.limits.now.listing < 2 ^ 64 = omega arith in
    let fits = are_within c.args.limits.now c.in-Ok.prepared c.in-Ok.ensures.within1 c.in-Ok.ensures.within2 in
    done_held c.args.mode c.args.limits.now c.args.opts.now.compare c.args.entered.now.rules a b a2 b2 f f2 c.in-Ok.prepared (c.in-Ok.ensures.plan one two) looked windows (c.in-Ok.ensures.folder work)
    c.in-Ok.ensures.compare (c.in-Ok.ensures.new_stamp work) (g.W.Work.state c.carry_out.new.work).folder
    (by_side (g.A.Remote.state c.carry_out.new.one) (g.B.Remote.state c.carry_out.new.two)) c.args.entered.now.digest
    (c.in-Ok-carry_out.ensures.carried_out work c.args.limits.now.listing small fits) (c.in-Ok-carry_out.ensures.rest work) (c.in-Ok-carry_out.ensures.done one two)

pub returns-in-Ok-carry_out-clause-set_aside : goal.returns-in-Ok-carry_out-clause-set_aside
returns-in-Ok-carry_out-clause-set_aside g c work dry =
    let small : c.args.limits.now.listing < 2 ^ 64 = omega arith in
    let fits = are_within c.args.limits.now c.in-Ok.prepared c.in-Ok.ensures.within1 c.in-Ok.ensures.within2 in
    aside_held c.args.limits.now.listing c.in-Ok.prepared c.args.entered.now.digest (g.W.Work.state c.args.work.now).folder (g.W.Work.state c.look_resync.new.work).folder (g.W.Work.state c.carry_out.new.work).folder
    (c.in-Ok.ensures.folder work) (c.in-Ok-carry_out.ensures.carried_out work c.args.limits.now.listing small fits)

pub returns-in-Ok-carry_out-clause-good : goal.returns-in-Ok-carry_out-clause-good
returns-in-Ok-carry_out-clause-good g c one two =
    let a = g.A.Remote.state c.args.one.now in
    let b = g.B.Remote.state c.args.two.now in
    let a2 = g.A.Remote.state c.look_resync.new.one in
    let b2 = g.B.Remote.state c.look_resync.new.two in
    let looked = untouched a b a2 b2 (c.in-Ok.ensures.one.tree one) (c.in-Ok.ensures.two.tree two) in
    let windows = same_windows a b a2 b2 c.in-Ok.ensures.one.window c.in-Ok.ensures.two.window in
    let f = (g.W.Work.state c.args.work.now).folder in
    let plan = c.in-Ok.ensures.plan one two in (
      c.if-opts.false,
      numbers_held c.args.mode c.args.limits.now c.args.opts.now.compare c.args.entered.now.rules a b a2 b2 f f c.in-Ok.prepared plan looked windows refl One c.in-Ok-carry_out.changes.one c.in-Ok-carry_out.ensures.changes.0,
      numbers_held c.args.mode c.args.limits.now c.args.opts.now.compare c.args.entered.now.rules a b a2 b2 f f c.in-Ok.prepared plan looked windows refl Two c.in-Ok-carry_out.changes.two c.in-Ok-carry_out.ensures.changes.1,
    )

pub returns-clause-base : goal.returns-clause-base
returns-clause-base g c one two work =
    let a = g.A.Remote.state c.args.one.now in
    let b = g.B.Remote.state c.args.two.now in
    let a2 = g.A.Remote.state c.look_resync.new.one in
    let b2 = g.B.Remote.state c.look_resync.new.two in
    let looked = untouched a b a2 b2 (c.in-Ok.ensures.one.tree one) (c.in-Ok.ensures.two.tree two) in
    let windows = same_windows a b a2 b2 c.in-Ok.ensures.one.window c.in-Ok.ensures.two.window in
    let f = (g.W.Work.state c.args.work.now).folder in
    let f2 = (g.W.Work.state c.look_resync.new.work).folder in
    let small : c.args.limits.now.listing < 2 ^ 64 = omega arith in
    let fits = are_within c.args.limits.now c.in-Ok.prepared c.in-Ok.ensures.within1 c.in-Ok.ensures.within2 in
    base_held c.args.mode c.args.limits.now c.args.opts.now.compare c.args.entered.now.rules a b a2 b2 f f2 c.in-Ok.prepared (c.in-Ok.ensures.plan one two) looked windows (c.in-Ok.ensures.folder work)
    c.in-Ok.ensures.compare (c.in-Ok.ensures.new_stamp work) (g.W.Work.state c.carry_out.new.work).folder
    (by_side (g.A.Remote.state c.carry_out.new.one) (g.B.Remote.state c.carry_out.new.two)) (c.in-Ok.ensures.accepted one two work) (c.in-Err-carry_out.ensures.base one two work c.args.limits.now.listing small fits)

pub returns-clause-trees : goal.returns-clause-trees
returns-clause-trees g c one two work =
    let a = g.A.Remote.state c.args.one.now in
    let b = g.B.Remote.state c.args.two.now in
    let a2 = g.A.Remote.state c.look_resync.new.one in
    let b2 = g.B.Remote.state c.look_resync.new.two in
    let looked = untouched a b a2 b2 (c.in-Ok.ensures.one.tree one) (c.in-Ok.ensures.two.tree two) in
    let windows = same_windows a b a2 b2 c.in-Ok.ensures.one.window c.in-Ok.ensures.two.window in
    let f = (g.W.Work.state c.args.work.now).folder in
    let f2 = (g.W.Work.state c.look_resync.new.work).folder in
    trees_held c.args.mode c.args.limits.now c.args.opts.now.compare c.args.entered.now.rules a b a2 b2 f f2 c.in-Ok.prepared (c.in-Ok.ensures.plan one two) looked windows (c.in-Ok.ensures.folder work)
    (c.in-Ok.ensures.accepted one two work) (g.W.Work.state c.carry_out.new.work).folder (by_side (g.A.Remote.state c.carry_out.new.one) (g.B.Remote.state c.carry_out.new.two)) (c.in-Err-carry_out.ensures.part one two)

pub returns-clause-answers : goal.returns-clause-answers
returns-clause-answers g c one two work =
    let a = g.A.Remote.state c.args.one.now in
    let b = g.B.Remote.state c.args.two.now in
    let a2 = g.A.Remote.state c.look_resync.new.one in
    let b2 = g.B.Remote.state c.look_resync.new.two in
    let windows = same_windows a b a2 b2 c.in-Ok.ensures.one.window c.in-Ok.ensures.two.window in
    let found = c.in-Err-carry_out.ensures.found
    (finds_held (by_side g.A.Remote.tells g.B.Remote.tells) c.args.mode c.args.opts.now.compare c.args.entered.now.rules a b a2 b2 c.in-Ok.prepared
    (looked_told g.A.Remote.tells g.B.Remote.tells a b a2 b2 c.in-Ok.ensures.one.tree c.in-Ok.ensures.two.tree) windows c.in-Ok.ensures.over) in
    device_answers c.args.mode c.args.limits.now (g.W.Work.state c.args.work.now).folder _ (c.in-Ok.ensures.accepted one two work).one c.in-Err-carry_out.end
    (told_device (by_side g.A.Remote.tells g.B.Remote.tells) one two c.in-Err-carry_out.end c.in-Err-carry_out.ensures.end found)

pub returns-clause-told : goal.returns-clause-told
returns-clause-told g c =
    let a = g.A.Remote.state c.args.one.now in
    let b = g.B.Remote.state c.args.two.now in
    let a2 = g.A.Remote.state c.look_resync.new.one in
    let b2 = g.B.Remote.state c.look_resync.new.two in
    let windows = same_windows a b a2 b2 c.in-Ok.ensures.one.window c.in-Ok.ensures.two.window in
    step_told (by_side g.A.Remote.tells g.B.Remote.tells) (by_side a b) c.in-Err-carry_out.end c.in-Err-carry_out.ensures.end c.in-Err-carry_out.ensures.read
    (c.in-Err-carry_out.ensures.found
    (finds_held (by_side g.A.Remote.tells g.B.Remote.tells) c.args.mode c.args.opts.now.compare c.args.entered.now.rules a b a2 b2 c.in-Ok.prepared
    (looked_told g.A.Remote.tells g.B.Remote.tells a b a2 b2 c.in-Ok.ensures.one.tree c.in-Ok.ensures.two.tree) windows c.in-Ok.ensures.over))

pub returns-clause-report : goal.returns-clause-report
returns-clause-report g c one two sink =
    let a = g.A.Remote.state c.args.one.now in
    let b = g.B.Remote.state c.args.two.now in
    let a2 = g.A.Remote.state c.look_resync.new.one in
    let b2 = g.B.Remote.state c.look_resync.new.two in
    let looked = untouched a b a2 b2 (c.in-Ok.ensures.one.tree one) (c.in-Ok.ensures.two.tree two) in
    let windows = same_windows a b a2 b2 c.in-Ok.ensures.one.window c.in-Ok.ensures.two.window in
    let f = (g.W.Work.state c.args.work.now).folder in
    inr (inr (
      step_may_change c.in-Err-carry_out.end c.in-Err-carry_out.ensures.end,
      c.if-opts.false,
      (λ work side. subst (λ (h : WorkFolder). FellWith c.args.entered.now.digest h (g.W.Work.state c.carry_out.new.work).folder) (c.in-Ok.ensures.folder work) (c.in-Err-carry_out.ensures.fell_before work side)),
      (λ work. c.in-Ok.ensures.accepted one two work),
      c.in-Ok-plan_lines.ensures.bytes sink
          ∙ ap (λ (l : List ℕ). (g.S.Sink.state c.args.sink.now).bytes ++ l)
          (lines_held c.args.mode c.args.limits.now c.args.opts.now.compare c.args.entered.now.rules a b a2 b2 f f c.in-Ok.prepared (c.in-Ok.ensures.plan one two) looked windows refl),
    ))

-- # What the work folder alone tells

pub returns-in-Ok-carry_out-clause-folder_base : goal.returns-in-Ok-carry_out-clause-folder_base
returns-in-Ok-carry_out-clause-folder_base g c work =
    let f = (g.W.Work.state c.args.work.now).folder in
    let f2 = (g.W.Work.state c.look_resync.new.work).folder in
    let small : c.args.limits.now.listing < 2 ^ 64 = omega arith in
    let fits = are_within c.args.limits.now c.in-Ok.prepared c.in-Ok.ensures.within1 c.in-Ok.ensures.within2 in
    lost_or_next c.args.limits.now _ f f2 (c.in-Ok.ensures.folder work) c.in-Ok.prepared c.in-Ok.ensures.compare (c.in-Ok.ensures.new_stamp work) (g.W.Work.state c.carry_out.new.work).folder _
    (c.in-Ok-carry_out.ensures.folder_base work c.args.limits.now.listing small fits)

pub returns-in-Ok-carry_out-clause-folder_next : goal.returns-in-Ok-carry_out-clause-folder_next
returns-in-Ok-carry_out-clause-folder_next g c work dry =
    let f = (g.W.Work.state c.args.work.now).folder in
    let f2 = (g.W.Work.state c.look_resync.new.work).folder in
    let small : c.args.limits.now.listing < 2 ^ 64 = omega arith in
    let fits = are_within c.args.limits.now c.in-Ok.prepared c.in-Ok.ensures.within1 c.in-Ok.ensures.within2 in
    carried_in_place c.args.limits.now _ f f2 (c.in-Ok.ensures.folder work) c.in-Ok.prepared c.in-Ok.ensures.compare (c.in-Ok.ensures.new_stamp work) (g.W.Work.state c.carry_out.new.work).folder
    c.args.entered.now.digest (c.in-Ok-carry_out.ensures.carried_out work c.args.limits.now.listing small fits)

pub returns-clause-folder_base : goal.returns-clause-folder_base
returns-clause-folder_base g c work =
    let f = (g.W.Work.state c.args.work.now).folder in
    let f2 = (g.W.Work.state c.look_resync.new.work).folder in
    let small : c.args.limits.now.listing < 2 ^ 64 = omega arith in
    let fits = are_within c.args.limits.now c.in-Ok.prepared c.in-Ok.ensures.within1 c.in-Ok.ensures.within2 in
    lost_or_next c.args.limits.now _ f f2 (c.in-Ok.ensures.folder work) c.in-Ok.prepared c.in-Ok.ensures.compare (c.in-Ok.ensures.new_stamp work) (g.W.Work.state c.carry_out.new.work).folder _
    (c.in-Err-carry_out.ensures.folder_base work c.args.limits.now.listing small fits)

pub returns-in-Ok-carry_out-clause-digest_late : goal.returns-in-Ok-carry_out-clause-digest_late
returns-in-Ok-carry_out-clause-digest_late g c work =
    let fits = are_within c.args.limits.now c.in-Ok.prepared c.in-Ok.ensures.within1 c.in-Ok.ensures.within2 in
    late_held c.args.limits.now _ c.args.entered.now.digest (g.W.Work.state c.args.work.now).folder (g.W.Work.state c.look_resync.new.work).folder (c.in-Ok.ensures.folder work) c.in-Ok.prepared c.in-Ok.ensures.compare (c.in-Ok.ensures.new_stamp work) (g.W.Work.state c.carry_out.new.work).folder _ _
    (λ kept. (keeps_tree_twice _ _ _ _ c.in-Ok.ensures.one.tree kept.0, keeps_tree_twice _ _ _ _ c.in-Ok.ensures.two.tree kept.1))
    (c.in-Ok-carry_out.ensures.digest_late work c.args.limits.now.listing (omega arith) fits)

pub returns-clause-own_lock : goal.returns-clause-own_lock
returns-clause-own_lock g c work =
    own_around _ _ _ _ _ _ _ (ap (λ (w : WorkFolder). w.lock) (c.in-Ok.ensures.folder work)) (c.in-Err-carry_out.ensures.own_lock work) refl

pub returns-clause-digest_late : goal.returns-clause-digest_late
returns-clause-digest_late g c work =
    let fits = are_within c.args.limits.now c.in-Ok.prepared c.in-Ok.ensures.within1 c.in-Ok.ensures.within2 in
    late_held c.args.limits.now _ c.args.entered.now.digest (g.W.Work.state c.args.work.now).folder (g.W.Work.state c.look_resync.new.work).folder (c.in-Ok.ensures.folder work) c.in-Ok.prepared c.in-Ok.ensures.compare (c.in-Ok.ensures.new_stamp work) (g.W.Work.state c.carry_out.new.work).folder _ _
    (λ kept. (keeps_tree_twice _ _ _ _ c.in-Ok.ensures.one.tree kept.0, keeps_tree_twice _ _ _ _ c.in-Ok.ensures.two.tree kept.1))
    (c.in-Err-carry_out.ensures.digest_late work c.args.limits.now.listing (omega arith) fits)

-- # What both sides alone tell

pub returns-in-Ok-carry_out-clause-mixed : goal.returns-in-Ok-carry_out-clause-mixed
returns-in-Ok-carry_out-clause-mixed g c one two =
    let a = g.A.Remote.state c.args.one.now in let b = g.B.Remote.state c.args.two.now in
    let a2 = g.A.Remote.state c.look_resync.new.one in let b2 = g.B.Remote.state c.look_resync.new.two in
    let looked = untouched a b a2 b2 (c.in-Ok.ensures.one.tree one) (c.in-Ok.ensures.two.tree two) in
    let windows = same_windows a b a2 b2 c.in-Ok.ensures.one.window c.in-Ok.ensures.two.window in
    let f = (g.W.Work.state c.args.work.now).folder in
    mix_held c.args.mode c.args.limits.now c.args.opts.now.compare c.args.entered.now.rules a b a2 b2 f f c.in-Ok.prepared (c.in-Ok.ensures.plan one two) looked windows refl
    (by_side (g.A.Remote.state c.carry_out.new.one) (g.B.Remote.state c.carry_out.new.two)) (c.in-Ok-carry_out.ensures.part one two)

pub returns-clause-mixed : goal.returns-clause-mixed
returns-clause-mixed g c one two =
    let a = g.A.Remote.state c.args.one.now in let b = g.B.Remote.state c.args.two.now in
    let a2 = g.A.Remote.state c.look_resync.new.one in let b2 = g.B.Remote.state c.look_resync.new.two in
    let looked = untouched a b a2 b2 (c.in-Ok.ensures.one.tree one) (c.in-Ok.ensures.two.tree two) in
    let windows = same_windows a b a2 b2 c.in-Ok.ensures.one.window c.in-Ok.ensures.two.window in
    let f = (g.W.Work.state c.args.work.now).folder in
    mix_held c.args.mode c.args.limits.now c.args.opts.now.compare c.args.entered.now.rules a b a2 b2 f f c.in-Ok.prepared (c.in-Ok.ensures.plan one two) looked windows refl
    (by_side (g.A.Remote.state c.carry_out.new.one) (g.B.Remote.state c.carry_out.new.two)) (c.in-Err-carry_out.ensures.part one two)

pub returns-in-Ok-carry_out-clause-outcome : goal.returns-in-Ok-carry_out-clause-outcome
returns-in-Ok-carry_out-clause-outcome g c one two dry =
    let a = g.A.Remote.state c.args.one.now in let b = g.B.Remote.state c.args.two.now in
    let a2 = g.A.Remote.state c.look_resync.new.one in let b2 = g.B.Remote.state c.look_resync.new.two in
    let looked = untouched a b a2 b2 (c.in-Ok.ensures.one.tree one) (c.in-Ok.ensures.two.tree two) in
    let windows = same_windows a b a2 b2 c.in-Ok.ensures.one.window c.in-Ok.ensures.two.window in
    let f = (g.W.Work.state c.args.work.now).folder in
    outcome_held c.args.mode c.args.limits.now c.args.opts.now.compare c.args.entered.now.rules a b a2 b2 f f c.in-Ok.prepared (c.in-Ok.ensures.plan one two) looked windows refl
    (by_side (g.A.Remote.state c.carry_out.new.one) (g.B.Remote.state c.carry_out.new.two)) (c.in-Ok-carry_out.ensures.done one two)

pub returns-clause-fell : goal.returns-clause-fell
returns-clause-fell g c work never =
    inr (fell_held (λ (h : WorkFolder). FellWith c.args.entered.now.digest h (g.W.Work.state c.carry_out.new.work).folder) _ (g.W.Work.state c.look_resync.new.work).folder _ (g.W.Work.state c.look_resync.new.work).faults (g.W.Work.state c.carry_out.new.work).faults (c.in-Ok.ensures.folder work)
    (ap (λ (k : Counts). k.work) (c.in-Ok.ensures.causes.good refl)) (c.in-Err-carry_out.ensures.fell work) never)

-- # The numbers of changes

pub returns-in-Ok-carry_out-clause-counted : goal.returns-in-Ok-carry_out-clause-counted
returns-in-Ok-carry_out-clause-counted g c =
    counted_since g.A.Remote.tells g.B.Remote.tells (g.A.Remote.state c.args.one.now) (g.B.Remote.state c.args.two.now) (g.A.Remote.state c.look_resync.new.one) (g.B.Remote.state c.look_resync.new.two)
    c.in-Ok.ensures.one.tree c.in-Ok.ensures.two.tree (by_side (g.A.Remote.state c.carry_out.new.one) (g.B.Remote.state c.carry_out.new.two))
    c.in-Ok-carry_out.changes.one c.in-Ok-carry_out.changes.two c.in-Ok-carry_out.ensures.counted

pub returns-in-Ok-carry_out-clause-names : goal.returns-in-Ok-carry_out-clause-names
returns-in-Ok-carry_out-clause-names g c work =
    let fits = are_within c.args.limits.now c.in-Ok.prepared c.in-Ok.ensures.within1 c.in-Ok.ensures.within2 in
    resync_own c.args.limits.now _ (g.W.Work.state c.args.work.now).folder (g.W.Work.state c.look_resync.new.work).folder (c.in-Ok.ensures.folder work) c.in-Ok.prepared c.in-Ok.ensures.compare (c.in-Ok.ensures.new_stamp work) fits (g.W.Work.state c.carry_out.new.work).folder (c.in-Ok-carry_out.ensures.names work)

pub returns-clause-names : goal.returns-clause-names
returns-clause-names g c work =
    let fits = are_within c.args.limits.now c.in-Ok.prepared c.in-Ok.ensures.within1 c.in-Ok.ensures.within2 in
    resync_own c.args.limits.now _ (g.W.Work.state c.args.work.now).folder (g.W.Work.state c.look_resync.new.work).folder (c.in-Ok.ensures.folder work) c.in-Ok.prepared c.in-Ok.ensures.compare (c.in-Ok.ensures.new_stamp work) fits (g.W.Work.state c.carry_out.new.work).folder (c.in-Err-carry_out.ensures.names work)

pub returns-in-Err-clause-names : goal.returns-in-Err-clause-names
returns-in-Err-clause-names g c work = kept_own c.args.limits.now _ _ _ (c.look_resync.ensures.folder work)

pub returns-in_default-clause-names : goal.returns-in_default-clause-names
returns-in_default-clause-names g c work = kept_own c.args.limits.now _ _ _ (c.look_resync.ensures.folder work)

pub returns-in-Err-plan_lines-clause-names : goal.returns-in-Err-plan_lines-clause-names
returns-in-Err-plan_lines-clause-names g c work = kept_own c.args.limits.now _ _ _ (c.look_resync.ensures.folder work)

pub returns-then-opts-clause-names : goal.returns-then-opts-clause-names
returns-then-opts-clause-names g c work = kept_own c.args.limits.now _ _ _ (c.look_resync.ensures.folder work)

pub returns-then-opts-clause-report : goal.returns-then-opts-clause-report
returns-then-opts-clause-report g c one two sink =
    let a = g.A.Remote.state c.args.one.now in
    let b = g.B.Remote.state c.args.two.now in
    let a2 = g.A.Remote.state c.look_resync.new.one in
    let b2 = g.B.Remote.state c.look_resync.new.two in
    let looked = untouched a b a2 b2 (c.in-Ok.ensures.one.tree one) (c.in-Ok.ensures.two.tree two) in
    let windows = same_windows a b a2 b2 c.in-Ok.ensures.one.window c.in-Ok.ensures.two.window in
    let f = (g.W.Work.state c.args.work.now).folder in (
      (λ work. c.in-Ok.ensures.accepted one two work),
      c.in-Ok-plan_lines.ensures.bytes sink
          ∙ ap (λ (l : List ℕ). (g.S.Sink.state c.args.sink.now).bytes ++ l)
          (lines_held c.args.mode c.args.limits.now c.args.opts.now.compare c.args.entered.now.rules a b a2 b2 f f c.in-Ok.prepared (c.in-Ok.ensures.plan one two) looked windows refl),
    )

pub returns-in-Ok-carry_out-clause-report : goal.returns-in-Ok-carry_out-clause-report
returns-in-Ok-carry_out-clause-report g c one two sink =
    let a = g.A.Remote.state c.args.one.now in
    let b = g.B.Remote.state c.args.two.now in
    let a2 = g.A.Remote.state c.look_resync.new.one in
    let b2 = g.B.Remote.state c.look_resync.new.two in
    let looked = untouched a b a2 b2 (c.in-Ok.ensures.one.tree one) (c.in-Ok.ensures.two.tree two) in
    let windows = same_windows a b a2 b2 c.in-Ok.ensures.one.window c.in-Ok.ensures.two.window in
    let f = (g.W.Work.state c.args.work.now).folder in (
      (λ work. c.in-Ok.ensures.accepted one two work),
      c.in-Ok-plan_lines.ensures.bytes sink
          ∙ ap (λ (l : List ℕ). (g.S.Sink.state c.args.sink.now).bytes ++ l)
          (lines_held c.args.mode c.args.limits.now c.args.opts.now.compare c.args.entered.now.rules a b a2 b2 f f c.in-Ok.prepared (c.in-Ok.ensures.plan one two) looked windows refl),
    )

pub returns-in-Err-clause-trees : goal.returns-in-Err-clause-trees
returns-in-Err-clause-trees g c one two work =
    let a = g.A.Remote.state c.args.one.now in
    let b = g.B.Remote.state c.args.two.now in
    let a2 = g.A.Remote.state c.look_resync.new.one in
    let b2 = g.B.Remote.state c.look_resync.new.two in
    inl (untouched a b a2 b2 (c.look_resync.ensures.one.tree one) (c.look_resync.ensures.two.tree two), c.look_resync.ensures.folder work)

pub returns-in_default-clause-trees : goal.returns-in_default-clause-trees
returns-in_default-clause-trees g c one two work =
    let a = g.A.Remote.state c.args.one.now in
    let b = g.B.Remote.state c.args.two.now in
    let a2 = g.A.Remote.state c.look_resync.new.one in
    let b2 = g.B.Remote.state c.look_resync.new.two in
    inl (untouched a b a2 b2 (c.look_resync.ensures.one.tree one) (c.look_resync.ensures.two.tree two), c.look_resync.ensures.folder work)

pub returns-in-Err-plan_lines-clause-trees : goal.returns-in-Err-plan_lines-clause-trees
returns-in-Err-plan_lines-clause-trees g c one two work =
    let a = g.A.Remote.state c.args.one.now in
    let b = g.B.Remote.state c.args.two.now in
    let a2 = g.A.Remote.state c.look_resync.new.one in
    let b2 = g.B.Remote.state c.look_resync.new.two in
    inl (untouched a b a2 b2 (c.look_resync.ensures.one.tree one) (c.look_resync.ensures.two.tree two), c.look_resync.ensures.folder work)

pub returns-then-opts-clause-trees : goal.returns-then-opts-clause-trees
returns-then-opts-clause-trees g c one two work =
    let a = g.A.Remote.state c.args.one.now in
    let b = g.B.Remote.state c.args.two.now in
    let a2 = g.A.Remote.state c.look_resync.new.one in
    let b2 = g.B.Remote.state c.look_resync.new.two in
    inl (untouched a b a2 b2 (c.look_resync.ensures.one.tree one) (c.look_resync.ensures.two.tree two), c.look_resync.ensures.folder work)

pub returns-in-Err-clause-digest_late : goal.returns-in-Err-clause-digest_late
returns-in-Err-clause-digest_late g c work = late_same c.args.limits.now _ _ _ _ _ (c.look_resync.ensures.folder work) (c.look_resync.ensures.one.tree, c.look_resync.ensures.two.tree)

pub returns-in_default-clause-digest_late : goal.returns-in_default-clause-digest_late
returns-in_default-clause-digest_late g c work = late_same c.args.limits.now _ _ _ _ _ (c.look_resync.ensures.folder work) (c.look_resync.ensures.one.tree, c.look_resync.ensures.two.tree)

pub returns-in-Err-plan_lines-clause-digest_late : goal.returns-in-Err-plan_lines-clause-digest_late
returns-in-Err-plan_lines-clause-digest_late g c work = late_same c.args.limits.now _ _ _ _ _ (c.look_resync.ensures.folder work) (c.look_resync.ensures.one.tree, c.look_resync.ensures.two.tree)

pub returns-then-opts-clause-digest_late : goal.returns-then-opts-clause-digest_late
returns-then-opts-clause-digest_late g c work = late_same c.args.limits.now _ _ _ _ _ (c.look_resync.ensures.folder work) (c.look_resync.ensures.one.tree, c.look_resync.ensures.two.tree)
