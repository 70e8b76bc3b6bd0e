use Rattle.std.proofs.Common.{◌∙◌, [], ap, inl, inr, refl, subst, sym, ⊎_elim}
use Rattle.std.proofs.lemmas.List.{append-nil}
use Rattle.bisync_device.specs.WorkFolder.{WorkFolder}
use Rattle.bisync_model.specs.Trees.{by_side}
use Rattle.bisync_report.specs.declared.ends.End.{End}
use Rattle.bisync_run.specs.Counts.{Counts, counts, Stops}
use Rattle.bisync_run.specs.EndKinds.{is_unlocked}
use Rattle.bisync_run.specs.HeldResyncs.{IsGoodEndOf}
use Rattle.bisync_run.specs.Ordinary.{IsGoodOrdinaryEnd}
use Rattle.bisync_run.specs.ResyncRuns.{Matter}
use Rattle.bisync_run.specs.Sides.{sides_of}
use Rattle.bisync_run.proofs.BasesSetBack.{late_closed, old_closed}
use Rattle.bisync_run.proofs.BlockedFolders.{blocked_nowhere}
use Rattle.bisync_run.proofs.BeginningLaws.{begins_before, begins_closed, well_before}
use Rattle.bisync_run.proofs.AnswersBefore.{none_before, answers_before}
use Rattle.bisync_run.proofs.Closed.{base_closed, base_unlocked, done_closed, done_unlocked}
use Rattle.bisync_run.proofs.ClosedEnds.{on_ok, falls_ok, falls_dry, changes_closed, early_closed, answers_closed, numbers_closed, tells_closed, tells_unlocked as tells_unlocked_resync}
use Rattle.bisync_run.proofs.ClosedKinds.{no_rise_last, no_rise_mid, falls_closed, fell_closed, quiet_closed, own_closed, locked_closed, freed_was_good, kept_early, kept_unlocked, lock_new_closed, no_digest_closed, aside_closed}
use Rattle.bisync_run.proofs.CoursesBefore.{run_answers_before, unrefused_before}
use Rattle.bisync_run.proofs.DoneSteps.{untouched_same}
use Rattle.bisync_run.proofs.EndCases.{false_true, good_is_after_good}
use Rattle.bisync_run.proofs.EndKindLaws.{unlocked_is_own, unlocked_not_after_good, unlocked_fell, freed_is_after_good}
use Rattle.bisync_run.proofs.FallsAsLaws.{fell_late, keeps_tree_same, resync_fell, where_it_falls}
use Rattle.bisync_run.proofs.FolderBases.{folder_base_closed, folder_base_unlocked, folder_next_closed}
use Rattle.bisync_run.proofs.LockNewLaws.{lock_new_twice, lock_new_same}
use Rattle.bisync_run.proofs.LockedFolders.{base_past}
use Rattle.bisync_run.proofs.OrdinaryClosed.{base_kept, falls_resilient, rest_closed, rest_locked, run_base_closed, run_done_closed, way_before}
use Rattle.bisync_run.proofs.OrdinaryEndsClosed.{good_before, ordinary_closed, run_answers_closed, run_tells_closed, stands_by_close, tells_unlocked, unlocked_is_ordinary}
use Rattle.bisync_run.proofs.OwnLocks.{own_closed as own_lock_closed}
use Rattle.bisync_run.proofs.OwnNames.{locked_own, own_before, own_same}
use Rattle.bisync_run.proofs.RunEnds.{after_good_was_ok, caused_closed}
use Rattle.bisync_run.proofs.ToldGrounds.{unlocked_told, closed_told}
use Rattle.bisync_run.proofs.CloseLaws.{fell_before}
use Rattle.bisync_run.proofs.BuiltEnds.{unlocked_built, closed_built}
use Rattle.bisync_run.proofs.closed_runs.run_to_close.Goals as goal

pub returns-in-Err-clause-base : goal.returns-in-Err-clause-base
returns-in-Err-clause-base g c mode mode_is one two work base is =
    let same = untouched_same (by_side (g.A.Remote.state c.args.one.now) (g.B.Remote.state c.args.two.now)) in
    inl (base_past (g.W.Work.state c.args.work.now).folder (g.W.Work.state c.enter.new.work).folder (c.in-Err.ensures.others work) c.args.limits.now.listing base is, same)

pub returns-in-Err-clause-answers : goal.returns-in-Err-clause-answers
returns-in-Err-clause-answers g c mode mode_is one two work = inl (c.in-Err.ensures.entry work)

pub returns-in-Err-clause-accepted : goal.returns-in-Err-clause-accepted
returns-in-Err-clause-accepted g c mode mode_is one two work good = absurd (unlocked_not_after_good c.args.opts.now.filters c.in-Err.end c.in-Err.ensures.kind good)

pub returns-in-Err-clause-set_aside : goal.returns-in-Err-clause-set_aside
returns-in-Err-clause-set_aside g c mode mode_is work dry good = absurd (unlocked_not_after_good c.args.opts.now.filters c.in-Err.end c.in-Err.ensures.kind good)

pub returns-in-Err-clause-only : goal.returns-in-Err-clause-only
returns-in-Err-clause-only g c mode mode_is = unlocked_is_own c.args.opts.now c.in-Err.end c.in-Err.ensures.kind

pub returns-in-Err-clause-freed : goal.returns-in-Err-clause-freed
returns-in-Err-clause-freed g c work freed = absurd (unlocked_not_after_good c.args.opts.now.filters c.in-Err.end c.in-Err.ensures.kind (freed_is_after_good c.in-Err.end freed))

pub returns-in-Err-clause-lock_new : goal.returns-in-Err-clause-lock_new
returns-in-Err-clause-lock_new g c work (inl good) = absurd (unlocked_not_after_good c.args.opts.now.filters c.in-Err.end c.in-Err.ensures.kind good)
returns-in-Err-clause-lock_new g c work (inr never) =
    lock_new_same (g.W.Work.state c.args.work.now).folder (g.W.Work.state c.enter.new.work).folder
    (ap (λ (w : WorkFolder). w.lock_new) (c.in-Err.ensures.kept work (λ is. never
    (subst (λ (e : End). Stops (counts 0 0 (g.W.Work.state c.args.work.now).faults 0) (counts 0 0 (g.W.Work.state c.enter.new.work).faults 0) e) is c.in-Err.ensures.causes.fault))))

pub returns-in-Err-clause-no_digest : goal.returns-in-Err-clause-no_digest
returns-in-Err-clause-no_digest g c work none = ap (λ (w : WorkFolder). w.filters_md5) (c.in-Err.ensures.others work).rest

pub returns-in-Err-clause-entry : goal.returns-in-Err-clause-entry
returns-in-Err-clause-entry g c work un = c.in-Err.ensures.entry work

pub returns-in-Err-clause-told : goal.returns-in-Err-clause-told
returns-in-Err-clause-told g c = unlocked_told (by_side g.A.Remote.tells g.B.Remote.tells) (by_side (g.A.Remote.state c.args.one.now) (g.B.Remote.state c.args.two.now)) c.args.opts.now.filters c.in-Err.end c.in-Err.ensures.kind

pub returns-in-Err-clause-lines : goal.returns-in-Err-clause-lines
returns-in-Err-clause-lines g c sink = ([], sym (append-nil (g.S.Sink.state c.args.sink.now).bytes))

pub returns-clause-answers : goal.returns-clause-answers
returns-clause-answers g c mode mode_is one two work =
    let a = g.A.Remote.state c.args.one.now in let b = g.B.Remote.state c.args.two.now in let s = sides_of c.args.opts.now.compare c.in-Ok.entered.rules a b in let f = (g.W.Work.state c.args.work.now).folder in let f2 = (g.W.Work.state c.enter.new.work).folder in let changes = c.in-Ok.ensures.others work in
    let m : Matter c.args.opts.now f (by_side a b) = record { rules = c.in-Ok.entered.rules; digest = c.in-Ok.entered.digest; are = c.in-Ok.ensures.rules (inl work) } in
    let answer = answers_before mode c.args.limits.now f f2 changes s c.close.result
    (answers_closed mode c.args.limits.now f2 s c.args.opts.now.dry_run c.held-ended.result c.close.result c.close.ensures.end
    (c.held-ended.ensures.answers mode mode_is one two work) (c.held-ended.ensures.accepted mode mode_is one two work) (c.held-ended.ensures.good mode mode_is one two)) in
    inr (c.in-Ok.ensures.free work, (m, answer))

pub returns-clause-accepted : goal.returns-clause-accepted
returns-clause-accepted g c mode mode_is one two work good =
    let f = (g.W.Work.state c.args.work.now).folder in let m : Matter c.args.opts.now f _ = record { rules = c.in-Ok.entered.rules; digest = c.in-Ok.entered.digest; are = c.in-Ok.ensures.rules (inl work) } in let ok = after_good_was_ok _ _ c.held-ended.result c.close.result c.held-ended.ensures.causes.fault c.close.ensures.end good in
    (c.in-Ok.ensures.free work, (m, none_before mode c.args.limits.now f _ (c.in-Ok.ensures.others work) _ (on_ok c.held-ended.result ok (c.held-ended.ensures.accepted mode mode_is one two work))))

pub returns-clause-resynced : goal.returns-clause-resynced
returns-clause-resynced g c mode mode_is one two work dry good =
    let f = (g.W.Work.state c.args.work.now).folder in let m : Matter c.args.opts.now f _ = record { rules = c.in-Ok.entered.rules; digest = c.in-Ok.entered.digest; are = c.in-Ok.ensures.rules (inl work) } in let ok = after_good_was_ok _ _ c.held-ended.result c.close.result c.held-ended.ensures.causes.fault c.close.ensures.end good in
    let done = done_unlocked mode c.args.limits.now _ _ _ c.in-Ok.entered.digest f _ _ (c.in-Ok.ensures.others work)
    (done_closed mode c.args.limits.now _ _ _ c.in-Ok.entered.digest _ _ _
    (on_ok c.held-ended.result ok (c.held-ended.ensures.resynced mode mode_is one two work dry))
    (c.close.ensures.kept work (falls_ok c.args.opts.now.resilient c.args.opts.now.dry_run c.held-ended.result ok))) in (m, done)

pub returns-clause-numbers : goal.returns-clause-numbers
returns-clause-numbers g c mode mode_is one two work good =
    let a = g.A.Remote.state c.args.one.now in let b = g.B.Remote.state c.args.two.now in let s = sides_of c.args.opts.now.compare c.in-Ok.entered.rules a b in let f = (g.W.Work.state c.args.work.now).folder in let m : Matter c.args.opts.now f (by_side a b) = record { rules = c.in-Ok.entered.rules; digest = c.in-Ok.entered.digest; are = c.in-Ok.ensures.rules work } in
    (m, numbers_closed (IsGoodEndOf c.args.opts.now.dry_run mode s) _ _ c.held-ended.result c.close.result c.held-ended.ensures.causes.fault c.close.ensures.end (c.held-ended.ensures.good mode mode_is one two) good)

pub returns-clause-base : goal.returns-clause-base
returns-clause-base g c mode mode_is one two work base is =
    let f = (g.W.Work.state c.args.work.now).folder in let m : Matter c.args.opts.now f _ = record { rules = c.in-Ok.entered.rules; digest = c.in-Ok.entered.digest; are = c.in-Ok.ensures.rules (inl work) } in
    ⊎_elim inl (λ other. inr (⊎_elim inl (λ made. inr (m, made)) other))
    (base_unlocked mode c.args.limits.now _ _ _ f _ _ (c.in-Ok.ensures.others work)
    (base_closed mode c.args.limits.now _ _ _ _ _ _ (c.held-ended.ensures.base mode mode_is one two work) (c.close.ensures.closes work)) base is)

pub returns-in-Err-clause-trees : goal.returns-in-Err-clause-trees
returns-in-Err-clause-trees g c mode mode_is one two work = inl (untouched_same (by_side (g.A.Remote.state c.args.one.now) (g.B.Remote.state c.args.two.now)), kept_unlocked _ _ _ (c.in-Err.ensures.others work))

pub returns-clause-trees : goal.returns-clause-trees
returns-clause-trees g c mode mode_is one two work =
    let f = (g.W.Work.state c.args.work.now).folder in let m : Matter c.args.opts.now f _ = record { rules = c.in-Ok.entered.rules; digest = c.in-Ok.entered.digest; are = c.in-Ok.ensures.rules (inl work) } in
    ⊎_elim (λ early. inl (early.0, kept_early c.args.opts.now.resilient c.args.opts.now.dry_run c.held-ended.result c.close.result c.close.ensures.end f _ _ _ (c.in-Ok.ensures.others work) (c.close.ensures.fall work) (c.close.ensures.kept work) early.1)) (λ some. inr (c.in-Ok.ensures.free work, (m, none_before mode c.args.limits.now f _ (c.in-Ok.ensures.others work) _ some.0, some.1, some.2)))
    (c.held-ended.ensures.trees mode mode_is one two work)

pub returns-clause-untouched_one : goal.returns-clause-untouched_one
returns-clause-untouched_one g c early = c.held-ended.ensures.early_one (early_closed c.held-ended.result c.close.result c.close.ensures.end early)

pub returns-clause-untouched_two : goal.returns-clause-untouched_two
returns-clause-untouched_two g c early = c.held-ended.ensures.early_two (early_closed c.held-ended.result c.close.result c.close.ensures.end early)

pub returns-clause-dry : goal.returns-clause-dry
returns-clause-dry g c work dry =
    changes_closed (g.W.Work.state c.args.work.now).folder (g.W.Work.state c.enter.new.work).folder (g.W.Work.state c.held-ended.new.work).folder (g.W.Work.state c.close.new.work).folder
    (c.in-Ok.ensures.others work) (c.held-ended.ensures.dry dry work)
    (c.close.ensures.kept work (falls_dry c.args.opts.now.resilient c.args.opts.now.dry_run c.held-ended.result dry))

pub returns-clause-set_aside : goal.returns-clause-set_aside
returns-clause-set_aside g c mode mode_is work dry good =
    let f = (g.W.Work.state c.args.work.now).folder in let f2 = (g.W.Work.state c.enter.new.work).folder in let mid = (g.W.Work.state c.held-ended.new.work).folder in let h = (g.W.Work.state c.close.new.work).folder in let ok = after_good_was_ok _ _ c.held-ended.result c.close.result c.held-ended.ensures.causes.fault c.close.ensures.end good in
    aside_closed c.args.opts.now c.in-Ok.entered.rules c.in-Ok.entered.digest f f2 mid h (c.in-Ok.ensures.rules (inl work)) (c.in-Ok.ensures.others work)
    (on_ok c.held-ended.result ok (c.held-ended.ensures.set_aside mode mode_is work dry)) (c.close.ensures.kept work (falls_ok c.args.opts.now.resilient c.args.opts.now.dry_run c.held-ended.result ok))

pub returns-clause-only : goal.returns-clause-only
returns-clause-only g c mode mode_is = own_closed c.args.opts.now c.held-ended.result c.close.result c.close.ensures.end (c.held-ended.ensures.kind mode mode_is)

pub returns-clause-kept : goal.returns-clause-kept
returns-clause-kept g c work early =
    kept_early c.args.opts.now.resilient c.args.opts.now.dry_run c.held-ended.result c.close.result c.close.ensures.end _ _ (g.W.Work.state c.held-ended.new.work).folder _ (c.in-Ok.ensures.others work) (c.close.ensures.fall work) (c.close.ensures.kept work)
    (c.held-ended.ensures.early (early_closed c.held-ended.result c.close.result c.close.ensures.end early) work)

pub returns-clause-freed : goal.returns-clause-freed
returns-clause-freed g c work freed =
    let was = freed_was_good _ _ c.held-ended.result c.close.result c.held-ended.ensures.well c.held-ended.ensures.causes.fault c.close.ensures.end freed in
    c.close.ensures.good work was.0 was.1

pub returns-clause-lock_new : goal.returns-clause-lock_new
returns-clause-lock_new g c work sure =
    let a = (g.W.Work.state c.args.work.now).faults in let b = (g.W.Work.state c.enter.new.work).faults in let m = (g.W.Work.state c.held-ended.new.work).faults in let z = (g.W.Work.state c.close.new.work).faults in
    let still = ⊎_elim (λ good. inl (after_good_was_ok _ _ c.held-ended.result c.close.result c.held-ended.ensures.causes.fault c.close.ensures.end good))
    (λ never. inr (no_rise_mid a b m z never c.in-Ok.ensures.causes.later.work c.close.ensures.later)) sure in
    lock_new_twice (lock_new_twice (c.in-Ok.ensures.lock_new work) (c.held-ended.ensures.lock_new work still))
    (lock_new_closed (g.W.Work.state c.held-ended.new.work).folder (g.W.Work.state c.close.new.work).folder (c.close.ensures.closes work))

pub returns-clause-no_digest : goal.returns-clause-no_digest
returns-clause-no_digest g c work none =
    no_digest_closed c.args.opts.now.filters c.in-Ok.entered.rules c.in-Ok.entered.digest (g.W.Work.state c.args.work.now).folder (g.W.Work.state c.enter.new.work).folder (g.W.Work.state c.held-ended.new.work).folder
    (g.W.Work.state c.close.new.work).folder (c.in-Ok.ensures.rules (inl work)) none (c.in-Ok.ensures.others work) (c.held-ended.ensures.no_digest work) (c.close.ensures.closes work)

pub returns-clause-entry : goal.returns-clause-entry
returns-clause-entry g c work un = absurd (locked_closed c.held-ended.result c.close.result c.close.ensures.end c.held-ended.ensures.only un)

pub returns-clause-told : goal.returns-clause-told
returns-clause-told g c = closed_told (by_side g.A.Remote.tells g.B.Remote.tells) (by_side (g.A.Remote.state c.args.one.now) (g.B.Remote.state c.args.two.now)) c.held-ended.result c.close.result c.close.ensures.end c.held-ended.ensures.told

pub returns-clause-quiet : goal.returns-clause-quiet
returns-clause-quiet g c sink never quiet = c.held-ended.ensures.quiet sink never (quiet_closed c.held-ended.result c.close.result c.close.ensures.end quiet)

pub returns-clause-lines : goal.returns-clause-lines
returns-clause-lines g c sink = c.held-ended.ensures.lines sink

pub returns-in-Err-clause-built : goal.returns-in-Err-clause-built
returns-in-Err-clause-built g c = unlocked_built c.in-Err.end c.in-Err.ensures.only

pub returns-clause-built : goal.returns-clause-built
returns-clause-built g c = closed_built _ _ c.held-ended.result c.close.result c.held-ended.ensures.well c.held-ended.ensures.causes.fault c.close.ensures.end

pub returns-in-Err-clause-report : goal.returns-in-Err-clause-report
returns-in-Err-clause-report g c mode mode_is one two sink work = tells_unlocked_resync mode c.args.opts.now c.args.limits.now g.W.Work.tells _ _ _ _ c.in-Err.end (unlocked_not_after_good c.args.opts.now.filters c.in-Err.end c.in-Err.ensures.kind) (untouched_same _) (λ t. kept_unlocked _ _ _ (c.in-Err.ensures.others t))

pub returns-clause-report : goal.returns-clause-report
returns-clause-report g c mode mode_is one two sink work =
    let a = g.A.Remote.state c.args.one.now in let b = g.B.Remote.state c.args.two.now in let f = (g.W.Work.state c.args.work.now).folder in let m : Matter c.args.opts.now f (by_side a b) = record { rules = c.in-Ok.entered.rules; digest = c.in-Ok.entered.digest; are = c.in-Ok.ensures.rules work } in
    tells_closed mode c.args.opts.now c.args.limits.now g.W.Work.tells f (g.W.Work.state c.close.new.work).folder (by_side a b) (by_side (g.A.Remote.state c.held-ended.new.one) (g.B.Remote.state c.held-ended.new.two)) m _ _ _
    (g.S.Sink.state c.args.sink.now).bytes (g.S.Sink.state c.held-ended.new.sink).bytes _ _ c.held-ended.result c.close.result
    c.held-ended.ensures.well c.held-ended.ensures.causes.fault c.close.ensures.end (λ kept t. kept_early c.args.opts.now.resilient c.args.opts.now.dry_run c.held-ended.result c.close.result c.close.ensures.end f _ _ _ (c.in-Ok.ensures.others t) (c.close.ensures.fall t) (c.close.ensures.kept t) (kept t)) (λ ok t. none_before mode c.args.limits.now f _ (c.in-Ok.ensures.others t) _ (ok t))
    (λ end same fell t. fell_late c.args.opts.now c.in-Ok.entered.rules c.in-Ok.entered.digest end c.close.result f (g.W.Work.state c.enter.new.work).folder (g.W.Work.state c.held-ended.new.work).folder _ (c.in-Ok.ensures.rules (inl t)) (c.in-Ok.ensures.others t) (c.close.ensures.closes t) same (fell t) (c.close.ensures.stays_fallen t)) (c.held-ended.ensures.report mode mode_is one two sink)

-- # An ordinary run

pub returns-in-Err-clause-run_answers : goal.returns-in-Err-clause-run_answers
returns-in-Err-clause-run_answers g c none one two work = inl (c.in-Err.ensures.entry work)

pub returns-in-Err-clause-unrefused : goal.returns-in-Err-clause-unrefused
returns-in-Err-clause-unrefused g c none one two work good = absurd (unlocked_not_after_good c.args.opts.now.filters c.in-Err.end c.in-Err.ensures.kind good)

pub returns-in-Err-clause-done : goal.returns-in-Err-clause-done
returns-in-Err-clause-done g c none one two work dry only good = absurd (unlocked_not_after_good c.args.opts.now.filters c.in-Err.end c.in-Err.ensures.kind good)

pub returns-in-Err-clause-run_numbers : goal.returns-in-Err-clause-run_numbers
returns-in-Err-clause-run_numbers g c none one two work good = absurd (unlocked_not_after_good c.args.opts.now.filters c.in-Err.end c.in-Err.ensures.kind (good_is_after_good c.in-Err.end good))

pub returns-in-Err-clause-run_base : goal.returns-in-Err-clause-run_base
returns-in-Err-clause-run_base g c none one two work base is = inl (base_past (g.W.Work.state c.args.work.now).folder (g.W.Work.state c.enter.new.work).folder (c.in-Err.ensures.others work) c.args.limits.now.listing base is)

pub returns-in-Err-clause-resilient_base : goal.returns-in-Err-clause-resilient_base
returns-in-Err-clause-resilient_base g c none one two work stays base is = inl (base_past (g.W.Work.state c.args.work.now).folder (g.W.Work.state c.enter.new.work).folder (c.in-Err.ensures.others work) c.args.limits.now.listing base is)

pub returns-in-Err-clause-run_trees : goal.returns-in-Err-clause-run_trees
returns-in-Err-clause-run_trees g c none one two work = inl (untouched_same (by_side (g.A.Remote.state c.args.one.now) (g.B.Remote.state c.args.two.now)), kept_unlocked _ _ _ (c.in-Err.ensures.others work))

pub returns-in-Err-clause-run_rest : goal.returns-in-Err-clause-run_rest
returns-in-Err-clause-run_rest g c none work = rest_locked _ (g.W.Work.state c.args.work.now).folder (g.W.Work.state c.enter.new.work).folder (c.in-Err.ensures.others work)

pub returns-in-Err-clause-only_run : goal.returns-in-Err-clause-only_run
returns-in-Err-clause-only_run g c none = unlocked_is_ordinary c.args.opts.now _ c.in-Err.end c.in-Err.ensures.kind

pub returns-in-Err-clause-run_report : goal.returns-in-Err-clause-run_report
returns-in-Err-clause-run_report g c none one two work sink =
    tells_unlocked c.args.opts.now c.args.limits.now (g.W.Work.state c.args.work.now).folder (by_side (g.A.Remote.state c.args.one.now) (g.B.Remote.state c.args.two.now)) (g.W.Work.state c.enter.new.work).folder
    (g.S.Sink.state c.args.sink.now).bytes c.in-Err.end (unlocked_not_after_good c.args.opts.now.filters c.in-Err.end c.in-Err.ensures.kind)
    (untouched_same (by_side (g.A.Remote.state c.args.one.now) (g.B.Remote.state c.args.two.now))) (kept_unlocked _ _ _ (c.in-Err.ensures.others work))

pub returns-clause-run_answers : goal.returns-clause-run_answers
returns-clause-run_answers g c none one two work =
    let a = g.A.Remote.state c.args.one.now in let b = g.B.Remote.state c.args.two.now in let f = (g.W.Work.state c.args.work.now).folder in let m : Matter c.args.opts.now f (by_side a b) = record { rules = c.in-Ok.entered.rules; digest = c.in-Ok.entered.digest; are = c.in-Ok.ensures.rules (inl work) } in
    let s = sides_of c.args.opts.now.compare c.in-Ok.entered.rules a b in let f2 = (g.W.Work.state c.enter.new.work).folder in
    let answer = run_answers_before c.args.opts.now c.args.limits.now f f2 (c.in-Ok.ensures.others work) s c.in-Ok.entered.digest c.close.result
    (run_answers_closed c.args.opts.now c.args.limits.now f2 s c.in-Ok.entered.digest c.held-ended.result c.close.result c.close.ensures.end
    (c.held-ended.ensures.run_answers none one two work) (c.held-ended.ensures.unrefused none one two work)) in
    inr (c.in-Ok.ensures.free work, (m, answer))

pub returns-clause-unrefused : goal.returns-clause-unrefused
returns-clause-unrefused g c none one two work good =
    let f = (g.W.Work.state c.args.work.now).folder in let m : Matter c.args.opts.now f _ = record { rules = c.in-Ok.entered.rules; digest = c.in-Ok.entered.digest; are = c.in-Ok.ensures.rules (inl work) } in
    let ok = after_good_was_ok _ _ c.held-ended.result c.close.result c.held-ended.ensures.causes.fault c.close.ensures.end good in
    (c.in-Ok.ensures.free work, (m, unrefused_before c.args.opts.now c.args.limits.now f _ (c.in-Ok.ensures.others work) _ _ (on_ok c.held-ended.result ok (c.held-ended.ensures.unrefused none one two work))))

pub returns-clause-done : goal.returns-clause-done
returns-clause-done g c none one two work dry only good =
    let f = (g.W.Work.state c.args.work.now).folder in let m : Matter c.args.opts.now f _ = record { rules = c.in-Ok.entered.rules; digest = c.in-Ok.entered.digest; are = c.in-Ok.ensures.rules (inl work) } in
    let ok = after_good_was_ok _ _ c.held-ended.result c.close.result c.held-ended.ensures.causes.fault c.close.ensures.end good in
    let done = run_done_closed c.args.opts.now c.args.limits.now _ c.in-Ok.entered.digest _ _ f _ _ _ (c.in-Ok.ensures.others work)
    (on_ok c.held-ended.result ok (c.held-ended.ensures.done none one two work dry only))
    (c.close.ensures.kept work (falls_ok c.args.opts.now.resilient c.args.opts.now.dry_run c.held-ended.result ok)) in (m, done)

pub returns-clause-run_numbers : goal.returns-clause-run_numbers
returns-clause-run_numbers g c none one two work good =
    let a = g.A.Remote.state c.args.one.now in let b = g.B.Remote.state c.args.two.now in
    let f = (g.W.Work.state c.args.work.now).folder in let m : Matter c.args.opts.now f (by_side a b) = record { rules = c.in-Ok.entered.rules; digest = c.in-Ok.entered.digest; are = c.in-Ok.ensures.rules (inl work) } in
    let s = sides_of c.args.opts.now.compare c.in-Ok.entered.rules a b in
    let f2 = (g.W.Work.state c.enter.new.work).folder in
    let done = good_before c.args.opts.now c.args.limits.now f f2 (c.in-Ok.ensures.others work) s c.in-Ok.entered.digest c.close.result
    (numbers_closed (IsGoodOrdinaryEnd c.args.opts.now c.args.limits.now f2 s c.in-Ok.entered.digest) _ _ c.held-ended.result c.close.result c.held-ended.ensures.causes.fault
    c.close.ensures.end (c.held-ended.ensures.run_good none one two work) good) in (m, done)

pub returns-clause-run_base : goal.returns-clause-run_base
returns-clause-run_base g c none one two work base is =
    let f = (g.W.Work.state c.args.work.now).folder in let m : Matter c.args.opts.now f _ = record { rules = c.in-Ok.entered.rules; digest = c.in-Ok.entered.digest; are = c.in-Ok.ensures.rules (inl work) } in
    ⊎_elim inl (λ other. inr (⊎_elim inl (λ made. inr (m, made)) other))
    (run_base_closed c.args.opts.now c.args.limits.now _ c.in-Ok.entered.digest _ f _ _ _ (c.in-Ok.ensures.others work)
    (c.held-ended.ensures.run_base none one two work) (c.close.ensures.closes work) base is)

pub returns-clause-resilient_base : goal.returns-clause-resilient_base
returns-clause-resilient_base g c none one two work stays base is =
    let f = (g.W.Work.state c.args.work.now).folder in let m : Matter c.args.opts.now f _ = record { rules = c.in-Ok.entered.rules; digest = c.in-Ok.entered.digest; are = c.in-Ok.ensures.rules (inl work) } in
    ⊎_elim inl (λ made. inr (m, made))
    (base_kept c.args.opts.now c.args.limits.now _ c.in-Ok.entered.digest _ f _ _ _ (c.in-Ok.ensures.others work) (c.held-ended.ensures.run_base none one two work)
    (c.close.ensures.kept work (falls_resilient c.args.opts.now.resilient c.args.opts.now.dry_run c.held-ended.result stays)) base is)

pub returns-clause-run_trees : goal.returns-clause-run_trees
returns-clause-run_trees g c none one two work =
    let f = (g.W.Work.state c.args.work.now).folder in let m : Matter c.args.opts.now f _ = record { rules = c.in-Ok.entered.rules; digest = c.in-Ok.entered.digest; are = c.in-Ok.ensures.rules (inl work) } in
    ⊎_elim (λ early. inl (early.0, kept_early c.args.opts.now.resilient c.args.opts.now.dry_run c.held-ended.result c.close.result c.close.ensures.end f _ _ _ (c.in-Ok.ensures.others work) (c.close.ensures.fall work) (c.close.ensures.kept work) early.1))
    (λ way. inr (c.in-Ok.ensures.free work, (m, way_before c.args.opts.now c.args.limits.now _ c.in-Ok.entered.digest _ f _ (c.in-Ok.ensures.others work) way)))
    (c.held-ended.ensures.run_trees none one two work)

pub returns-clause-run_rest : goal.returns-clause-run_rest
returns-clause-run_rest g c none work =
    rest_closed _ _ _ _ _ (c.in-Ok.ensures.others work) (c.held-ended.ensures.run_rest none work) (c.close.ensures.closes work)
    (λ stays. c.close.ensures.kept work (falls_closed c.args.opts.now.resilient c.args.opts.now.dry_run c.held-ended.result c.close.result c.close.ensures.end stays))

pub returns-clause-only_run : goal.returns-clause-only_run
returns-clause-only_run g c none = ordinary_closed c.args.opts.now _ c.held-ended.result c.close.result c.close.ensures.end (c.held-ended.ensures.run_kind none)

pub returns-clause-run_report : goal.returns-clause-run_report
returns-clause-run_report g c none one two work sink =
    let f = (g.W.Work.state c.args.work.now).folder in let m : Matter c.args.opts.now f _ = record { rules = c.in-Ok.entered.rules; digest = c.in-Ok.entered.digest; are = c.in-Ok.ensures.rules (inl work) } in
    run_tells_closed c.args.opts.now c.args.limits.now f _ _ _ (c.in-Ok.ensures.others work) (c.close.ensures.closes work) _ _ m
    (g.S.Sink.state c.args.sink.now).bytes (g.S.Sink.state c.held-ended.new.sink).bytes _ _ c.held-ended.result c.close.result
    c.held-ended.ensures.well c.held-ended.ensures.causes.fault c.close.ensures.end (kept_early c.args.opts.now.resilient c.args.opts.now.dry_run c.held-ended.result c.close.result c.close.ensures.end f _ _ _ (c.in-Ok.ensures.others work) (c.close.ensures.fall work) (c.close.ensures.kept work)) (c.held-ended.ensures.run_report none one two work sink)

pub returns-in-Err-clause-only_base : goal.returns-in-Err-clause-only_base
returns-in-Err-clause-only_base g c none only work = kept_unlocked _ _ _ (c.in-Err.ensures.others work)

pub returns-clause-only_base : goal.returns-clause-only_base
returns-clause-only_base g c none only work = kept_early _ _ c.held-ended.result c.close.result c.close.ensures.end _ _ _ _ (c.in-Ok.ensures.others work) (c.close.ensures.fall work) (c.close.ensures.kept work) (c.held-ended.ensures.compares none only work)

pub returns-clause-blocked : goal.returns-clause-blocked
returns-clause-blocked g c work = blocked_nowhere (g.W.Work.state c.args.work.now).folder _ _ _ (c.in-Ok.ensures.free work)

pub returns-in-Err-clause-entered : goal.returns-in-Err-clause-entered
returns-in-Err-clause-entered g c work = inl (c.in-Err.ensures.only, c.in-Err.ensures.others work, keeps_tree_same g.A.Remote.tells (g.A.Remote.state c.args.one.now), keeps_tree_same g.B.Remote.tells (g.B.Remote.state c.args.two.now))

pub returns-clause-entered : goal.returns-clause-entered
returns-clause-entered g c work = inr (c.in-Ok.ensures.free work, (c.in-Ok.entered.rules, c.in-Ok.entered.digest, c.in-Ok.ensures.rules (inl work)))

pub returns-in-Err-clause-fell : goal.returns-in-Err-clause-fell
returns-in-Err-clause-fell g c work fell never =
    absurd (never (unlocked_fell c.args.opts.now.filters (counts 0 0 (g.W.Work.state c.args.work.now).faults 0) (counts 0 0 (g.W.Work.state c.enter.new.work).faults 0)
    c.args.opts.now.resilient c.args.opts.now.dry_run c.in-Err.end c.in-Err.ensures.kind c.in-Err.ensures.causes.fault fell))

pub returns-clause-fell : goal.returns-clause-fell
returns-clause-fell g c work fell never =
    let falls = fell_closed c.args.opts.now.resilient c.args.opts.now.dry_run c.held-ended.result c.close.result c.held-ended.ensures.well c.close.ensures.end fell in
    let still = no_rise_mid _ (g.W.Work.state c.enter.new.work).faults (g.W.Work.state c.held-ended.new.work).faults _ never c.in-Ok.ensures.causes.later.work c.close.ensures.later in
    fell_before _ _ (g.W.Work.state c.held-ended.new.work).folder _ (c.in-Ok.ensures.others work) (where_it_falls c.args.opts.now.resilient c.args.opts.now.dry_run c.held-ended.result falls (c.held-ended.ensures.falls_as work still))
    (c.close.ensures.fell work falls (no_rise_last _ (g.W.Work.state c.enter.new.work).faults (g.W.Work.state c.held-ended.new.work).faults _ never c.in-Ok.ensures.causes.later.work c.held-ended.ensures.causes.later.work))

-- # What the work folder alone tells

pub returns-in-Err-clause-begins : goal.returns-in-Err-clause-begins
returns-in-Err-clause-begins g c none work = inl (c.in-Err.ensures.entry work)

pub returns-in-Err-clause-begun : goal.returns-in-Err-clause-begun
returns-in-Err-clause-begun g c none work good = absurd (unlocked_not_after_good c.args.opts.now.filters c.in-Err.end c.in-Err.ensures.kind good)

pub returns-clause-begins : goal.returns-clause-begins
returns-clause-begins g c none work =
    let f = (g.W.Work.state c.args.work.now).folder in let f2 = (g.W.Work.state c.enter.new.work).folder in
    let s = sides_of c.args.opts.now.compare c.in-Ok.entered.rules (g.A.Remote.state c.args.one.now) (g.B.Remote.state c.args.two.now) in
    let m : Matter c.args.opts.now f _ = record { rules = c.in-Ok.entered.rules; digest = c.in-Ok.entered.digest; are = c.in-Ok.ensures.rules (inl work) } in
    let answer = begins_before c.args.opts.now c.args.limits.now f f2 (c.in-Ok.ensures.others work) s c.in-Ok.entered.digest c.close.result
    (begins_closed c.args.opts.now c.args.limits.now f2 s c.in-Ok.entered.digest c.held-ended.result c.close.result c.close.ensures.end
    (c.held-ended.ensures.begins none work) (c.held-ended.ensures.begun none work)) in
    inr (c.in-Ok.ensures.free work, (m, answer))

pub returns-clause-begun : goal.returns-clause-begun
returns-clause-begun g c none work good =
    let f = (g.W.Work.state c.args.work.now).folder in let f2 = (g.W.Work.state c.enter.new.work).folder in
    let s = sides_of c.args.opts.now.compare c.in-Ok.entered.rules (g.A.Remote.state c.args.one.now) (g.B.Remote.state c.args.two.now) in
    let m : Matter c.args.opts.now f _ = record { rules = c.in-Ok.entered.rules; digest = c.in-Ok.entered.digest; are = c.in-Ok.ensures.rules (inl work) } in
    let ok = after_good_was_ok _ _ c.held-ended.result c.close.result c.held-ended.ensures.causes.fault c.close.ensures.end good in
    (c.in-Ok.ensures.free work, (m, well_before c.args.opts.now c.args.limits.now f f2 (c.in-Ok.ensures.others work) s c.in-Ok.entered.digest (on_ok c.held-ended.result ok (c.held-ended.ensures.begun none work))))

pub returns-in-Err-clause-folder_base : goal.returns-in-Err-clause-folder_base
returns-in-Err-clause-folder_base g c work = folder_base_unlocked c.args.opts.now c.args.limits.now (by_side (g.A.Remote.state c.args.one.now) (g.B.Remote.state c.args.two.now)) c.in-Err.end (g.W.Work.state c.args.work.now).folder (g.W.Work.state c.enter.new.work).folder (c.in-Err.ensures.others work)

pub returns-in-Err-clause-folder_next : goal.returns-in-Err-clause-folder_next
returns-in-Err-clause-folder_next g c work writes good = absurd (unlocked_not_after_good c.args.opts.now.filters c.in-Err.end c.in-Err.ensures.kind good)

pub returns-clause-folder_base : goal.returns-clause-folder_base
returns-clause-folder_base g c work =
    let f = (g.W.Work.state c.args.work.now).folder in let start = by_side (g.A.Remote.state c.args.one.now) (g.B.Remote.state c.args.two.now) in
    let m : Matter c.args.opts.now f start = record { rules = c.in-Ok.entered.rules; digest = c.in-Ok.entered.digest; are = c.in-Ok.ensures.rules (inl work) } in
    folder_base_closed c.args.opts.now c.args.limits.now start f (g.W.Work.state c.enter.new.work).folder (g.W.Work.state c.held-ended.new.work).folder (g.W.Work.state c.close.new.work).folder
    (c.in-Ok.ensures.others work) m c.held-ended.result c.close.result c.close.ensures.end (c.held-ended.ensures.folder_base work) (c.close.ensures.closes work) (c.close.ensures.kept work)

pub returns-clause-folder_next : goal.returns-clause-folder_next
returns-clause-folder_next g c work writes good =
    let ok = after_good_was_ok _ _ c.held-ended.result c.close.result c.held-ended.ensures.causes.fault c.close.ensures.end good in
    folder_next_closed c.args.opts.now c.args.limits.now (by_side (g.A.Remote.state c.args.one.now) (g.B.Remote.state c.args.two.now)) (g.W.Work.state c.args.work.now).folder (g.W.Work.state c.enter.new.work).folder
    (g.W.Work.state c.held-ended.new.work).folder (g.W.Work.state c.close.new.work).folder (c.in-Ok.ensures.others work)
    (c.close.ensures.kept work (falls_ok c.args.opts.now.resilient c.args.opts.now.dry_run c.held-ended.result ok)) (on_ok c.held-ended.result ok (c.held-ended.ensures.folder_next work writes))

-- # What is left of some names

pub returns-in-Err-clause-own_lock : goal.returns-in-Err-clause-own_lock
returns-in-Err-clause-own_lock g c work = inr (inr (c.in-Err.ensures.only, c.in-Err.ensures.others work, (keeps_tree_same g.A.Remote.tells (g.A.Remote.state c.args.one.now), keeps_tree_same g.B.Remote.tells (g.B.Remote.state c.args.two.now)), c.in-Err.ensures.makes_lock work))

pub returns-clause-own_lock : goal.returns-clause-own_lock
returns-clause-own_lock g c work = own_lock_closed c.args.opts.now _ _ _ _ c.close.result (g.W.Work.state c.args.work.now).folder (g.W.Work.state c.enter.new.work).folder (g.W.Work.state c.held-ended.new.work).folder (g.W.Work.state c.close.new.work).folder (c.in-Ok.entered.rules, c.in-Ok.entered.digest, c.in-Ok.ensures.rules (inl work)) c.in-Ok.ensures.moment (c.in-Ok.ensures.own_lock work) (c.held-ended.ensures.own_lock work) (c.close.ensures.closes work).lock

pub returns-in-Err-clause-set_back : goal.returns-in-Err-clause-set_back
returns-in-Err-clause-set_back g c none work before is = inl (keeps_tree_same g.A.Remote.tells (g.A.Remote.state c.args.one.now), keeps_tree_same g.B.Remote.tells (g.B.Remote.state c.args.two.now))

pub returns-clause-set_back : goal.returns-clause-set_back
returns-clause-set_back g c none work =
    old_closed c.args.limits.now _ (g.W.Work.state c.args.work.now).folder (g.W.Work.state c.enter.new.work).folder (g.W.Work.state c.held-ended.new.work).folder (g.W.Work.state c.close.new.work).folder (c.in-Ok.ensures.others work) (c.close.ensures.closes work) _
    (c.held-ended.ensures.set_back none work)

pub returns-in-Err-clause-stands : goal.returns-in-Err-clause-stands
returns-in-Err-clause-stands g c none work = inl ((keeps_tree_same g.A.Remote.tells (g.A.Remote.state c.args.one.now), keeps_tree_same g.B.Remote.tells (g.B.Remote.state c.args.two.now)), kept_unlocked _ _ _ (c.in-Err.ensures.others work))

pub returns-clause-stands : goal.returns-clause-stands
returns-clause-stands g c none work =
    ⊎_elim (λ early. inl (early.0, kept_early c.args.opts.now.resilient c.args.opts.now.dry_run c.held-ended.result c.close.result c.close.ensures.end (g.W.Work.state c.args.work.now).folder _ _ _ (c.in-Ok.ensures.others work) (c.close.ensures.fall work) (c.close.ensures.kept work) early.1))
    (λ stands. inr (stands_by_close c.args.limits.now (g.W.Work.state c.args.work.now).folder _ _ _ (c.in-Ok.ensures.others work) (c.close.ensures.closes work) c.held-ended.result c.close.result c.close.ensures.end stands))
    (c.held-ended.ensures.stands none work)

pub returns-in-Err-clause-names : goal.returns-in-Err-clause-names
returns-in-Err-clause-names g c work = locked_own c.args.limits.now.listing _ _ _ _ (c.in-Err.ensures.others work) (own_same c.args.limits.now.listing _ (g.W.Work.state c.args.work.now).folder)

pub returns-clause-names : goal.returns-clause-names
returns-clause-names g c work = c.close.ensures.names work c.args.limits.now.listing _ _ (own_before c.args.limits.now.listing _ _ _ (c.in-Ok.ensures.others work) _ (c.held-ended.ensures.names work))

pub returns-in-Err-clause-unlocked : goal.returns-in-Err-clause-unlocked
returns-in-Err-clause-unlocked g c un = (λ work. c.in-Err.ensures.kept work (λ is. false_true (sym (ap is_unlocked is) ∙ un)), c.in-Err.ensures.steady un)

pub returns-clause-unlocked : goal.returns-clause-unlocked
returns-clause-unlocked g c un = absurd (locked_closed c.held-ended.result c.close.result c.close.ensures.end c.held-ended.ensures.only un)

pub returns-in-Err-clause-mixed : goal.returns-in-Err-clause-mixed
returns-in-Err-clause-mixed g c mode mode_is one two known = inl (untouched_same (by_side (g.A.Remote.state c.args.one.now) (g.B.Remote.state c.args.two.now)))

pub returns-clause-mixed : goal.returns-clause-mixed
returns-clause-mixed g c mode mode_is one two known = ⊎_elim inl (λ mix. inr (record { rules = c.in-Ok.entered.rules; digest = c.in-Ok.entered.digest; are = c.in-Ok.ensures.rules known }, mix)) (c.held-ended.ensures.mixed mode mode_is one two)

pub returns-in-Err-clause-outcome : goal.returns-in-Err-clause-outcome
returns-in-Err-clause-outcome g c mode mode_is one two known dry good = absurd (unlocked_not_after_good c.args.opts.now.filters c.in-Err.end c.in-Err.ensures.kind good)

pub returns-clause-outcome : goal.returns-clause-outcome
returns-clause-outcome g c mode mode_is one two known dry good =
    let ok = after_good_was_ok _ _ c.held-ended.result c.close.result c.held-ended.ensures.causes.fault c.close.ensures.end good in
    (record { rules = c.in-Ok.entered.rules; digest = c.in-Ok.entered.digest; are = c.in-Ok.ensures.rules known }, on_ok c.held-ended.result ok (c.held-ended.ensures.outcome mode mode_is one two dry))

pub returns-in-Err-clause-resync_fell : goal.returns-in-Err-clause-resync_fell
returns-in-Err-clause-resync_fell g c mode mode_is work never bad = inl ((keeps_tree_same g.A.Remote.tells (g.A.Remote.state c.args.one.now), keeps_tree_same g.B.Remote.tells (g.B.Remote.state c.args.two.now)), inl (c.in-Err.ensures.others work))

pub returns-clause-resync_fell : goal.returns-clause-resync_fell
returns-clause-resync_fell g c mode mode_is work never bad =
    let still = no_rise_mid _ (g.W.Work.state c.enter.new.work).faults (g.W.Work.state c.held-ended.new.work).faults _ never c.in-Ok.ensures.causes.later.work c.close.ensures.later in
    let last = no_rise_last _ (g.W.Work.state c.enter.new.work).faults (g.W.Work.state c.held-ended.new.work).faults _ never c.in-Ok.ensures.causes.later.work c.held-ended.ensures.causes.later.work in
    resync_fell c.args.opts.now c.in-Ok.entered.rules c.in-Ok.entered.digest _ c.held-ended.result c.close.result _ (g.W.Work.state c.enter.new.work).folder (g.W.Work.state c.held-ended.new.work).folder _ (c.in-Ok.ensures.rules (inl work))
    c.held-ended.ensures.well c.close.ensures.end bad (c.in-Ok.ensures.others work) (c.close.ensures.closes work) (c.held-ended.ensures.fell mode mode_is work still) (c.close.ensures.kept work) (λ falls. c.close.ensures.fell work falls last)

pub returns-in-Err-clause-digest_late : goal.returns-in-Err-clause-digest_late
returns-in-Err-clause-digest_late g c mode mode_is work base is =
    inl (base_past (g.W.Work.state c.args.work.now).folder (g.W.Work.state c.enter.new.work).folder (c.in-Err.ensures.others work) c.args.limits.now.listing base is, (keeps_tree_same g.A.Remote.tells (g.A.Remote.state c.args.one.now), keeps_tree_same g.B.Remote.tells (g.B.Remote.state c.args.two.now)), ap (λ (w : WorkFolder). w.filters_md5) (c.in-Err.ensures.others work).rest)

pub returns-clause-digest_late : goal.returns-clause-digest_late
returns-clause-digest_late g c mode mode_is work =
    late_closed c.args.limits.now _ (g.W.Work.state c.args.work.now).folder (g.W.Work.state c.enter.new.work).folder (g.W.Work.state c.held-ended.new.work).folder (g.W.Work.state c.close.new.work).folder (c.in-Ok.ensures.others work) (c.close.ensures.closes work) _ c.args.opts.now
    (by_side (g.A.Remote.state c.args.one.now) (g.B.Remote.state c.args.two.now)) refl (record { rules = c.in-Ok.entered.rules; digest = c.in-Ok.entered.digest; are = c.in-Ok.ensures.rules (inl work) }) (c.held-ended.ensures.digest_late mode mode_is work)

pub returns-clause-causes : goal.returns-clause-causes
returns-clause-causes g c =
    caused_closed (g.A.Remote.state c.args.one.now).faults (g.B.Remote.state c.args.two.now).faults (g.W.Work.state c.args.work.now).faults (g.S.Sink.state c.args.sink.now).faults (g.W.Work.state c.enter.new.work).faults
    (g.A.Remote.state c.held-ended.new.one).faults (g.B.Remote.state c.held-ended.new.two).faults (g.W.Work.state c.held-ended.new.work).faults (g.S.Sink.state c.held-ended.new.sink).faults (g.W.Work.state c.close.new.work).faults
    c.held-ended.result c.close.result (ap Counts.work (c.in-Ok.ensures.causes.good refl)) c.held-ended.ensures.well c.held-ended.ensures.causes c.close.ensures.end c.close.ensures.counts
