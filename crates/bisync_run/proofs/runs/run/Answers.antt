use Rattle.std.proofs.Common.{◌≡◌, ◌<◌, ◌^◌, ◌∙◌, ◌++◌, ap, arith, inl, inr, ⊎_elim, sym, subst, true, List, ℕ}
use Rattle.std.proofs.lemmas.List.{append_assoc}
use Rattle.bisync_device.specs.Sink.{SinkState}
use Rattle.bisync_model.specs.Trees.{by_side}
use Rattle.bisync_tree.specs.declared.sides.Side.TheVariants.{One, Two}
use Rattle.bisync_report.specs.LastLine.{last_text}
use Rattle.bisync_report.specs.declared.ends.End.{End}
use Rattle.bisync_run.specs.Beginnings.{AnswersBeginningOf}
use Rattle.bisync_run.specs.EndKinds.{is_good, is_unlocked, lets_fall, may_have_changed, may_tell_plan}
use Rattle.bisync_run.specs.Entering.{IsEntryEnd}
use Rattle.bisync_run.specs.OrdinaryRuns.{HasOrdinaryNumbers, TellsOrdinaryRun}
use Rattle.bisync_run.specs.ResyncRuns.{HasNumbers, TellsRun}
use Rattle.bisync_run.proofs.BasesSetBack.{set_back_left}
use Rattle.bisync_run.proofs.BeginningLaws.{begins_told}
use Rattle.bisync_run.proofs.BuiltEnds.{told_built}
use Rattle.bisync_run.proofs.ClosedEnds.{tells_last}
use Rattle.bisync_run.proofs.ClosedKinds.{no_rise_first, own_told, early_told, fell_told, kept_told, unfallen_told, freed_told, bad_same, bad_told, before_told, unlocked_told}
use Rattle.bisync_run.proofs.CountedRuns.{counted_told}
use Rattle.bisync_run.proofs.InSyncRuns.{in_sync_after, resync_in_sync_after, was_apart}
use Rattle.bisync_run.proofs.EndLaws.{no_rise_since}
use Rattle.bisync_run.proofs.FallsAsLaws.{resync_fell_told}
use Rattle.bisync_run.proofs.FolderBases.{folder_base_told, folder_images}
use Rattle.bisync_run.proofs.OwnLocks.{own_told as own_lock_told}
use Rattle.bisync_run.proofs.OrdinaryTold.{ordinary_told, resilient_images, run_answers_told, run_images, run_tells_last, stands_told}
use Rattle.bisync_run.proofs.RunEnds.{caused_told}
use Rattle.bisync_run.proofs.SafeRuns.{keeps_safe}
use Rattle.bisync_run.proofs.ToldEnds.{after_good_told, good_told, told_same, answers_told, images}
use Rattle.bisync_run.proofs.ToldGrounds.{last_told}
use Rattle.bisync_run.proofs.OwnNames.{own_left}
use Rattle.bisync_run.proofs.runs.run.Goals as goal

pub returns-clause-answers : goal.returns-clause-answers
returns-clause-answers g c mode is one two work =
    let f = (g.W.Work.state c.args.work.now).folder in
    let start = by_side (g.A.Remote.state c.args.one.now) (g.B.Remote.state c.args.two.now) in
    let moment = g.C.Clock.moment c.args.clock.now in
    (answers_told mode c.args.opts.now c.args.limits.now f start g.C.Clock.tells moment c.run_to_close-end.result c.tell_end.result
    (c.run_to_close-end.ensures.answers mode is one two work) (c.run_to_close-end.ensures.accepted mode is one two work) c.tell_end.ensures.end)

pub returns-clause-accepted : goal.returns-clause-accepted
returns-clause-accepted g c mode is one two work good =
    let f = (g.W.Work.state c.args.work.now).folder in
    let start = by_side (g.A.Remote.state c.args.one.now) (g.B.Remote.state c.args.two.now) in
    let moment = g.C.Clock.moment c.args.clock.now in
    (c.run_to_close-end.ensures.accepted mode is one two work (after_good_told c.run_to_close-end.result c.tell_end.result c.tell_end.ensures.end good))

pub returns-clause-resynced : goal.returns-clause-resynced
returns-clause-resynced g c mode is one two work dry good =
    let f = (g.W.Work.state c.args.work.now).folder in
    let start = by_side (g.A.Remote.state c.args.one.now) (g.B.Remote.state c.args.two.now) in
    let h = (g.W.Work.state c.run_to_close-end.new.work).folder in
    let now = by_side (g.A.Remote.state c.run_to_close-end.new.one) (g.B.Remote.state c.run_to_close-end.new.two) in
    (c.run_to_close-end.ensures.resynced mode is one two work dry (after_good_told c.run_to_close-end.result c.tell_end.result c.tell_end.ensures.end good))

pub returns-clause-numbers : goal.returns-clause-numbers
returns-clause-numbers g c mode is one two work good =
    let f = (g.W.Work.state c.args.work.now).folder in
    let start = by_side (g.A.Remote.state c.args.one.now) (g.B.Remote.state c.args.two.now) in
    let told = good_told c.run_to_close-end.result c.tell_end.result c.tell_end.ensures.end good in
    (subst (λ (e : End). HasNumbers mode c.args.opts.now f start e) (sym told)
    (c.run_to_close-end.ensures.numbers mode is one two work (subst (λ (e : End). is_good e ≡ true) told good)))

pub returns-clause-base : goal.returns-clause-base
returns-clause-base g c mode is one two work =
    let f = (g.W.Work.state c.args.work.now).folder in
    let start = by_side (g.A.Remote.state c.args.one.now) (g.B.Remote.state c.args.two.now) in
    let h = (g.W.Work.state c.run_to_close-end.new.work).folder in
    let now = by_side (g.A.Remote.state c.run_to_close-end.new.one) (g.B.Remote.state c.run_to_close-end.new.two) in
    (c.run_to_close-end.ensures.base mode is one two work)

pub returns-clause-images : goal.returns-clause-images
returns-clause-images g c mode is one two work settled image image_is =
    let f = (g.W.Work.state c.args.work.now).folder in
    let start = by_side (g.A.Remote.state c.args.one.now) (g.B.Remote.state c.args.two.now) in
    let h = (g.W.Work.state c.run_to_close-end.new.work).folder in
    let now = by_side (g.A.Remote.state c.run_to_close-end.new.one) (g.B.Remote.state c.run_to_close-end.new.two) in
    (images mode c.args.opts.now c.args.limits.now f start h image now (c.run_to_close-end.ensures.base mode is one two work) (c.run_to_close-end.ensures.settled work settled) image_is)

pub returns-clause-trees : goal.returns-clause-trees
returns-clause-trees g c mode is one two work = ⊎_elim (λ early. inl (early.0, kept_told c.args.opts.now c.run_to_close-end.result c.tell_end.result _ _ c.tell_end.ensures.end early.1)) inr (c.run_to_close-end.ensures.trees mode is one two work)

pub returns-clause-set_aside : goal.returns-clause-set_aside
returns-clause-set_aside g c mode is work dry good =
    c.run_to_close-end.ensures.set_aside mode is work dry (after_good_told c.run_to_close-end.result c.tell_end.result c.tell_end.ensures.end good)

pub returns-clause-only : goal.returns-clause-only
returns-clause-only g c mode is = own_told c.args.opts.now c.run_to_close-end.result c.tell_end.result c.tell_end.ensures.end (c.run_to_close-end.ensures.only mode is)

pub returns-clause-kept : goal.returns-clause-kept
returns-clause-kept g c work early =
    let told = early_told c.run_to_close-end.result c.tell_end.result c.tell_end.ensures.end early in
    kept_told c.args.opts.now c.run_to_close-end.result c.tell_end.result (g.W.Work.state c.args.work.now).folder (g.W.Work.state c.run_to_close-end.new.work).folder c.tell_end.ensures.end
    (c.run_to_close-end.ensures.kept work (ap may_have_changed (sym told) ∙ early))

pub returns-clause-freed : goal.returns-clause-freed
returns-clause-freed g c work freed = c.run_to_close-end.ensures.freed work (freed_told c.run_to_close-end.result c.tell_end.result c.tell_end.ensures.end freed)

pub returns-clause-lock_new : goal.returns-clause-lock_new
returns-clause-lock_new g c work (inl good) = c.run_to_close-end.ensures.lock_new work (inl (after_good_told c.run_to_close-end.result c.tell_end.result c.tell_end.ensures.end good))
returns-clause-lock_new g c work (inr never) = c.run_to_close-end.ensures.lock_new work (inr never)

pub returns-clause-no_digest : goal.returns-clause-no_digest
returns-clause-no_digest g c work none = c.run_to_close-end.ensures.no_digest work none

pub returns-clause-entry : goal.returns-clause-entry
returns-clause-entry g c work un =
    let told = unlocked_told c.run_to_close-end.result c.tell_end.result c.tell_end.ensures.end un in
    subst (λ (e : End). IsEntryEnd c.args.opts.now.filters (g.W.Work.state c.args.work.now).folder g.C.Clock.tells (g.C.Clock.moment c.args.clock.now) e) (sym told)
    (c.run_to_close-end.ensures.entry work (ap is_unlocked (sym told) ∙ un))

pub returns-clause-entered : goal.returns-clause-entered
returns-clause-entered g c work = ⊎_elim (λ early. inl (before_told c.run_to_close-end.result c.tell_end.result c.tell_end.ensures.end early.0, early.1, early.2, early.3)) inr (c.run_to_close-end.ensures.entered work)

pub returns-clause-told : goal.returns-clause-told
returns-clause-told g c = last_told (by_side g.A.Remote.tells g.B.Remote.tells) (by_side (g.A.Remote.state c.args.one.now) (g.B.Remote.state c.args.two.now)) c.run_to_close-end.result c.tell_end.result c.tell_end.ensures.end c.run_to_close-end.ensures.told

pub returns-clause-quiet : goal.returns-clause-quiet
returns-clause-quiet g c sink never quiet =
    let before = g.S.Sink.state c.args.sink.now in
    let mid = g.S.Sink.state c.run_to_close-end.new.sink in
    let after = g.S.Sink.state c.tell_end.new.sink in
    let still = no_rise_since before.faults mid.faults after.faults never c.run_to_close-end.ensures.later.sink in
    let told = told_same c.run_to_close-end.result c.tell_end.result mid.faults after.faults c.tell_end.ensures.end c.tell_end.ensures.failed still in
    let early = no_rise_first before.faults mid.faults after.faults never c.tell_end.ensures.later in
    c.tell_end.ensures.bytes sink still
    ∙ ap (λ (l : List ℕ). l ++ last_text c.run_to_close-end.result) (c.run_to_close-end.ensures.quiet sink early (ap may_tell_plan (sym told) ∙ quiet))
    ∙ ap (λ (e : End). before.bytes ++ last_text e) (sym told)

pub returns-clause-only_quiet : goal.returns-clause-only_quiet
returns-clause-only_quiet g c none only sink never =
    let before = g.S.Sink.state c.args.sink.now in
    let mid = g.S.Sink.state c.run_to_close-end.new.sink in
    let after = g.S.Sink.state c.tell_end.new.sink in
    let still = no_rise_since before.faults mid.faults after.faults never c.run_to_close-end.ensures.later.sink in
    let told = told_same c.run_to_close-end.result c.tell_end.result mid.faults after.faults c.tell_end.ensures.end c.tell_end.ensures.failed still in
    c.tell_end.ensures.bytes sink still
    ∙ ap (λ (s : SinkState). s.bytes ++ last_text c.run_to_close-end.result) (c.run_to_close-end.ensures.only_sink none only)
    ∙ ap (λ (e : End). before.bytes ++ last_text e) (sym told)

pub returns-clause-lines : goal.returns-clause-lines
returns-clause-lines g c sink =
    let before = g.S.Sink.state c.args.sink.now in
    let mid = g.S.Sink.state c.run_to_close-end.new.sink in
    let after = g.S.Sink.state c.tell_end.new.sink in
    let some = c.run_to_close-end.ensures.lines sink in
    let more = c.tell_end.ensures.adds sink in (
      (some.0 ++ more.0, more.1 ∙ ap (λ (l : List ℕ). l ++ more.0) some.1 ∙ append_assoc before.bytes some.0 more.0),
      λ never.
          let still = no_rise_since before.faults mid.faults after.faults never c.run_to_close-end.ensures.later.sink in
          let told = told_same c.run_to_close-end.result c.tell_end.result mid.faults after.faults c.tell_end.ensures.end c.tell_end.ensures.failed still in (
            some.0,
            c.tell_end.ensures.bytes sink still
                ∙ ap (λ (l : List ℕ). l ++ last_text c.run_to_close-end.result) some.1
                ∙ ap (λ (e : End). (before.bytes ++ some.0) ++ last_text e) (sym told),
          ),
    )

pub returns-clause-built : goal.returns-clause-built
returns-clause-built g c = told_built c.run_to_close-end.result c.tell_end.result c.run_to_close-end.ensures.built c.tell_end.ensures.end

pub returns-clause-report : goal.returns-clause-report
returns-clause-report g c mode is one two sink work never =
    let f = (g.W.Work.state c.args.work.now).folder in
    let start = by_side (g.A.Remote.state c.args.one.now) (g.B.Remote.state c.args.two.now) in
    let h = (g.W.Work.state c.run_to_close-end.new.work).folder in
    let now = by_side (g.A.Remote.state c.run_to_close-end.new.one) (g.B.Remote.state c.run_to_close-end.new.two) in
    let before = g.S.Sink.state c.args.sink.now in
    let mid = g.S.Sink.state c.run_to_close-end.new.sink in
    let after = g.S.Sink.state c.tell_end.new.sink in
    let still = no_rise_since before.faults mid.faults after.faults never c.run_to_close-end.ensures.later.sink in
    let told = told_same c.run_to_close-end.result c.tell_end.result mid.faults after.faults c.tell_end.ensures.end c.tell_end.ensures.failed still in
    (subst (λ (e : End). TellsRun mode c.args.opts.now c.args.limits.now g.W.Work.tells f start h now before.bytes (last_text e) after.bytes e) (sym told)
    (tells_last mode c.args.opts.now c.args.limits.now g.W.Work.tells f start h now before.bytes mid.bytes after.bytes (last_text c.run_to_close-end.result) c.run_to_close-end.result
    (c.run_to_close-end.ensures.report mode is one two sink work) (c.tell_end.ensures.bytes sink still)))

-- # An ordinary run

pub returns-clause-run_answers : goal.returns-clause-run_answers
returns-clause-run_answers g c none one two work =
    let f = (g.W.Work.state c.args.work.now).folder in
    let start = by_side (g.A.Remote.state c.args.one.now) (g.B.Remote.state c.args.two.now) in
    let moment = g.C.Clock.moment c.args.clock.now in
    run_answers_told c.args.opts.now c.args.limits.now f start g.C.Clock.tells moment c.run_to_close-end.result c.tell_end.result
    (c.run_to_close-end.ensures.run_answers none one two work) (c.run_to_close-end.ensures.unrefused none one two work) c.tell_end.ensures.end

pub returns-clause-unrefused : goal.returns-clause-unrefused
returns-clause-unrefused g c none one two work good =
    c.run_to_close-end.ensures.unrefused none one two work (after_good_told c.run_to_close-end.result c.tell_end.result c.tell_end.ensures.end good)

pub returns-clause-done : goal.returns-clause-done
returns-clause-done g c none one two work dry only good =
    c.run_to_close-end.ensures.done none one two work dry only (after_good_told c.run_to_close-end.result c.tell_end.result c.tell_end.ensures.end good)

pub returns-clause-run_numbers : goal.returns-clause-run_numbers
returns-clause-run_numbers g c none one two work good =
    let f = (g.W.Work.state c.args.work.now).folder in
    let start = by_side (g.A.Remote.state c.args.one.now) (g.B.Remote.state c.args.two.now) in
    let told = good_told c.run_to_close-end.result c.tell_end.result c.tell_end.ensures.end good in
    subst (λ (e : End). HasOrdinaryNumbers c.args.opts.now c.args.limits.now f start e) (sym told)
    (c.run_to_close-end.ensures.run_numbers none one two work (subst (λ (e : End). is_good e ≡ true) told good))

pub returns-clause-run_base : goal.returns-clause-run_base
returns-clause-run_base g c none one two work = c.run_to_close-end.ensures.run_base none one two work

pub returns-clause-resilient_base : goal.returns-clause-resilient_base
returns-clause-resilient_base g c none one two work stays = c.run_to_close-end.ensures.resilient_base none one two work stays

pub returns-clause-run_trees : goal.returns-clause-run_trees
returns-clause-run_trees g c none one two work = ⊎_elim (λ early. inl (early.0, kept_told c.args.opts.now c.run_to_close-end.result c.tell_end.result _ _ c.tell_end.ensures.end early.1)) inr (c.run_to_close-end.ensures.run_trees none one two work)

pub returns-clause-run_rest : goal.returns-clause-run_rest
returns-clause-run_rest g c none work =
    let rest = c.run_to_close-end.ensures.run_rest none work in
    (rest.0, λ stays. rest.1 (unfallen_told c.args.opts.now.resilient c.args.opts.now.dry_run c.run_to_close-end.result c.tell_end.result c.tell_end.ensures.end stays))

pub returns-clause-only_run : goal.returns-clause-only_run
returns-clause-only_run g c none = ordinary_told c.args.opts.now _ c.run_to_close-end.result c.tell_end.result c.tell_end.ensures.end (c.run_to_close-end.ensures.only_run none)

pub returns-clause-run_images : goal.returns-clause-run_images
returns-clause-run_images g c none one two work settled image image_is =
    let f = (g.W.Work.state c.args.work.now).folder in
    let start = by_side (g.A.Remote.state c.args.one.now) (g.B.Remote.state c.args.two.now) in
    let h = (g.W.Work.state c.run_to_close-end.new.work).folder in
    let now = by_side (g.A.Remote.state c.run_to_close-end.new.one) (g.B.Remote.state c.run_to_close-end.new.two) in
    run_images c.args.opts.now c.args.limits.now f start h image now (c.run_to_close-end.ensures.run_base none one two work) (c.run_to_close-end.ensures.settled work settled) image_is

pub returns-clause-resilient_images : goal.returns-clause-resilient_images
returns-clause-resilient_images g c none one two work stays settled image image_is =
    let f = (g.W.Work.state c.args.work.now).folder in
    let start = by_side (g.A.Remote.state c.args.one.now) (g.B.Remote.state c.args.two.now) in
    let h = (g.W.Work.state c.run_to_close-end.new.work).folder in
    let now = by_side (g.A.Remote.state c.run_to_close-end.new.one) (g.B.Remote.state c.run_to_close-end.new.two) in
    resilient_images c.args.opts.now c.args.limits.now f start h image now (c.run_to_close-end.ensures.resilient_base none one two work stays)
    (c.run_to_close-end.ensures.settled work settled) image_is

pub returns-clause-safe : goal.returns-clause-safe
returns-clause-safe g c none one two work settled image image_is =
    let f = (g.W.Work.state c.args.work.now).folder in
    let start = by_side (g.A.Remote.state c.args.one.now) (g.B.Remote.state c.args.two.now) in
    let h = (g.W.Work.state c.run_to_close-end.new.work).folder in
    let now = by_side (g.A.Remote.state c.run_to_close-end.new.one) (g.B.Remote.state c.run_to_close-end.new.two) in
    let small : c.args.limits.now.listing < 2 ^ 64 = omega arith in
    keeps_safe c.args.opts.now c.args.limits.now small f start g.C.Clock.tells (g.C.Clock.moment c.args.clock.now) c.run_to_close-end.result h image now
    (run_images c.args.opts.now c.args.limits.now f start h image now (c.run_to_close-end.ensures.run_base none one two work) (c.run_to_close-end.ensures.settled work settled) image_is)
    (c.run_to_close-end.ensures.run_trees none one two work)

pub returns-clause-run_report : goal.returns-clause-run_report
returns-clause-run_report g c none one two work sink never =
    let f = (g.W.Work.state c.args.work.now).folder in
    let start = by_side (g.A.Remote.state c.args.one.now) (g.B.Remote.state c.args.two.now) in
    let h = (g.W.Work.state c.run_to_close-end.new.work).folder in
    let now = by_side (g.A.Remote.state c.run_to_close-end.new.one) (g.B.Remote.state c.run_to_close-end.new.two) in
    let before = g.S.Sink.state c.args.sink.now in
    let mid = g.S.Sink.state c.run_to_close-end.new.sink in
    let after = g.S.Sink.state c.tell_end.new.sink in
    let still = no_rise_since before.faults mid.faults after.faults never c.run_to_close-end.ensures.later.sink in
    let told = told_same c.run_to_close-end.result c.tell_end.result mid.faults after.faults c.tell_end.ensures.end c.tell_end.ensures.failed still in
    subst (λ (e : End). TellsOrdinaryRun c.args.opts.now c.args.limits.now f start h now before.bytes (last_text e) after.bytes e) (sym told)
    (run_tells_last c.args.opts.now c.args.limits.now f start h now before.bytes mid.bytes after.bytes (last_text c.run_to_close-end.result) c.run_to_close-end.result
    (c.run_to_close-end.ensures.run_report none one two work sink) (c.tell_end.ensures.bytes sink still))

pub returns-clause-only_base : goal.returns-clause-only_base
returns-clause-only_base g c none only work =
    kept_told c.args.opts.now c.run_to_close-end.result c.tell_end.result (g.W.Work.state c.args.work.now).folder (g.W.Work.state c.run_to_close-end.new.work).folder c.tell_end.ensures.end (c.run_to_close-end.ensures.only_base none only work)

pub returns-clause-fell : goal.returns-clause-fell
returns-clause-fell g c work fell never =
    let told = fell_told c.args.opts.now.resilient c.args.opts.now.dry_run c.run_to_close-end.result c.tell_end.result c.tell_end.ensures.end fell in
    c.run_to_close-end.ensures.fell work (ap (lets_fall c.args.opts.now.resilient c.args.opts.now.dry_run) (sym told) ∙ fell) never

-- # What the work folder alone tells

pub returns-clause-begins : goal.returns-clause-begins
returns-clause-begins g c none work =
    let f = (g.W.Work.state c.args.work.now).folder in
    let start = by_side (g.A.Remote.state c.args.one.now) (g.B.Remote.state c.args.two.now) in
    begins_told c.args.opts.now c.args.limits.now f start g.C.Clock.tells (g.C.Clock.moment c.args.clock.now) c.run_to_close-end.result c.tell_end.result
    (c.run_to_close-end.ensures.begins none work) (c.run_to_close-end.ensures.begun none work) c.tell_end.ensures.end

pub returns-clause-begun : goal.returns-clause-begun
returns-clause-begun g c none work good =
    c.run_to_close-end.ensures.begun none work (after_good_told c.run_to_close-end.result c.tell_end.result c.tell_end.ensures.end good)

pub returns-clause-folder_base : goal.returns-clause-folder_base
returns-clause-folder_base g c work =
    folder_base_told c.args.opts.now c.args.limits.now (by_side (g.A.Remote.state c.args.one.now) (g.B.Remote.state c.args.two.now)) (g.W.Work.state c.args.work.now).folder (g.W.Work.state c.run_to_close-end.new.work).folder
    c.run_to_close-end.result c.tell_end.result c.tell_end.ensures.end (c.run_to_close-end.ensures.folder_base work)

pub returns-clause-folder_images : goal.returns-clause-folder_images
returns-clause-folder_images g c work settled image is =
    let start = by_side (g.A.Remote.state c.args.one.now) (g.B.Remote.state c.args.two.now) in
    let f = (g.W.Work.state c.args.work.now).folder in
    let h = (g.W.Work.state c.run_to_close-end.new.work).folder in
    folder_images c.args.opts.now c.args.limits.now start f h c.tell_end.result image
    (folder_base_told c.args.opts.now c.args.limits.now start f h c.run_to_close-end.result c.tell_end.result c.tell_end.ensures.end (c.run_to_close-end.ensures.folder_base work))
    (c.run_to_close-end.ensures.settled work settled) is

pub returns-clause-folder_next : goal.returns-clause-folder_next
returns-clause-folder_next g c work writes good =
    c.run_to_close-end.ensures.folder_next work writes (after_good_told c.run_to_close-end.result c.tell_end.result c.tell_end.ensures.end good)

-- # Where both sides agree

pub returns-clause-in_sync : goal.returns-clause-in_sync
returns-clause-in_sync g c none one two work dry only good =
    in_sync_after c.args.opts.now c.args.limits.now _ _ _ _
    (c.run_to_close-end.ensures.done none one two work dry only (after_good_told c.run_to_close-end.result c.tell_end.result c.tell_end.ensures.end good))

pub returns-clause-was_apart : goal.returns-clause-was_apart
returns-clause-was_apart g c none work p first second is =
    let f = (g.W.Work.state c.args.work.now).folder in
    let start = by_side (g.A.Remote.state c.args.one.now) (g.B.Remote.state c.args.two.now) in
    let moment = g.C.Clock.moment c.args.clock.now in
    was_apart c.args.opts.now c.args.limits.now f start g.C.Clock.tells moment p first second
    (subst (AnswersBeginningOf c.args.opts.now c.args.limits.now f start g.C.Clock.tells moment) is
    (begins_told c.args.opts.now c.args.limits.now f start g.C.Clock.tells moment c.run_to_close-end.result c.tell_end.result
    (c.run_to_close-end.ensures.begins none work) (c.run_to_close-end.ensures.begun none work) c.tell_end.ensures.end))

pub returns-clause-resync_in_sync : goal.returns-clause-resync_in_sync
returns-clause-resync_in_sync g c mode is one two work dry good =
    resync_in_sync_after mode c.args.opts.now c.args.limits.now _ _ _ _
    (c.run_to_close-end.ensures.resynced mode is one two work dry (after_good_told c.run_to_close-end.result c.tell_end.result c.tell_end.ensures.end good))

pub returns-clause-own_lock : goal.returns-clause-own_lock
returns-clause-own_lock g c work =
    own_lock_told c.args.opts.now _ _ _ c.run_to_close-end.result c.tell_end.result _ _ c.tell_end.ensures.end (c.run_to_close-end.ensures.own_lock work)

pub returns-clause-unlocked : goal.returns-clause-unlocked
returns-clause-unlocked g c un =
    c.run_to_close-end.ensures.unlocked (ap is_unlocked (sym (unlocked_told c.run_to_close-end.result c.tell_end.result c.tell_end.ensures.end un)) ∙ un)

pub returns-clause-outcome : goal.returns-clause-outcome
returns-clause-outcome g c mode is one two known dry good =
    c.run_to_close-end.ensures.outcome mode is one two known dry (after_good_told c.run_to_close-end.result c.tell_end.result c.tell_end.ensures.end good)

pub returns-clause-resync_fell : goal.returns-clause-resync_fell
returns-clause-resync_fell g c mode is work never bad =
    let f = (g.W.Work.state c.args.work.now).folder in
    let h = (g.W.Work.state c.run_to_close-end.new.work).folder in
    resync_fell_told c.args.opts.now c.run_to_close-end.result c.tell_end.result f h (bad_same c.run_to_close-end.result c.tell_end.result c.tell_end.ensures.end bad)
    (c.run_to_close-end.ensures.resync_fell mode is work never (bad_told c.run_to_close-end.result c.tell_end.result c.tell_end.ensures.end bad))

-- # The numbers of changes

pub returns-clause-counted1 : goal.returns-clause-counted1
returns-clause-counted1 g c tells first second is =
    let start = by_side (g.A.Remote.state c.args.one.now) (g.B.Remote.state c.args.two.now) in
    let now = by_side (g.A.Remote.state c.run_to_close-end.new.one) (g.B.Remote.state c.run_to_close-end.new.two) in
    counted_told (by_side g.A.Remote.tells g.B.Remote.tells) start now c.run_to_close-end.result c.tell_end.result c.tell_end.ensures.end c.run_to_close-end.ensures.counted first second is One tells

pub returns-clause-counted2 : goal.returns-clause-counted2
returns-clause-counted2 g c tells first second is =
    let start = by_side (g.A.Remote.state c.args.one.now) (g.B.Remote.state c.args.two.now) in
    let now = by_side (g.A.Remote.state c.run_to_close-end.new.one) (g.B.Remote.state c.run_to_close-end.new.two) in
    counted_told (by_side g.A.Remote.tells g.B.Remote.tells) start now c.run_to_close-end.result c.tell_end.result c.tell_end.ensures.end c.run_to_close-end.ensures.counted first second is Two tells

pub returns-clause-names : goal.returns-clause-names
returns-clause-names g c work left is =
    own_left c.args.limits.now.listing _ (g.W.Work.state c.args.work.now).folder (g.W.Work.state c.run_to_close-end.new.work).folder left (c.run_to_close-end.ensures.names work) (c.run_to_close-end.ensures.settled work) is

pub returns-clause-set_back : goal.returns-clause-set_back
returns-clause-set_back g c none work left is =
    set_back_left c.args.limits.now _ (g.W.Work.state c.args.work.now).folder (g.W.Work.state c.run_to_close-end.new.work).folder left _
    (c.run_to_close-end.ensures.set_back none work) (c.run_to_close-end.ensures.settled work) is

pub returns-clause-stands : goal.returns-clause-stands
returns-clause-stands g c none work =
    stands_told c.args.opts.now c.args.limits.now c.run_to_close-end.result c.tell_end.result (g.W.Work.state c.args.work.now).folder (g.W.Work.state c.run_to_close-end.new.work).folder c.tell_end.ensures.end (c.run_to_close-end.ensures.stands none work)

pub returns-clause-causes : goal.returns-clause-causes
returns-clause-causes g c =
    caused_told (g.A.Remote.state c.args.one.now).faults (g.B.Remote.state c.args.two.now).faults (g.W.Work.state c.args.work.now).faults (g.S.Sink.state c.args.sink.now).faults
    (g.A.Remote.state c.run_to_close-end.new.one).faults (g.B.Remote.state c.run_to_close-end.new.two).faults (g.W.Work.state c.run_to_close-end.new.work).faults (g.S.Sink.state c.run_to_close-end.new.sink).faults (g.S.Sink.state c.tell_end.new.sink).faults
    c.run_to_close-end.result c.tell_end.result c.run_to_close-end.ensures.causes c.tell_end.ensures.later c.tell_end.ensures.end c.tell_end.ensures.good c.tell_end.ensures.failed
