use Rattle.std.proofs.Common.{◌∙◌}
use Rattle.bisync_filter.specs.Passing.{rules_pass}
use Rattle.bisync_model.specs.Trees.{by_side}
use Rattle.bisync_run.specs.Sides.{sides_of}
use Rattle.bisync_run.proofs.ApartBases.{guarded_apart, not_both_apart, prior_apart, unplanned_apart}
use Rattle.bisync_run.proofs.BeginningLaws.{guarded_after, not_both_after, prior_answer, unplanned_after}
use Rattle.bisync_run.proofs.CauseLaws.{follows, fails, nothing_failed, not_planned}
use Rattle.bisync_run.proofs.GuardEnds.{guard_kind, guard_caused}
use Rattle.bisync_run.proofs.PreparedOrdinary.{not_both_seen, guard_answers, no_plan_answers, look_of_sides}
use Rattle.bisync_run.proofs.PreparedResync.{listable}
use Rattle.bisync_run.proofs.SeenViews.{narrowed_view, complete_view, keeps_times, view_of_sides, may_look, plan_of_view, fault_of_view}
use Rattle.bisync_run.proofs.PlannedFound.{planned_found, view_found}
use Rattle.bisync_run.proofs.PlannedViews.{planned_view}
use Rattle.bisync_run.specs.Planned.{with_trees}
use Rattle.bisync_run.proofs.ordinary_looks.look_ordinary.Goals as goal

pub returns-in-Err-look_at_both-clause-refusal : goal.returns-in-Err-look_at_both-clause-refusal
returns-in-Err-look_at_both-clause-refusal g c a b f digest start more =
    let s = sides_of c.args.opts.now.compare c.args.rules.now (g.A.Remote.state c.args.one.now) (g.B.Remote.state c.args.two.now) in
    not_both_seen c.args.opts.now c.args.limits.now f digest s c.args.started.pair start.base start.starts
    (may_look c.args.opts.now s start.base _ _ _ _ more start.one start.two c.in-Ok.ensures.prior)
    g.A.Remote.tells g.B.Remote.tells c.run_compare-compare.result c.in-Err-look_at_both.end a b c.in-Err-look_at_both.ensures.refusal

pub returns-in-Err-look_at_both-clause-causes : goal.returns-in-Err-look_at_both-clause-causes
returns-in-Err-look_at_both-clause-causes g c work sink = fails _ _ c.in-Err-look_at_both.end (c.in-Err-look_at_both.ensures.causes work sink)

pub returns-in-Err-check_guards-clause-refusal : goal.returns-in-Err-check_guards-clause-refusal
returns-in-Err-check_guards-clause-refusal g c a b f digest start more =
    let s = sides_of c.args.opts.now.compare c.args.rules.now (g.A.Remote.state c.args.one.now) (g.B.Remote.state c.args.two.now) in
    let compare = c.run_compare-compare.result in
    let compare_is = c.run_compare-compare.ensures in
    let view = c.seen_view-view.result in
    let made = c.seen_view-view.ensures in
    let seen = c.in-Ok-look_at_both.ensures in
    let view_is = view_of_sides s start.base compare view _ _ _ _ _ _ _ _ compare_is made.prior made.base made.now made.names start.one start.two c.in-Ok.ensures.prior (seen.seen1 a) (seen.seen2 b) in
    guard_answers c.args.opts.now c.args.limits.now f digest s c.args.started.pair start.base start.starts
    (may_look c.args.opts.now s start.base _ _ _ _ more start.one start.two c.in-Ok.ensures.prior)
    (listable _ _ _ _ _ _ _ seen.is_seen1.within seen.seen1 a) (listable _ _ _ _ _ _ _ seen.is_seen2.within seen.seen2 b)
    compare view compare_is view_is c.in-Err-check_guards.end c.in-Err-check_guards.ensures.refusal

pub returns-in-Err-check_guards-clause-kind : goal.returns-in-Err-check_guards-clause-kind
returns-in-Err-check_guards-clause-kind g c = guard_kind c.args.opts.now _ c.run_compare-compare.result c.seen_view-view.result c.in-Err-check_guards.end c.in-Err-check_guards.ensures.refusal

pub returns-in-Err-check_guards-clause-causes : goal.returns-in-Err-check_guards-clause-causes
returns-in-Err-check_guards-clause-causes g c work sink =
    follows _ _ _ c.in-Ok-look_at_both.seen _ (c.in-Ok-look_at_both.ensures.causes work sink) (guard_caused _ _ c.in-Err-check_guards.end c.in-Err-check_guards.ensures.refusal)

pub plan-made-requires-clause-narrowed : goal.plan-made-requires-clause-narrowed
plan-made-requires-clause-narrowed g c =
    let made = c.seen_view-view.ensures in
    let seen = c.in-Ok-look_at_both.ensures in
    narrowed_view (rules_pass c.args.rules.now) c.seen_view-view.result c.in-Ok-look_at_both.seen.one.listing c.in-Ok-look_at_both.seen.two.listing
    c.in-Ok-look_at_both.seen.one.names c.in-Ok-look_at_both.seen.two.names made.now seen.is_seen1.passing seen.is_seen2.passing
    c.args.started.one c.args.started.two c.in-Ok.prior.one c.in-Ok.prior.two made.prior made.base c.in-Ok.ensures.prior

pub plan-made-requires-clause-complete : goal.plan-made-requires-clause-complete
plan-made-requires-clause-complete g c =
    let made = c.seen_view-view.ensures in
    let seen = c.in-Ok-look_at_both.ensures in
    complete_view (rules_pass c.args.rules.now) c.seen_view-view.result c.in-Ok-look_at_both.seen.one.listing c.in-Ok-look_at_both.seen.two.listing
    c.in-Ok-look_at_both.seen.one.names c.in-Ok-look_at_both.seen.two.names made.now seen.is_seen1.passing seen.is_seen2.passing made.names

pub plan-made-requires-clause-windows : goal.plan-made-requires-clause-windows
plan-made-requires-clause-windows g c =
    let seen = c.in-Ok-look_at_both.ensures in
    keeps_times c.args.opts.now.compare c.run_compare-compare.result _ _ c.window.result c.window-2.result
    c.run_compare-compare.ensures (c.window.ensures ∙ seen.one.window) (c.window-2.ensures ∙ seen.two.window)

pub returns-in-Ok-made-clause-look : goal.returns-in-Ok-made-clause-look
returns-in-Ok-made-clause-look g c a b f digest start more =
    let s = sides_of c.args.opts.now.compare c.args.rules.now (g.A.Remote.state c.args.one.now) (g.B.Remote.state c.args.two.now) in
    let compare = c.run_compare-compare.result in
    let compare_is = c.run_compare-compare.ensures in
    let view = c.seen_view-view.result in
    let made = c.seen_view-view.ensures in
    let seen = c.in-Ok-look_at_both.ensures in
    let view_is = view_of_sides s start.base compare view _ _ _ _ _ _ _ _ compare_is made.prior made.base made.now made.names start.one start.two c.in-Ok.ensures.prior (seen.seen1 a) (seen.seen2 b) in
    look_of_sides c.args.opts.now c.args.limits.now f digest s c.args.started.pair start.base start.starts
    (may_look c.args.opts.now s start.base _ _ _ _ more start.one start.two c.in-Ok.ensures.prior)
    (listable _ _ _ _ _ _ _ seen.is_seen1.within seen.seen1 a) (listable _ _ _ _ _ _ _ seen.is_seen2.within seen.seen2 b)
    compare view compare_is view_is c.in-Ok-check_guards.ensures.unguarded c.args.started.stamp start.new
    c.in-Ok-made.plan c.is_checked-check.result c.is_checked-check.ensures
    (plan_of_view c.args.opts.now s start.base compare view compare_is view_is c.window.result c.window-2.result
    (c.window.ensures ∙ seen.one.window) (c.window-2.ensures ∙ seen.two.window) c.in-Ok-made.plan c.in-Ok-made.ensures.plan)
    c.in-Ok-made.ensures.within1 c.in-Ok-made.ensures.within2 c.in-Ok-made.ensures.agree

pub returns-in-Ok-made-clause-causes : goal.returns-in-Ok-made-clause-causes
returns-in-Ok-made-clause-causes g c work sink = follows _ _ _ c.in-Ok-look_at_both.seen _ (c.in-Ok-look_at_both.ensures.causes work sink) (nothing_failed _ _)

pub returns-in-Err-made-clause-refusal : goal.returns-in-Err-made-clause-refusal
returns-in-Err-made-clause-refusal g c a b f digest start more =
    let s = sides_of c.args.opts.now.compare c.args.rules.now (g.A.Remote.state c.args.one.now) (g.B.Remote.state c.args.two.now) in
    let compare = c.run_compare-compare.result in
    let compare_is = c.run_compare-compare.ensures in
    let view = c.seen_view-view.result in
    let made = c.seen_view-view.ensures in
    let seen = c.in-Ok-look_at_both.ensures in
    let view_is = view_of_sides s start.base compare view _ _ _ _ _ _ _ _ compare_is made.prior made.base made.now made.names start.one start.two c.in-Ok.ensures.prior (seen.seen1 a) (seen.seen2 b) in
    no_plan_answers c.args.opts.now c.args.limits.now f digest s c.args.started.pair start.base start.starts
    (may_look c.args.opts.now s start.base _ _ _ _ more start.one start.two c.in-Ok.ensures.prior)
    (listable _ _ _ _ _ _ _ seen.is_seen1.within seen.seen1 a) (listable _ _ _ _ _ _ _ seen.is_seen2.within seen.seen2 b)
    compare view compare_is view_is c.in-Ok-check_guards.ensures.unguarded c.args.started.stamp start.new
    c.in-Err-made.fault c.unplanned.result c.unplanned.ensures
    (fault_of_view c.args.opts.now s start.base compare view compare_is view_is c.window.result c.window-2.result
    (c.window.ensures ∙ seen.one.window) (c.window-2.ensures ∙ seen.two.window)
    c.args.started.stamp c.args.limits.now.listing c.is_checked-check.result _ c.in-Err-made.fault c.is_checked-check.ensures c.in-Err-made.ensures.fault)

pub returns-in-Err-made-clause-causes : goal.returns-in-Err-made-clause-causes
returns-in-Err-made-clause-causes g c work sink =
    follows _ _ _ c.in-Ok-look_at_both.seen _ (c.in-Ok-look_at_both.ensures.causes work sink) (not_planned _ c.in-Err-made.fault _ c.unplanned.ensures)

pub returns-in-Ok-made-clause-planned : goal.returns-in-Ok-made-clause-planned
returns-in-Ok-made-clause-planned g c =
    let one = c.in-Ok-look_at_both.ensures.some1 in
    let two = c.in-Ok-look_at_both.ensures.some2 in
    let s = with_trees (sides_of c.args.opts.now.compare c.args.rules.now (g.A.Remote.state c.args.one.now) (g.B.Remote.state c.args.two.now)) one.tree two.tree in
    let seen = view_found c.args.opts.now s c.args.started c.run_compare-compare.result c.seen_view-view.result c.run_compare-compare.ensures _ _ _ _ _ _
    c.seen_view-view.ensures.prior c.seen_view-view.ensures.base c.seen_view-view.ensures.now c.seen_view-view.ensures.names
    c.in-Ok.ensures.prior one.seen two.seen in
    let plan = planned_found c.args.opts.now s c.args.started c.run_compare-compare.result c.seen_view-view.result c.run_compare-compare.ensures c.window.result c.window-2.result
    (c.window.ensures ∙ c.in-Ok-look_at_both.ensures.one.window) (c.window-2.ensures ∙ c.in-Ok-look_at_both.ensures.two.window) seen c.in-Ok-made.plan c.in-Ok-made.ensures.plan in
    record { one = one.tree; two = two.tree; own1 = one.own_is; own2 = two.own_is; plan = plan }

pub returns-in-Ok-made-clause-seen : goal.returns-in-Ok-made-clause-seen
returns-in-Ok-made-clause-seen g c =
    let made = c.seen_view-view.ensures in
    let both = c.in-Ok-look_at_both.seen in
    let seen = c.in-Ok-look_at_both.ensures in
    let view = c.seen_view-view.result in
    let narrowed = narrowed_view (rules_pass c.args.rules.now) view both.one.listing both.two.listing both.one.names both.two.names made.now seen.is_seen1.passing seen.is_seen2.passing
    c.args.started.one c.args.started.two c.in-Ok.prior.one c.in-Ok.prior.two made.prior made.base c.in-Ok.ensures.prior in
    let complete = complete_view (rules_pass c.args.rules.now) view both.one.listing both.two.listing both.one.names both.two.names made.now seen.is_seen1.passing seen.is_seen2.passing made.names in
    planned_view c.args.opts.now c.args.rules.now _ _ c.window.result c.window-2.result view c.run_compare-compare.result both.one.listing both.two.listing c.in-Ok-made.plan
    c.requires.range.compare c.run_compare-compare.ensures (c.window.ensures ∙ seen.one.window) (c.window-2.ensures ∙ seen.two.window)
    narrowed complete made.now seen.is_seen1.digests seen.is_seen2.digests c.in-Ok-made.ensures.plan

-- # The passing parts of the base

pub returns-in-Err-clause-prior : goal.returns-in-Err-clause-prior
returns-in-Err-clause-prior g c = prior_answer (rules_pass c.args.rules.now) c.args.started.one c.args.started.two c.in-Err.end c.in-Err.ensures.refusal

pub returns-in-Err-look_at_both-clause-prior : goal.returns-in-Err-look_at_both-clause-prior
returns-in-Err-look_at_both-clause-prior g c =
    not_both_after (rules_pass c.args.rules.now) c.args.started.one c.args.started.two (c.in-Ok.ensures.prior.some1, c.in-Ok.ensures.prior.some2)
    (by_side g.A.Remote.tells g.B.Remote.tells) (g.A.Remote.state c.args.one.now).tree (g.B.Remote.state c.args.two.now).tree c.run_compare-compare.result (rules_pass c.args.rules.now) c.args.limits.now
    c.in-Err-look_at_both.end c.in-Err-look_at_both.ensures.refusal

pub returns-in-Err-check_guards-clause-prior : goal.returns-in-Err-check_guards-clause-prior
returns-in-Err-check_guards-clause-prior g c =
    guarded_after (rules_pass c.args.rules.now) c.args.started.one c.args.started.two (c.in-Ok.ensures.prior.some1, c.in-Ok.ensures.prior.some2)
    _ c.in-Err-check_guards.end c.in-Err-check_guards.ensures.refusal

pub returns-in-Ok-made-clause-had_prior : goal.returns-in-Ok-made-clause-had_prior
returns-in-Ok-made-clause-had_prior g c = (c.in-Ok.ensures.prior.some1, c.in-Ok.ensures.prior.some2)

pub returns-in-Err-made-clause-prior : goal.returns-in-Err-made-clause-prior
returns-in-Err-made-clause-prior g c =
    unplanned_after (rules_pass c.args.rules.now) c.args.started.one c.args.started.two (c.in-Ok.ensures.prior.some1, c.in-Ok.ensures.prior.some2)
    c.in-Err-made.fault c.unplanned.result c.unplanned.ensures

-- # The refusal as out of sync

pub returns-in-Err-clause-apart : goal.returns-in-Err-clause-apart
returns-in-Err-clause-apart g c = prior_apart _ _ _ _ (rules_pass c.args.rules.now) c.args.started.one c.args.started.two c.in-Err.end c.in-Err.ensures.refusal

pub returns-in-Err-look_at_both-clause-apart : goal.returns-in-Err-look_at_both-clause-apart
returns-in-Err-look_at_both-clause-apart g c =
    not_both_apart _ _ _ _ (by_side g.A.Remote.tells g.B.Remote.tells) (g.A.Remote.state c.args.one.now).tree (g.B.Remote.state c.args.two.now).tree c.run_compare-compare.result (rules_pass c.args.rules.now) c.args.limits.now c.in-Err-look_at_both.end c.in-Err-look_at_both.ensures.refusal

pub returns-in-Err-check_guards-clause-apart : goal.returns-in-Err-check_guards-clause-apart
returns-in-Err-check_guards-clause-apart g c = guarded_apart _ _ _ _ _ c.in-Err-check_guards.end c.in-Err-check_guards.ensures.refusal

pub returns-in-Err-made-clause-apart : goal.returns-in-Err-made-clause-apart
returns-in-Err-made-clause-apart g c =
    let seen = c.in-Ok-look_at_both.ensures in
    let keeps = keeps_times c.args.opts.now.compare c.run_compare-compare.result _ _ c.window.result c.window-2.result
    c.run_compare-compare.ensures (c.window.ensures ∙ seen.one.window) (c.window-2.ensures ∙ seen.two.window) in
    unplanned_apart c.args.opts.now.conflict c.run_compare-compare.result (rules_pass c.args.rules.now) c.window.result c.window-2.result c.seen_view-view.result keeps
    _ c.args.started.one c.args.started.two c.run_compare-compare.ensures c.seen_view-view.ensures.prior _ _ _ _ c.in-Err-made.fault c.unplanned.result c.unplanned.ensures c.in-Err-made.ensures.fault
