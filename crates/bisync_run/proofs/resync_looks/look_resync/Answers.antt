use Rattle.std.proofs.Common.{◌∙◌}
use Rattle.bisync_filter.specs.Passing.{rules_pass}
use Rattle.bisync_model.specs.Trees.{by_side}
use Rattle.bisync_model.specs.Views.{resync_known_of}
use Rattle.bisync_plan.specs.Plans.{header_of}
use Rattle.bisync_run.specs.Planned.{with_trees}
use Rattle.bisync_run.specs.Sides.{sides_of}
use Rattle.bisync_run.proofs.CauseLaws.{follows, fails, nothing_failed, not_planned}
use Rattle.bisync_run.proofs.PreparedResync.{listable, has_passing, plan_of_sides, fault_of_sides, not_refused, no_plan_end, no_plan_grounds, no_plan_kind}
use Rattle.bisync_run.proofs.ToldGrounds.{unlooked_told, unplanned_told}
use Rattle.bisync_run.proofs.resync_looks.look_resync.Goals as goal

pub returns-in-Err-clause-causes : goal.returns-in-Err-clause-causes
returns-in-Err-clause-causes g c =
    fails _ _ c.in-Err.end (c.in-Err.ensures.causes (g.A.Remote.state c.args.one.now).faults (g.B.Remote.state c.args.two.now).faults 0)

pub returns-in-Err-look_at_both-clause-causes : goal.returns-in-Err-look_at_both-clause-causes
returns-in-Err-look_at_both-clause-causes g c =
    follows _ _ _ c.in-Ok.stamp _ (c.in-Ok.ensures.causes (g.A.Remote.state c.args.one.now).faults (g.B.Remote.state c.args.two.now).faults 0)
    (fails _ _ c.in-Err-look_at_both.end (c.in-Err-look_at_both.ensures.causes (g.W.Work.state c.new_stamp.new.work).faults 0))

pub returns-in-Ok-made-clause-causes : goal.returns-in-Ok-made-clause-causes
returns-in-Ok-made-clause-causes g c =
    follows _ _ _ c.in-Ok.stamp _ (c.in-Ok.ensures.causes (g.A.Remote.state c.args.one.now).faults (g.B.Remote.state c.args.two.now).faults 0)
    (follows _ _ _ c.in-Ok-look_at_both.seen _ (c.in-Ok-look_at_both.ensures.causes (g.W.Work.state c.new_stamp.new.work).faults 0) (nothing_failed _ _))

pub returns-clause-causes : goal.returns-clause-causes
returns-clause-causes g c =
    follows _ _ _ c.in-Ok.stamp _ (c.in-Ok.ensures.causes (g.A.Remote.state c.args.one.now).faults (g.B.Remote.state c.args.two.now).faults 0)
    (follows _ _ _ c.in-Ok-look_at_both.seen _ (c.in-Ok-look_at_both.ensures.causes (g.W.Work.state c.new_stamp.new.work).faults 0) (not_planned _ c.in-Err-made.fault _ c.unplanned.ensures))

pub returns-in-Ok-made-clause-plan : goal.returns-in-Ok-made-clause-plan
returns-in-Ok-made-clause-plan g c a b =
    let passes = rules_pass c.args.rules.now in
    let seen = c.in-Ok-look_at_both.ensures in
    let s = sides_of c.args.opts.now.compare c.args.rules.now (g.A.Remote.state c.args.one.now) (g.B.Remote.state c.args.two.now) in
    plan_of_sides c.args.mode s c.run_compare-compare.result c.window.result c.window-2.result _ _
    c.run_compare-compare.ensures (c.window.ensures ∙ seen.one.window) (c.window-2.ensures ∙ seen.two.window) (seen.seen1 a).listing (seen.seen2 b).listing
    c.in-Ok-made.plan (c.in-Ok-made.ensures.plan passes (has_passing _ _ _ seen.is_seen1.passing) (has_passing _ _ _ seen.is_seen2.passing))

pub returns-in-Ok-made-clause-over : goal.returns-in-Ok-made-clause-over
returns-in-Ok-made-clause-over g c =
    let passes = rules_pass c.args.rules.now in
    let seen = c.in-Ok-look_at_both.ensures in
    let one = seen.some1 in
    let two = seen.some2 in
    let s = with_trees (sides_of c.args.opts.now.compare c.args.rules.now (g.A.Remote.state c.args.one.now) (g.B.Remote.state c.args.two.now)) one.tree two.tree in
    let plan = plan_of_sides c.args.mode s c.run_compare-compare.result c.window.result c.window-2.result _ _
    c.run_compare-compare.ensures (c.window.ensures ∙ seen.one.window) (c.window-2.ensures ∙ seen.two.window) one.seen.listing two.seen.listing
    c.in-Ok-made.plan (c.in-Ok-made.ensures.plan passes (has_passing _ _ _ seen.is_seen1.passing) (has_passing _ _ _ seen.is_seen2.passing)) in
    record { one = one.tree; two = two.tree; own1 = one.own_is; own2 = two.own_is; plan = plan }

pub returns-in-Ok-made-clause-accepted : goal.returns-in-Ok-made-clause-accepted
returns-in-Ok-made-clause-accepted g c a b w =
    let seen = c.in-Ok-look_at_both.ensures in
    let s = sides_of c.args.opts.now.compare c.args.rules.now (g.A.Remote.state c.args.one.now) (g.B.Remote.state c.args.two.now) in
    not_refused c.args.mode c.args.limits.now (g.W.Work.state c.args.work.now).folder s c.in-Ok.stamp
    (listable _ _ _ _ _ _ _ seen.is_seen1.within seen.seen1 a) (listable _ _ _ _ _ _ _ seen.is_seen2.within seen.seen2 b) (c.in-Ok.ensures.new w)
    c.run_compare-compare.result _ c.in-Ok-made.plan c.run_compare-compare.ensures (returns-in-Ok-made-clause-plan g c a b) c.in-Ok-made.ensures.within1 c.in-Ok-made.ensures.within2

pub returns-clause-refusal : goal.returns-clause-refusal
returns-clause-refusal g c a b w =
    let passes = rules_pass c.args.rules.now in
    let seen = c.in-Ok-look_at_both.ensures in
    let s = sides_of c.args.opts.now.compare c.args.rules.now (g.A.Remote.state c.args.one.now) (g.B.Remote.state c.args.two.now) in
    no_plan_end c.args.mode c.args.limits.now (g.W.Work.state c.args.work.now).folder s c.in-Ok.stamp
    (listable _ _ _ _ _ _ _ seen.is_seen1.within seen.seen1 a) (listable _ _ _ _ _ _ _ seen.is_seen2.within seen.seen2 b) (c.in-Ok.ensures.new w)
    c.in-Err-made.fault c.unplanned.result c.unplanned.ensures
    (fault_of_sides c.args.mode s c.run_compare-compare.result c.window.result c.window-2.result _ _
    c.run_compare-compare.ensures (c.window.ensures ∙ seen.one.window) (c.window-2.ensures ∙ seen.two.window) (seen.seen1 a).listing (seen.seen2 b).listing
    c.in-Ok.stamp c.args.limits.now.listing c.in-Err-made.fault (c.in-Err-made.ensures.fault passes (has_passing _ _ _ seen.is_seen1.passing) (has_passing _ _ _ seen.is_seen2.passing)))

pub returns-clause-grounds : goal.returns-clause-grounds
returns-clause-grounds g c =
    let passes = rules_pass c.args.rules.now in
    let compare = c.run_compare-compare.result in
    let seen = c.in-Ok-look_at_both.ensures in
    no_plan_grounds (resync_known_of c.args.mode compare passes c.window.result c.window-2.result c.in-Ok-look_at_both.seen.one.listing c.in-Ok-look_at_both.seen.two.listing) (header_of c.in-Ok.stamp compare)
    c.args.limits.now (by_side g.A.Remote.tells g.B.Remote.tells) c.in-Err-made.fault c.unplanned.result c.unplanned.ensures
    (c.in-Err-made.ensures.fault passes (has_passing _ _ _ seen.is_seen1.passing) (has_passing _ _ _ seen.is_seen2.passing))

pub returns-clause-kind : goal.returns-clause-kind
returns-clause-kind g c =
    let passes = rules_pass c.args.rules.now in
    let compare = c.run_compare-compare.result in
    let seen = c.in-Ok-look_at_both.ensures in
    no_plan_kind (resync_known_of c.args.mode compare passes c.window.result c.window-2.result c.in-Ok-look_at_both.seen.one.listing c.in-Ok-look_at_both.seen.two.listing) (header_of c.in-Ok.stamp compare)
    c.args.limits.now.listing c.in-Err-made.fault c.unplanned.result c.unplanned.ensures
    (c.in-Err-made.ensures.fault passes (has_passing _ _ _ seen.is_seen1.passing) (has_passing _ _ _ seen.is_seen2.passing))

pub returns-in-Err-look_at_both-clause-told : goal.returns-in-Err-look_at_both-clause-told
returns-in-Err-look_at_both-clause-told g c =
    unlooked_told (by_side g.A.Remote.tells g.B.Remote.tells) (by_side (g.A.Remote.state c.args.one.now) (g.B.Remote.state c.args.two.now))
    c.run_compare-compare.result (rules_pass c.args.rules.now) c.args.limits.now c.in-Err-look_at_both.end c.in-Err-look_at_both.ensures.refusal

pub returns-clause-told : goal.returns-clause-told
returns-clause-told g c =
    unplanned_told (by_side g.A.Remote.tells g.B.Remote.tells) (by_side (g.A.Remote.state c.args.one.now) (g.B.Remote.state c.args.two.now)) c.in-Err-made.fault c.unplanned.result c.unplanned.ensures
