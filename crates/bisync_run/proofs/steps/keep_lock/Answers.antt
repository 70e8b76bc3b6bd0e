use Rattle.std.proofs.Common.{rules, FitsSigned, ◌∙◌}
use Rattle.std.proofs.lemmas.Int.{to_z-of_z}
use Rattle.std.specs.Int.{w64}
use Rattle.bisync_run.proofs.LockTimes.{kept_for_ever, kept_yet, kept_again, tested_early, tested_due, written_then, long_time}
use Rattle.bisync_run.proofs.OwnLocks.{own_again}
use Rattle.bisync_run.proofs.steps.keep_lock.Goals as goal

pub returns-in_default-clause-kept : goal.returns-in_default-clause-kept
returns-in_default-clause-kept g c = kept_for_ever _ _ _ _ _ _ _ c.in_default.is (to_z-of_z w64 _ c.ranges.written_at)

pub returns-then-saturating_sub-max_lock-clause-kept : goal.returns-then-saturating_sub-max_lock-clause-kept
returns-then-saturating_sub-max_lock-clause-kept g c =
    let lock : FitsSigned w64 c.in-Some.max_lock = search rules in
    let now : FitsSigned w64 c.now-now.result = search rules in
    let cut : FitsSigned w64 c.saturating_sub.result = search rules in
    kept_yet _ _ _ _ _ _ _ c.in-Some.max_lock c.now-now.result c.in-Some.is c.now-now.ensures.told
    (tested_early _ _ _ _ lock c.ranges.written_at now cut (long_time _ _ c.in-Some.is c.requires) c.saturating_sub.ensures c.if-saturating_sub-max_lock.true)
    (to_z-of_z w64 _ c.ranges.written_at)

pub returns-clause-kept : goal.returns-clause-kept
returns-clause-kept g c =
    let lock : FitsSigned w64 c.in-Some.max_lock = search rules in
    let now : FitsSigned w64 c.now-now.result = search rules in
    let cut : FitsSigned w64 c.saturating_sub.result = search rules in
    kept_again _ _ _ _ _ _ _ c.in-Some.max_lock c.now-now.result _ c.in-Some.is c.now-now.ensures.told
    (tested_due _ _ _ _ lock c.ranges.written_at now cut (long_time _ _ c.in-Some.is c.requires) c.saturating_sub.ensures c.if-saturating_sub-max_lock.false)
    (to_z-of_z w64 _ now) (λ t. c.in_ok-renew.ensures.renewed t ∙ written_then _ _ lock now (g.W.Work.state c.args.work.now).folder)

pub returns-in_err-renew-clause-own_lock : goal.returns-in_err-renew-clause-own_lock
returns-in_err-renew-clause-own_lock g c = λ t.
    let lock : FitsSigned w64 c.in-Some.max_lock = search rules in
    let now : FitsSigned w64 c.now-now.result = search rules in
    own_again _ _ _ _ _ _ _ lock now c.in-Some.is c.now-now.ensures.told (c.renew.ensures.lock t)

pub returns-clause-own_lock : goal.returns-clause-own_lock
returns-clause-own_lock g c = λ t.
    let lock : FitsSigned w64 c.in-Some.max_lock = search rules in
    let now : FitsSigned w64 c.now-now.result = search rules in
    own_again _ _ _ _ _ _ _ lock now c.in-Some.is c.now-now.ensures.told (c.renew.ensures.lock t)
