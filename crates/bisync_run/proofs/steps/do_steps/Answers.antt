use Rattle.std.proofs.Common.{Ok, Err, ℕ, List, sum_by, ap, refl, sym, ◌∙◌, inl, inr, subst}
use Rattle.bisync_tree.specs.declared.steps.Step.{Step}
use Rattle.bisync_model.specs.Changes.{changes_of}
use Rattle.bisync_device.specs.Faults.{Rose}
use Rattle.bisync_tree.specs.declared.sides.Side.TheVariants.{One, Two}
use Rattle.bisync_model.specs.Trees.{by_side}
use Rattle.bisync_run.specs.Stepping.{FindsTold, MovedDiffers, MovedIsRead}
use Rattle.bisync_run.proofs.EndCases.{false_true}
use Rattle.bisync_run.proofs.LockNewLaws.{lock_new_twice, kept_lock_new}
use Rattle.bisync_run.proofs.OwnLocks.{own_next}
use Rattle.bisync_run.proofs.StepEnds.{found_end, moved_differs, moved_is_read}
use Rattle.bisync_run.proofs.StepsDone.{part_now, done_now, counted_now, both, going_next, keeping_next, fewer_left, none_left, split_here, part_end, causes_end, causes_lock, causes_none}
use Rattle.bisync_run.proofs.steps.do_steps.Goals as goal

-- # The lock could not be written

pub returns-in-Err-clause-part : goal.returns-in-Err-clause-part
returns-in-Err-clause-part g c = part_now _ _ _ _ _ _ c.loop-step.invariant.2

pub returns-in-Err-clause-windows : goal.returns-in-Err-clause-windows
returns-in-Err-clause-windows g c = (c.loop-step.invariant.2.windows One, c.loop-step.invariant.2.windows Two)

pub returns-in-Err-clause-left1 : goal.returns-in-Err-clause-left1
returns-in-Err-clause-left1 g c = c.loop-step.invariant.2.unstopped One

pub returns-in-Err-clause-left2 : goal.returns-in-Err-clause-left2
returns-in-Err-clause-left2 g c = c.loop-step.invariant.2.unstopped Two

pub returns-in-Err-clause-causes : goal.returns-in-Err-clause-causes
returns-in-Err-clause-causes g c =
    let i = c.loop-step.invariant in
    causes_lock _ _ _ _ _ _ _ (i.2.faults One) (i.2.faults Two) i.3.faults c.in-Err.ensures.cause

pub returns-in-Err-clause-lock_new : goal.returns-in-Err-clause-lock_new
returns-in-Err-clause-lock_new g c t (inl ok) = false_true ok
returns-in-Err-clause-lock_new g c t (inr never) =
    absurd (never (subst (λ (n : ℕ). Rose n (g.W.Work.state c.keep_lock.new.work).faults) c.loop-step.invariant.3.faults (c.in-Err.ensures.cause.rose refl)))

-- # The step was not done, or may not have been

pub returns-in-Err-perform-clause-part : goal.returns-in-Err-perform-clause-part
returns-in-Err-perform-clause-part g c =
    let e = c.in-Err-perform.ensures in
    part_end _ _ _ _ _ _ _ _ _ c.loop-step.invariant.2 c.in-Some.ensures.steps.0 c.in-Err-perform.fault (both (Err c.in-Err-perform.fault) _ _ e.one e.two) e.effect

pub returns-in-Err-perform-clause-found : goal.returns-in-Err-perform-clause-found
returns-in-Err-perform-clause-found g c = λ x.
    let i = c.loop-step.invariant.2 in
    let e = c.in-Err-perform.ensures in
    subst (FindsTold (by_side g.A.Remote.tells g.B.Remote.tells)) (sym c.end_of.ensures)
    (found_end _ _ _ _ c.in-Some.step c.in-Err-perform.fault _ _ x e.exact e.moved (split_here _ _ _ _ _ _ _ _ i c.in-Some.ensures.steps.0) (i.planned x))

pub returns-in-Err-perform-clause-moved : goal.returns-in-Err-perform-clause-moved
returns-in-Err-perform-clause-moved g c = subst MovedDiffers (sym c.end_of.ensures) (moved_differs _ c.in-Some.step _ c.in-Err-perform.fault c.in-Err-perform.ensures.moved)

pub returns-in-Err-perform-clause-read : goal.returns-in-Err-perform-clause-read
returns-in-Err-perform-clause-read g c = subst MovedIsRead (sym c.end_of.ensures) (moved_is_read _ c.in-Some.step _ c.in-Err-perform.fault c.in-Err-perform.ensures.moved)

pub returns-in-Err-perform-clause-windows : goal.returns-in-Err-perform-clause-windows
returns-in-Err-perform-clause-windows g c =
    let i = c.loop-step.invariant.2 in
    let e = c.in-Err-perform.ensures in
    (e.one.window ∙ i.windows One, e.two.window ∙ i.windows Two)

pub returns-in-Err-perform-clause-left1 : goal.returns-in-Err-perform-clause-left1
returns-in-Err-perform-clause-left1 g c = λ none. c.in-Err-perform.ensures.one.unstopped (c.loop-step.invariant.2.unstopped One none)

pub returns-in-Err-perform-clause-left2 : goal.returns-in-Err-perform-clause-left2
returns-in-Err-perform-clause-left2 g c = λ none. c.in-Err-perform.ensures.two.unstopped (c.loop-step.invariant.2.unstopped Two none)

pub returns-in-Err-perform-clause-causes : goal.returns-in-Err-perform-clause-causes
returns-in-Err-perform-clause-causes g c =
    let i = c.loop-step.invariant in
    let e = c.in-Err-perform.ensures in
    causes_end _ _ _ _ _ _ _ _ c.in-Some.step c.in-Err-perform.fault _ c.end_of.ensures (i.2.faults One) (i.2.faults Two) e.one.cause e.two.cause (c.in-Ok.ensures.cause.kept refl ∙ i.3.faults)

pub returns-in-Err-perform-clause-lock_new : goal.returns-in-Err-perform-clause-lock_new
returns-in-Err-perform-clause-lock_new g c t sure =
    lock_new_twice (c.loop-step.invariant.3.lock_new t) (kept_lock_new c.in-Ok.ensures.kept t)

-- # The step was done

pub loop-step-preserved-in-Ok-perform : goal.loop-step-preserved-in-Ok-perform
loop-step-preserved-in-Ok-perform g c =
    let i = c.loop-step.invariant in
    let e = c.in-Ok-perform.ensures in
    let k = c.in-Ok.ensures in (
      tt,
      tt,
      going_next _ _ _ _ _ _ _ _ _ i.2 c.in-Some.ensures.steps.0 c.in-Ok-perform.field-0 (both (Ok c.in-Ok-perform.field-0) _ _ e.one e.two) e.effect,
      keeping_next _ _ _ _ i.3 k.lock (kept_lock_new k.kept) k.left k.cause,
      λ told. k.moment told ∙ i.4 told,
      fewer_left _ _ _ _ _ i.5 c.in-Some.ensures.steps.0 c.in-Some.ensures.steps.1,
      λ t. own_next _ _ _ _ _ _ _ i.4 (i.6 t) (k.own_lock t),
    )

pub loop-step-preserved-in-Ok-perform-2 : goal.loop-step-preserved-in-Ok-perform-2
loop-step-preserved-in-Ok-perform-2 g c =
    let i = c.loop-step.invariant in
    let e = c.in-Ok-perform.ensures in
    let k = c.in-Ok.ensures in (
      tt,
      tt,
      going_next _ _ _ _ _ _ _ _ _ i.2 c.in-Some.ensures.steps.0 c.in-Ok-perform.field-0 (both (Ok c.in-Ok-perform.field-0) _ _ e.one e.two) e.effect,
      keeping_next _ _ _ _ i.3 k.lock (kept_lock_new k.kept) k.left k.cause,
      λ told. k.moment told ∙ i.4 told,
      fewer_left _ _ _ _ _ i.5 c.in-Some.ensures.steps.0 c.in-Some.ensures.steps.1,
      λ t. own_next _ _ _ _ _ _ _ i.4 (i.6 t) (k.own_lock t),
    )

pub loop-step-preserved : goal.loop-step-preserved
loop-step-preserved g c =
    let i = c.loop-step.invariant in
    let e = c.in-Ok-perform.ensures in
    let k = c.in-Ok.ensures in (
      tt,
      tt,
      going_next _ _ _ _ _ _ _ _ _ i.2 c.in-Some.ensures.steps.0 c.in-Ok-perform.field-0 (both (Ok c.in-Ok-perform.field-0) _ _ e.one e.two) e.effect,
      keeping_next _ _ _ _ i.3 k.lock (kept_lock_new k.kept) k.left k.cause,
      λ told. k.moment told ∙ i.4 told,
      fewer_left _ _ _ _ _ i.5 c.in-Some.ensures.steps.0 c.in-Some.ensures.steps.1,
      λ t. own_next _ _ _ _ _ _ _ i.4 (i.6 t) (k.own_lock t),
    )

-- # After the last step

pub returns-clause-done : goal.returns-clause-done
returns-clause-done g c =
    let i = c.loop-step.invariant in
    done_now _ _ _ _ _ _ i.2 (none_left _ _ i.5 c.in-None.ensures.steps.0)

pub returns-clause-counted : goal.returns-clause-counted
returns-clause-counted g c =
    let i = c.loop-step.invariant in
    let n = c.count_changes-changes.ensures in
    let same = c.deref.ensures.value in
    counted_now _ _ _ _ _ _ i.2 (none_left _ _ i.5 c.in-None.ensures.steps.0) _ _ (n.one ∙ ap (λ (l : List Step). sum_by (changes_of One) l) same) (n.two ∙ ap (λ (l : List Step). sum_by (changes_of Two) l) same)

pub returns-clause-part : goal.returns-clause-part
returns-clause-part g c = part_now _ _ _ _ _ _ c.loop-step.invariant.2

pub returns-clause-lock_new : goal.returns-clause-lock_new
returns-clause-lock_new g c t sure = c.loop-step.invariant.3.lock_new t

pub returns-clause-windows : goal.returns-clause-windows
returns-clause-windows g c = (c.loop-step.invariant.2.windows One, c.loop-step.invariant.2.windows Two)

pub returns-clause-left1 : goal.returns-clause-left1
returns-clause-left1 g c = c.loop-step.invariant.2.unstopped One

pub returns-clause-left2 : goal.returns-clause-left2
returns-clause-left2 g c = c.loop-step.invariant.2.unstopped Two

pub returns-clause-causes : goal.returns-clause-causes
returns-clause-causes g c =
    let i = c.loop-step.invariant in
    causes_none _ _ _ _ _ _ _ (i.2.faults One) (i.2.faults Two) i.3.faults

-- # The lock

pub returns-in-Err-clause-own_lock : goal.returns-in-Err-clause-own_lock
returns-in-Err-clause-own_lock g c t = own_next _ _ _ _ _ _ _ c.loop-step.invariant.4 (c.loop-step.invariant.6 t) (c.keep_lock.ensures.own_lock t)

pub returns-in-Err-perform-clause-own_lock : goal.returns-in-Err-perform-clause-own_lock
returns-in-Err-perform-clause-own_lock g c t = own_next _ _ _ _ _ _ _ c.loop-step.invariant.4 (c.loop-step.invariant.6 t) (c.in-Ok.ensures.own_lock t)

pub returns-clause-own_lock : goal.returns-clause-own_lock
returns-clause-own_lock g c t = c.loop-step.invariant.6 t
