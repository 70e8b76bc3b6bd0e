use Rattle.std.proofs.Common.{◌≡◌, IsTrue, length}
use Rattle.std.specs.Vec.Iter.{into_iter_items, into_iter_len}
use Rattle.bisync_model.specs.Trees.{by_side}
use Rattle.bisync_run.specs.LeftNames.{KeepsOwnLock}
use Rattle.bisync_run.proofs.StepsDone.{Going, Keeping}
use Rattle.bisync_run.proofs.steps.do_steps.Given as goal

abbrev pub invariant-loop-step : goal.invariant-loop-step
invariant-loop-step g l =
    (goal.iterator-loop-step g).can_next l.step-iterator ×
    (goal.iterator-loop-step g).is_finite l.step-iterator ×
    Going g.A.Remote.tells g.B.Remote.tells l.fn.steps.items (into_iter_items l.step-iterator) (by_side (g.A.Remote.state l.fn.one) (g.B.Remote.state l.fn.two)) (by_side (g.A.Remote.state l.one) (g.B.Remote.state l.two)) ×
    Keeping g.W.Work.tells (g.W.Work.state l.fn.work) (g.W.Work.state l.work) ×
    (IsTrue g.C.Clock.tells → g.C.Clock.moment l.clock ≡ g.C.Clock.moment l.fn.clock) ×
    (length (into_iter_items l.step-iterator) ≡ into_iter_len l.step-iterator) ×
    (IsTrue g.W.Work.tells → KeepsOwnLock l.fn.renewal.max_lock g.C.Clock.tells (g.C.Clock.moment l.fn.clock) (g.W.Work.state l.fn.work).folder.lock (g.W.Work.state l.work).folder.lock)
