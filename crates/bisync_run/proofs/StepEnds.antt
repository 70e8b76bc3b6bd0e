-- How a run ends at a step that was not done, or may not have been.
use Rattle.std.proofs.Common.{◌≡◌, ◌++◌, ◌∷◌, Bool, IsTrue, List, Option, Some, None, Err, refl, sym, ap, subst}
use Rattle.bisync_tree.specs.declared.sides.Side.{Side}
use Rattle.bisync_tree.specs.declared.entries.Entry.{Entry}
use Rattle.bisync_tree.specs.declared.steps.Step.{Step}
use Rattle.bisync_tree.specs.declared.steps.Step.TheVariants.{Copy, Rename, Delete}
use Rattle.bisync_device.specs.Remote.{RemoteState}
use Rattle.bisync_model.specs.Effects.{after as after_steps}
use Rattle.bisync_transfer.specs.StepEffect.{HasStepFile, IsMovedUnless, IsReadOf, TellsMoved, source_of, listed_of}
use Rattle.bisync_transfer.specs.declared.steps.StepFault.{StepFault}
use Rattle.bisync_transfer.specs.declared.steps.StepFault.TheVariants as fault
use Rattle.bisync_run.specs.Grounds.{IsOther, IsReadAs}
use Rattle.bisync_run.specs.Stepping.{FindsAll, FindsTold, IsStepEnd, MovedDiffers, MovedIsRead, TellsStep, end_of_step}
use Rattle.bisync_run.proofs.AsPlanned.{AreAsPlanned, found_as_planned}

-- a step of a side that tells finds its file there, as the plan does, after the steps before it
pub found_end : (tells : Side → Bool) (steps done later : List Step) (step : Step) (answer : StepFault) (start now : Side → RemoteState) (x : FindsAll tells steps start)
    → (IsTrue (tells (source_of step)) → IsMovedUnless (HasStepFile step (now (source_of step))) (Err answer)) → TellsMoved tells step now (Err answer)
    → steps ≡ done ++ step ∷ later
    → ((side : Side) → IsTrue (tells side) → AreAsPlanned x.policy.compare (now side).tree (after_steps x.policy.window done x.trees side))
    → FindsTold tells (end_of_step step answer)
found_end tells steps done later step (fault.RemoteFault side) start now x exact moved split planned = tt
found_end tells steps done later step (fault.Moved side listed read) start now x exact moved split planned = λ t.
    let its = subst (λ (s : Side). IsTrue (tells s)) moved.0 t in
    exact its (found_as_planned x.policy.compare step (after_steps x.policy.window done x.trees) (now (source_of step)) (planned (source_of step) its) (x.finds done step later split))

pub step_end : (step : Step) (answer : StepFault) → IsStepEnd (end_of_step step answer)
step_end step (fault.RemoteFault side) = tt
step_end step (fault.Moved side listed read) = tt

other_read : (tells : Bool) (step : Step) (source : RemoteState) (read : Option Entry) → IsReadOf tells step source read → IsOther (listed_of step) read
other_read tells (Copy from path listed) source None is = tt
other_read tells (Copy from path listed) source (Some read) is = (ap (λ (e : Entry). e.time) is.entry, is.differs)
other_read tells (Rename side from to listed) source read is = subst (IsOther listed) (sym is.0) tt
other_read tells (Delete side path listed) source read is = subst (IsOther listed) (sym is.0) tt

pub moved_differs : (tells : Side → Bool) (step : Step) (now : Side → RemoteState) (answer : StepFault) → TellsMoved tells step now (Err answer) → MovedDiffers (end_of_step step answer)
moved_differs tells step now (fault.RemoteFault side) is = tt
moved_differs tells step now (fault.Moved side listed read) is =
    subst (λ (e : Entry). IsOther e read) (sym is.1) (other_read (tells side) step (now side) read is.2)

read_as : (tells : Bool) (step : Step) (source : RemoteState) (read : Option Entry) → IsReadOf tells step source read → IsReadAs (listed_of step) read
read_as tells (Copy from path listed) source None is = tt
read_as tells (Copy from path listed) source (Some read) is = (is.bytes, is.entry)
read_as tells (Rename side from to listed) source read is = subst (IsReadAs listed) (sym is.0) tt
read_as tells (Delete side path listed) source read is = subst (IsReadAs listed) (sym is.0) tt

pub moved_is_read : (tells : Side → Bool) (step : Step) (now : Side → RemoteState) (answer : StepFault) → TellsMoved tells step now (Err answer) → MovedIsRead (end_of_step step answer)
moved_is_read tells step now (fault.RemoteFault side) is = tt
moved_is_read tells step now (fault.Moved side listed read) is =
    subst (λ (e : Entry). IsReadAs e read) (sym is.1) (read_as (tells side) step (now side) read is.2)

pub tells_step : (tells : Side → Bool) (steps done later : List Step) (step : Step) (now : Side → RemoteState) (answer : StepFault)
    → steps ≡ done ++ step ∷ later → TellsMoved tells step now (Err answer) → TellsStep steps (end_of_step step answer)
tells_step tells steps done later step now (fault.RemoteFault side) split is = tt
tells_step tells steps done later step now (fault.Moved side listed read) split is = (done, step, later, split, is.0, refl, is.1)
