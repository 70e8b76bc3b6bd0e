use Rattle.bisync_model.proofs.ListedRun.{Run}
use Rattle.bisync_model.proofs.WholePlan.{given_ok}
use Rattle.bisync_model.proofs.StepChanges.{plan_count}
use Rattle.bisync_model.proofs.plans.steps_make_the_changes.Goals as goal

pub returns : goal.returns
returns c = λ known start paths names is side.
    let run : Run = record { known = known; start = start; listed = is.listed } in
    plan_count run names (given_ok run paths names is.through is.given) paths side
