use Rattle.bisync_model.proofs.ListedRun.{Run}
use Rattle.bisync_model.proofs.WholePlan.{given_ok, distinct-rising, covered_by}
use Rattle.bisync_model.proofs.StepsFindFiles.{plan_finds}
use Rattle.bisync_model.proofs.plans.each_step_finds_its_file.Goals as goal

pub returns : goal.returns
returns c = λ known start paths names is.
    let run : Run = record { known = known; start = start; listed = is.listed } in
    plan_finds run names (given_ok run paths names is.through is.given) paths (distinct-rising paths is.through.rising) (covered_by run paths is.through)
