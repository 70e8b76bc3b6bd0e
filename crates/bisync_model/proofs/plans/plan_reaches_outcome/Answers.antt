use Rattle.bisync_model.proofs.ListedRun.{Run}
use Rattle.bisync_model.proofs.WholePlan.{reaches, given_ok, distinct-rising, covered_by}
use Rattle.bisync_model.proofs.plans.plan_reaches_outcome.Goals as goal

pub returns : goal.returns
returns c = λ known start paths names is.
    let run : Run = record { known = known; start = start; listed = is.listed } in
    reaches run names (given_ok run paths names is.through is.given) paths (distinct-rising paths is.through.rising) (covered_by run paths is.through)
