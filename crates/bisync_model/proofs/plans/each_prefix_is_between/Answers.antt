use Rattle.bisync_model.proofs.ListedRun.{Run}
use Rattle.bisync_model.proofs.WholePlan.{between, given_ok, distinct-rising, covered_by}
use Rattle.bisync_model.proofs.plans.each_prefix_is_between.Goals as goal

pub returns : goal.returns
returns c = λ known start paths names is.
    let run : Run = record { known = known; start = start; listed = is.listed } in
    between run names (given_ok run paths names is.through is.given) paths (distinct-rising paths is.through.rising) (covered_by run paths is.through)
