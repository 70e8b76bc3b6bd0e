use Rattle.bisync_model.specs.Finals.{final_entry}
use Rattle.bisync_model.specs.Outcome.{outcome}
use Rattle.bisync_model.proofs.ListedRun.{Run}
use Rattle.bisync_model.proofs.WholePlan.{given_ok}
use Rattle.bisync_model.proofs.FinalEntries.{final_listed}
use Rattle.bisync_plan.proofs.ListedOutcomes.{rows_listing, final_filtered}
use Rattle.bisync_plan.proofs.laws.final_rows_are_the_listing_of_the_outcome.Goals as goal

pub returns : goal.returns
returns c = λ known start paths names is.
    let run : Run = record { known = known; start = start; listed = is.listed } in
    rows_listing known.policy (final_entry known names) (outcome known start names)
    (final_listed run names (given_ok run paths names is.through is.given))
    (final_filtered known names)
