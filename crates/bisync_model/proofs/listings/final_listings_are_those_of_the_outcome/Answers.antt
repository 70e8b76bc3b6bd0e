use Rattle.bisync_model.proofs.ListedRun.{Run}
use Rattle.bisync_model.proofs.WholePlan.{given_ok}
use Rattle.bisync_model.proofs.FinalEntries.{final_listed}
use Rattle.bisync_model.proofs.listings.final_listings_are_those_of_the_outcome.Goals as goal

pub returns-clause-entries : goal.returns-clause-entries
returns-clause-entries c = λ known start paths names is.
    let run : Run = record { known = known; start = start; listed = is.listed } in
    final_listed run names (given_ok run paths names is.through is.given)
