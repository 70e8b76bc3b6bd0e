use Rattle.bisync_model.specs.Resync.{resync_outcome, resync_entry}
use Rattle.bisync_model.proofs.ResyncCopies.{resync_listed}
use Rattle.bisync_plan.proofs.ListedOutcomes.{rows_listing, resync_filtered}
use Rattle.bisync_plan.proofs.laws.resync_rows_are_the_listing_of_the_outcome.Goals as goal

pub returns : goal.returns
returns c = λ known start paths is.
    rows_listing known.policy (resync_entry known) (resync_outcome known start) (resync_listed known start is.listed) (resync_filtered known)
