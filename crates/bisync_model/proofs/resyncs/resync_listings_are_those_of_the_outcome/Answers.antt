use Rattle.bisync_model.proofs.ResyncCopies.{resync_listed}
use Rattle.bisync_model.proofs.resyncs.resync_listings_are_those_of_the_outcome.Goals as goal

pub returns-clause-entries : goal.returns-clause-entries
returns-clause-entries c = λ known start paths is. resync_listed known start is.listed
