use Rattle.bisync_model.proofs.ResyncCopies.{resync_agrees, resync_trees_agree}
use Rattle.bisync_model.proofs.resyncs.resync_listings_agree.Goals as goal

pub returns-clause-listings : goal.returns-clause-listings
returns-clause-listings c = resync_agrees

pub returns-clause-trees : goal.returns-clause-trees
returns-clause-trees c = λ known start paths is finer. resync_trees_agree known start is.listed finer
