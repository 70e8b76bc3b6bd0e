use Rattle.bisync_model.proofs.PathsOfWalk.{walk_paths}
use Rattle.bisync_model.proofs.views.walk_goes_through_the_paths.Goals as goal

pub returns : goal.returns
returns c = walk_paths
