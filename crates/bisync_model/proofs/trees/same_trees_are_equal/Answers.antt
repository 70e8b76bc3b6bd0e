use Rattle.bisync_model.proofs.TreesOfDevices.{same_is_equal}
use Rattle.bisync_model.proofs.trees.same_trees_are_equal.Goals as goal

pub returns : goal.returns
returns c = same_is_equal
