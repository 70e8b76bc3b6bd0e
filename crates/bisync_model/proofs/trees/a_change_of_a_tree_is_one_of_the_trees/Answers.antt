use Rattle.bisync_model.proofs.TreesOfDevices.{put_one, put_two, without_one, without_two}
use Rattle.bisync_model.proofs.trees.a_change_of_a_tree_is_one_of_the_trees.Goals as goal

pub returns-clause-put1 : goal.returns-clause-put1
returns-clause-put1 c = put_one

pub returns-clause-put2 : goal.returns-clause-put2
returns-clause-put2 c = put_two

pub returns-clause-taken1 : goal.returns-clause-taken1
returns-clause-taken1 c = without_one

pub returns-clause-taken2 : goal.returns-clause-taken2
returns-clause-taken2 c = without_two
