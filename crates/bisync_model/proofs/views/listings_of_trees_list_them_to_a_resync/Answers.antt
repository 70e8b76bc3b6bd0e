use Rattle.bisync_model.proofs.ViewOfTrees.{resync_listed}
use Rattle.bisync_model.proofs.views.listings_of_trees_list_them_to_a_resync.Goals as goal

pub returns : goal.returns
returns c = resync_listed
