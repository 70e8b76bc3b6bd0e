use Rattle.bisync_model.proofs.ViewOfTrees.{view_listed}
use Rattle.bisync_model.proofs.views.a_view_of_trees_lists_them.Goals as goal

pub returns : goal.returns
returns c = view_listed
