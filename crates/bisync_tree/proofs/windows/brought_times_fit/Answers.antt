use Rattle.bisync_tree.proofs.WindowLemmas.{brought_fits}
use Rattle.bisync_tree.proofs.windows.brought_times_fit.Goals as goal

pub returns : goal.returns
returns c = brought_fits
