use Rattle.bisync_tree.proofs.WindowLemmas.{brought_twice}
use Rattle.bisync_tree.proofs.windows.brought_times_are_kept.Goals as goal

pub returns : goal.returns
returns c = brought_twice
