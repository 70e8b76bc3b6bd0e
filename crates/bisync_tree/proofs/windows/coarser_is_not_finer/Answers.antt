use Rattle.bisync_tree.proofs.WindowLemmas.{coarser_left, coarser_right}
use Rattle.bisync_tree.proofs.windows.coarser_is_not_finer.Goals as goal

pub returns : goal.returns
returns c = record { one = coarser_left; two = coarser_right }
