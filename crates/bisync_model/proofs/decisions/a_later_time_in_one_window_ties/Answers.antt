use Rattle.std.proofs.Common.{refl}
use Rattle.bisync_tree.specs.Window.{window_number}
use Rattle.bisync_model.proofs.decisions.a_later_time_in_one_window_ties.Goals as goal

pub returns : goal.returns
unfolding window_number
returns c = record { tie = refl; later = refl; finer = refl }
