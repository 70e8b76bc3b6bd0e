use Rattle.bisync_tree.proofs.PassingLemmas.{paths_rising, among-paths_in}
use Rattle.bisync_tree.proofs.laws.paths_in_are_those_of_the_tree.Goals as goal

pub returns : goal.returns
returns c = record { rising = paths_rising; covering = among-paths_in }
