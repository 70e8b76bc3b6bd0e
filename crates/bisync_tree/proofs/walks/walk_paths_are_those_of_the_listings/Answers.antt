use Rattle.bisync_tree.proofs.WalkLemmas.{rising_paths, covering}
use Rattle.bisync_tree.proofs.walks.walk_paths_are_those_of_the_listings.Goals as goal

pub returns : goal.returns
returns c = record { rising = rising_paths; covering = covering }
