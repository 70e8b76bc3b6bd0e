use Rattle.bisync_tree.proofs.PassingLemmas.{passing_rising, look-passing, passing-listing_of}
use Rattle.bisync_tree.proofs.laws.passing_part_is_a_listing.Goals as goal

pub returns : goal.returns
returns c = record { rising = passing_rising; entries = look-passing; of_a_tree = passing-listing_of }
