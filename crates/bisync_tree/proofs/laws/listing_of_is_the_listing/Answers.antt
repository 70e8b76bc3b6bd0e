use Rattle.bisync_tree.proofs.ListingLemmas.{listing_rising, look-listing_of}
use Rattle.bisync_tree.proofs.laws.listing_of_is_the_listing.Goals as goal

pub returns : goal.returns
returns c = record { rising = listing_rising; entries = look-listing_of }
