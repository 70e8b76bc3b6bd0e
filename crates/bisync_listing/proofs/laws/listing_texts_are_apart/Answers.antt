use Rattle.bisync_listing.proofs.ListingLaws.{listing_text_one}
use Rattle.bisync_listing.proofs.laws.listing_texts_are_apart.Goals as goal

pub returns : goal.returns
returns c = listing_text_one
