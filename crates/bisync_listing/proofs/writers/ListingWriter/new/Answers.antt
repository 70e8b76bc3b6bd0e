use Rattle.bisync_listing.proofs.ListedLaws.{written_is_text}
use Rattle.bisync_listing.proofs.writers.ListingWriter.new.Goals as goal

pub returns-clause-read_again : goal.returns-clause-read_again
returns-clause-read_again c = written_is_text c.args.header.now c.args.listing.now c.requires c.see_rows.ensures.rising c.see_rows.ensures.each
