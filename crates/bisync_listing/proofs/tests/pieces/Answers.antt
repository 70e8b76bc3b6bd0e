use Rattle.bisync_listing.proofs.ListedLaws.{may_be_written}
use Rattle.bisync_listing.proofs.tests.pieces.Goals as goal

pub new-writer-requires : goal.new-writer-requires
new-writer-requires c = may_be_written _ c.in_ok-header.header c.in_ok-header.listing c.args.text.now c.in_ok-header.ensures.ok c.if-is_none.ensures
