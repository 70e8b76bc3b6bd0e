use Rattle.bisync_listing.proofs.ListedLaws.{may_be_written}
use Rattle.bisync_listing.proofs.tests.written.Goals as goal

pub text_len-len-requires : goal.text_len-len-requires
text_len-len-requires c = may_be_written _ c.in_ok-header.header c.in_ok-header.listing c.args.text.now c.in_ok-header.ensures.ok c.if-is_none.ensures

pub write_listing-requires : goal.write_listing-requires
write_listing-requires c = may_be_written _ c.in_ok-header.header c.in_ok-header.listing c.args.text.now c.in_ok-header.ensures.ok c.if-is_none.ensures
