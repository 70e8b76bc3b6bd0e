use Rattle.bisync_listing.proofs.ReaderLaws.{reads, feed_ok, feed_err}
use Rattle.bisync_listing.proofs.readers.ListingReader.feed.Goals as goal

pub returns-clause-ok : goal.returns-clause-ok
returns-clause-ok c =
    let p = c.self.inside.progress in
    feed_ok p c.take.new.self c.args.self.now c.args.piece.now c.take.result c.self.view_is c.in_default.is c.take.ensures.sound c.take.ensures.limit c.take.ensures.takes

pub returns-clause-new_fault : goal.returns-clause-new_fault
returns-clause-new_fault c =
    let p = c.self.inside.progress in
    feed_err p c.take.new.self c.args.self.now c.args.piece.now c.take.result c.self.view_is (reads p c.self.invariant c.in_default.is) c.take.ensures.takes
