use Rattle.bisync_listing.proofs.ReaderLaws.{reads, end_err}
use Rattle.bisync_listing.proofs.readers.ListingReader.end.Goals as goal

pub returns-clause-err : goal.returns-clause-err
returns-clause-err c =
    let p = c.self.inside.progress in
    end_err p c.args.self c.finish.result c.self.view_is (reads p c.self.invariant c.in_default.is) c.finish.ensures.err
