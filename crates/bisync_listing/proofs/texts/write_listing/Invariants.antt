use Rattle.std.proofs.Common.{◌≡◌, ◌++◌, length}
use Rattle.bisync_listing.specs.Spelling.{listing_text}
use Rattle.bisync_listing.proofs.texts.write_listing.Given as goal

abbrev pub invariant-pieces : goal.invariant-pieces
invariant-pieces l = l.text.items ++ l.writer ≡ listing_text l.header l.listing

abbrev pub decreases-pieces : goal.decreases-pieces
decreases-pieces l = length l.writer
