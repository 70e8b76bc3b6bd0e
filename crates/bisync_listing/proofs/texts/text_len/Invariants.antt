use Rattle.std.proofs.Common.{◌≡◌, ◌-◌, ◌^◌, ◌≤◌, length, min}
use Rattle.bisync_listing.specs.Spelling.{listing_text}
use Rattle.bisync_listing.proofs.texts.text_len.Given as goal

abbrev pub invariant-pieces : goal.invariant-pieces
invariant-pieces l = record { within : length l.writer ≤ length (listing_text l.header l.listing); counted : l.len ≡ min (length (listing_text l.header l.listing) - length l.writer) (2 ^ 64 - 1) }

abbrev pub decreases-pieces : goal.decreases-pieces
decreases-pieces l = length l.writer
