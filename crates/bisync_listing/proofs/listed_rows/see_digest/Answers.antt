use Rattle.bisync_listing.proofs.HexLaws.{each_byte}
use Rattle.bisync_listing.proofs.listed_rows.see_digest.Goals as goal

pub returns : goal.returns
returns c = record { count = c.told-bytes; each = each_byte c.args.bytes.now (λ k h. c.fits-bytes k) }
