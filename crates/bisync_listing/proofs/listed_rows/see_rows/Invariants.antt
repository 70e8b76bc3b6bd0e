use Rattle.std.proofs.Common.{take}
use Rattle.std.specs.List.{AllByRecursion}
use Rattle.bisync_listing.specs.ListingText.{IsListed}
use Rattle.bisync_listing.proofs.listed_rows.see_rows.Given as goal

abbrev pub invariant-loop-i : goal.invariant-loop-i
invariant-loop-i l = AllByRecursion IsListed (take l.i l.listing)
