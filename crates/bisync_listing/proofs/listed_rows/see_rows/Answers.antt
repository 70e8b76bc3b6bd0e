use Rattle.std.proofs.Common.{ℕ, take, sym, subst, add-one, arith}
use Rattle.std.specs.List.{AllByRecursion}
use Rattle.bisync_listing.specs.ListingText.{IsListed}
use Rattle.bisync_listing.proofs.ListedLaws.{seen_more, seen_all}
use Rattle.bisync_listing.proofs.listed_rows.see_rows.Goals as goal

pub loop-i-preserved : goal.loop-i-preserved
loop-i-preserved c =
    subst (λ (n : ℕ). AllByRecursion IsListed (take n c.args.listing.now)) (sym (add-one c.loop-i.i))
    (seen_more c.args.listing.now c.loop-i.i c.path_at.result.now c.entry_at.result.now c.path_at.ensures c.entry_at.ensures c.see_row.ensures c.loop-i.invariant)

pub returns-clause-each : goal.returns-clause-each
returns-clause-each c = seen_all c.args.listing.now c.loop-i.i (omega (arith, c.loop-i-test.false, c.len-i-end.ensures.count)) c.loop-i.invariant
