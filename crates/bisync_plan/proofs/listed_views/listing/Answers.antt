use Rattle.std.proofs.Common.{refl}
use Rattle.bisync_plan.proofs.ListedParts.{none_pushed, digests_of}
use Rattle.bisync_plan.proofs.listed_views.listing.Goals as goal

pub loop-text-preserved : goal.loop-text-preserved
loop-text-preserved c = none_pushed c.loop-text.listing c.push.new.self _ _ c.in_ok-push.ensures.ok refl c.loop-text.invariant

pub returns : goal.returns
returns c = digests_of c.loop-text.listing c.loop-text.invariant
