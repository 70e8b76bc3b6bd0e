use Rattle.bisync_plan.proofs.ListedParts.{HasNone}
use Rattle.bisync_plan.proofs.listed_views.listing.Given as goal

abbrev pub invariant-loop-text : goal.invariant-loop-text
invariant-loop-text l = HasNone l.listing
