use Rattle.bisync_guard.proofs.OrderOfGuards.{one_at_a_place}
use Rattle.bisync_guard.proofs.laws.guards_at_one_place_are_equal.Goals as goal

pub returns : goal.returns
returns c = one_at_a_place
