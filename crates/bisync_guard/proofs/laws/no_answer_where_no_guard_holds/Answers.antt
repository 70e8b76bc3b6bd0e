use Rattle.bisync_guard.proofs.OrderOfGuards.{none_exactly}
use Rattle.bisync_guard.proofs.laws.no_answer_where_no_guard_holds.Goals as goal

pub returns : goal.returns
returns c = none_exactly
