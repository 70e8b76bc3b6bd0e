use Rattle.bisync_guard.proofs.OrderOfGuards.{nothing_before}
use Rattle.bisync_guard.proofs.laws.nothing_before_the_answer_holds.Goals as goal

pub returns : goal.returns
returns c = nothing_before
