use Rattle.bisync_guard.proofs.OrderOfGuards.{answer_holds}
use Rattle.bisync_guard.proofs.laws.the_answer_holds.Goals as goal

pub returns : goal.returns
returns c = answer_holds
