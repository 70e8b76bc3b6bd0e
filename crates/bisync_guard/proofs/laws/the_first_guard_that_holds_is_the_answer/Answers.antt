use Rattle.bisync_guard.proofs.OrderOfGuards.{first_is_answer}
use Rattle.bisync_guard.proofs.laws.the_first_guard_that_holds_is_the_answer.Goals as goal

pub returns : goal.returns
returns c = first_is_answer
