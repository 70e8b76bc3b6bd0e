use Rattle.bisync_transfer.proofs.StepTreesLemmas.{leaves, none_done, goes_on}
use Rattle.bisync_transfer.proofs.laws.steps_are_done_one_after_another.Goals as goal

pub returns-clause-none : goal.returns-clause-none
returns-clause-none c = none_done

pub returns-clause-next : goal.returns-clause-next
returns-clause-next c tells steps step start before after answer one two so_far windows performs =
    goes_on steps step start before after so_far windows answer (leaves tells before after one two step answer performs)
