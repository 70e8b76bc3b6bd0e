use Rattle.bisync_plan.proofs.FaultLaws.{steps_same, final1_same, final2_same}
use Rattle.bisync_plan.proofs.laws.plans_are_determined.Goals as goal

pub returns : goal.returns
returns c = record { steps = steps_same; final1 = final1_same; final2 = final2_same }
