use Rattle.bisync_plan.proofs.FaultLaws.{fault_same}
use Rattle.bisync_plan.proofs.laws.faults_are_determined.Goals as goal

pub returns : goal.returns
returns c = fault_same
