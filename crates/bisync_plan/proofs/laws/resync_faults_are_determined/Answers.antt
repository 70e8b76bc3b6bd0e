use Rattle.std.proofs.Common.{true}
use Rattle.bisync_plan.proofs.FaultLaws.{no_resync_fault, resync_fault_same}
use Rattle.bisync_plan.proofs.laws.resync_faults_are_determined.Goals as goal

pub returns : goal.returns
returns c = record { plans = λ known paths header limit. no_resync_fault known paths header limit true; faults = resync_fault_same }
