use Rattle.bisync_model.proofs.StepsOfPaths.{resync_plan_determined, resync_changes_determined}
use Rattle.bisync_model.proofs.resyncs.resync_copies_are_determined.Goals as goal

pub returns-clause-copies : goal.returns-clause-copies
returns-clause-copies c = resync_plan_determined

pub returns-clause-changes : goal.returns-clause-changes
returns-clause-changes c = resync_changes_determined
