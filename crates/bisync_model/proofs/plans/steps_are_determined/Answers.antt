use Rattle.bisync_model.proofs.StepsOfPaths.{plan_determined, changes_determined}
use Rattle.bisync_model.proofs.plans.steps_are_determined.Goals as goal

pub returns-clause-steps : goal.returns-clause-steps
returns-clause-steps c = plan_determined

pub returns-clause-changes : goal.returns-clause-changes
returns-clause-changes c = changes_determined
