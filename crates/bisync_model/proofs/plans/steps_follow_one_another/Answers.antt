use Rattle.bisync_model.proofs.StepEffects.{after-append}
use Rattle.bisync_model.proofs.plans.steps_follow_one_another.Goals as goal

pub returns : goal.returns
returns c = after-append
