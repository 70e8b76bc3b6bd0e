use Rattle.bisync_model.proofs.SafeAtBases.{safe_at_base}
use Rattle.bisync_model.proofs.safety.safe_in_the_same_trees.Goals as goal

pub returns-clause-base : goal.returns-clause-base
returns-clause-base c = safe_at_base
