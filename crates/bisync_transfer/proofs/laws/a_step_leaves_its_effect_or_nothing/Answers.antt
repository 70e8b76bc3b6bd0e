use Rattle.bisync_transfer.proofs.StepTreesLemmas.{leaves}
use Rattle.bisync_transfer.proofs.laws.a_step_leaves_its_effect_or_nothing.Goals as goal

pub returns : goal.returns
returns c tells step before after answer one two = leaves tells before after one two step answer
