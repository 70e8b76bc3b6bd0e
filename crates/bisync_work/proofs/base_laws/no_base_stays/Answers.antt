use Rattle.std.proofs.Common.{None, ⊎_elim}
use Rattle.bisync_work.proofs.base_laws.no_base_stays.Goals as goal

pub returns-clause-kept : goal.returns-clause-kept
returns-clause-kept c = λ limit f g none keeps. keeps.base None none

pub returns-clause-fallen : goal.returns-clause-fallen
returns-clause-fallen c = λ limit f g none falls. ⊎_elim (λ stays. stays) (λ gone. gone) (falls.base limit None none)
