use Rattle.bisync_work.proofs.FallLaws.{fallen_none, fallen_unused}
use Rattle.bisync_work.proofs.base_laws.fallen_has_no_base.Goals as goal

pub returns-clause-none : goal.returns-clause-none
returns-clause-none c = fallen_none

pub returns-clause-unused : goal.returns-clause-unused
returns-clause-unused c = fallen_unused
