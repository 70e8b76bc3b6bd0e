use Rattle.bisync_work.specs.BadNames.{base_names}
use Rattle.bisync_work.proofs.BaseLaws.{bad_is_one}
use Rattle.bisync_work.proofs.base_laws.one_bad_name.Goals as goal

pub returns : goal.returns
returns c = λ limit f. bad_is_one limit f base_names
