use Rattle.bisync_work.proofs.BaseLaws.{base_is_one, pair_is_one}
use Rattle.bisync_work.proofs.base_laws.one_base.Goals as goal

pub returns-clause-base : goal.returns-clause-base
returns-clause-base c = λ limit small f. base_is_one limit f small

pub returns-clause-pair : goal.returns-clause-pair
returns-clause-pair c = pair_is_one
