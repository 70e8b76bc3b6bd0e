use Rattle.bisync_work.proofs.BaseLaws.{stamp_is_one}
use Rattle.bisync_work.proofs.base_laws.one_new_stamp.Goals as goal

pub returns : goal.returns
returns c = stamp_is_one
