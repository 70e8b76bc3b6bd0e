use Rattle.bisync_work.proofs.BaseLaws.{same_keeps, same_in_pair, same_stamp, same_bad}
use Rattle.bisync_work.proofs.base_laws.same_listings_same_base.Goals as goal

pub returns-clause-keeps : goal.returns-clause-keeps
returns-clause-keeps c = same_keeps

pub returns-clause-pair : goal.returns-clause-pair
returns-clause-pair c = same_in_pair

pub returns-clause-stamp : goal.returns-clause-stamp
returns-clause-stamp c = same_stamp

pub returns-clause-bad : goal.returns-clause-bad
returns-clause-bad c = same_bad
