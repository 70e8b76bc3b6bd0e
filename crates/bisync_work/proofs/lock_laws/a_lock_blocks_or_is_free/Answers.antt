use Rattle.bisync_work.proofs.LockLaws.{free_or_blocking, one_blocking}
use Rattle.bisync_work.proofs.lock_laws.a_lock_blocks_or_is_free.Goals as goal

pub returns-clause-apart : goal.returns-clause-apart
returns-clause-apart c = free_or_blocking

pub returns-clause-one : goal.returns-clause-one
returns-clause-one c = one_blocking
