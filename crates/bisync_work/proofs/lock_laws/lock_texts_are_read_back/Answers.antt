use Rattle.std.proofs.Common.{arith}
use Rattle.bisync_work.proofs.LockLaws.{length-lock_text, one_until, spells_lock}
use Rattle.bisync_work.proofs.lock_laws.lock_texts_are_read_back.Goals as goal

pub returns-clause-one_text : goal.returns-clause-one_text
returns-clause-one_text c = spells_lock

pub returns-clause-one_until : goal.returns-clause-one_until
returns-clause-one_until c = one_until

pub returns-clause-short : goal.returns-clause-short
returns-clause-short c expiry = omega (arith, length-lock_text expiry)
