use Rattle.bisync_opts.proofs.reading.lock_time.Goals as goal

pub returns-clause-read : goal.returns-clause-read
returns-clause-read c = rw (← c.text_of.ensures, ← c.max_lock.ensures.value) c.value.ensures
