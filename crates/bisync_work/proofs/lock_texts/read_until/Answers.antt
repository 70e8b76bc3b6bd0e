use Rattle.bisync_work.specs.LockTexts.{expiry_word}
use Rattle.bisync_work.proofs.lock_texts.read_until.Goals as goal

pub returns-in-None : goal.returns-in-None
returns-in-None c expiry fits is = c.in-None.ensures.none (expiry_word expiry) is
