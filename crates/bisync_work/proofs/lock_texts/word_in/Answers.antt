use Rattle.bisync_work.proofs.LockTextLaws.{word_in_text}
use Rattle.bisync_work.proofs.lock_texts.word_in.Goals as goal

pub returns-clause-found : goal.returns-clause-found
returns-clause-found c =
    let cut = c.in_ok-rest.ensures.cases in
    word_in_text c.args.text.now c.in_ok-rest.rest.now c.strip_suffix.result cut.0 cut.1 c.strip_suffix.ensures.cases
