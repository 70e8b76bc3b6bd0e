use Rattle.std.proofs.Common.{◌∙◌}
use Rattle.bisync_opts.proofs.WordLemmas.{more_texts, refused_word}
use Rattle.bisync_opts.proofs.words.texts.Goals as goal

pub returns-in-Err-clause-refused : goal.returns-in-Err-clause-refused
returns-in-Err-clause-refused c =
    refused_word c.args.words.now c.loop-word.word-index c.word-item.result c.loop-word-test.true c.word-item.is
    (rw c.as_bytes.ensures at c.in-Err.ensures.cases.0)

pub loop-word-preserved : goal.loop-word-preserved
loop-word-preserved c =
    rw c.in_ok-push-in-Ok.ensures.items
    (more_texts c.loop-word.texts.items c.args.words.now c.loop-word.word-index c.in-Ok.text c.word-item.result c.loop-word-test.true
    c.loop-word.invariant.0 c.loop-word.invariant.1 c.word-item.is
    (c.in-Ok.ensures.cases.0 ∙ c.as_bytes.ensures) (rw c.as_bytes.ensures at c.in-Ok.ensures.cases.1))
