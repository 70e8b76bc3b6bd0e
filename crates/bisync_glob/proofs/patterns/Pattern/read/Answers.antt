use Rattle.std.proofs.lemmas.Result.{IfOk-weaker, IfErr-weaker}
use Rattle.bisync_glob.proofs.OneAnswer.{only_pattern, only_fault}
use Rattle.bisync_glob.proofs.patterns.Pattern.read.Goals as goal

pub returns-in-Ok-clause-only_pattern : goal.returns-in-Ok-clause-only_pattern
returns-in-Ok-clause-only_pattern c =
    rw (← c.in-Ok.ensures.cases.0) (IfOk-weaker c.read_text.result _ _ (λ glob text. only_pattern glob c.in-Ok.text.now text) c.read_text.ensures.ok)

pub returns-in-Ok-clause-only_fault : goal.returns-in-Ok-clause-only_fault
returns-in-Ok-clause-only_fault c =
    rw (← c.in-Ok.ensures.cases.0) (IfErr-weaker c.read_text.result _ _ (λ fault text. only_fault fault c.in-Ok.text.now text) c.read_text.ensures.err)
