use Rattle.bisync_model.proofs.RuleFacts.{copied_is_fresh}
use Rattle.bisync_model.proofs.decisions.a_copied_file_changed.Goals as goal

pub returns-clause-changed : goal.returns-clause-changed
returns-clause-changed c = copied_is_fresh
