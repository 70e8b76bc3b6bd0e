use Rattle.bisync_model.proofs.RuleFacts.{deleted_is_quiet}
use Rattle.bisync_model.proofs.decisions.a_deleted_file_is_unchanged.Goals as goal

pub returns-clause-unchanged : goal.returns-clause-unchanged
returns-clause-unchanged c = deleted_is_quiet
