use Rattle.bisync_run.proofs.RefusalLaws.{refusals_same, none_refused}
use Rattle.bisync_run.proofs.refusal_laws.resync_refusals_are_exclusive.Goals as goal

pub returns : goal.returns
returns c = record { refusals = refusals_same; none = none_refused }
