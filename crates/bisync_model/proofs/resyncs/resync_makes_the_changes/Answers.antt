use Rattle.bisync_model.proofs.ResyncCopies.{resync_run}
use Rattle.bisync_model.proofs.CopyChanges.{resync_count}
use Rattle.bisync_model.proofs.resyncs.resync_makes_the_changes.Goals as goal

pub returns : goal.returns
returns c = λ known start paths is side. resync_count (resync_run known start is.listed) side paths
