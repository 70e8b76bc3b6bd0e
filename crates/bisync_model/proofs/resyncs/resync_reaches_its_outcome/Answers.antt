use Rattle.bisync_model.proofs.ResyncCopies.{resync_run, resync_reaches}
use Rattle.bisync_model.proofs.resyncs.resync_reaches_its_outcome.Goals as goal

pub returns : goal.returns
returns c = λ known start paths is. resync_reaches (resync_run known start is.listed) paths (record { rising = is.through.rising; covering = is.through.covering })
