use Rattle.bisync_model.proofs.ResyncCopies.{resync_run, resync_between}
use Rattle.bisync_model.proofs.resyncs.each_resync_prefix_is_between.Goals as goal

pub returns : goal.returns
returns c = λ known start paths is. resync_between (resync_run known start is.listed) paths (record { rising = is.through.rising; covering = is.through.covering })
