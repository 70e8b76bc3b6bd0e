use Rattle.bisync_model.proofs.ResyncCopies.{resync_run}
use Rattle.bisync_model.proofs.CopiesFindFiles.{resync_finds}
use Rattle.bisync_model.proofs.resyncs.each_copy_finds_its_file.Goals as goal

pub returns : goal.returns
returns c = λ known start paths is. resync_finds (resync_run known start is.listed) paths (record { rising = is.through.rising; covering = is.through.covering })
