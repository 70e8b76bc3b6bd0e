use Rattle.bisync_run.proofs.OwnNames.{own_names_are_good}
use Rattle.bisync_run.proofs.name_laws.good_names_stay_good.Goals as goal

pub returns : goal.returns
returns c = record { stay = own_names_are_good }
