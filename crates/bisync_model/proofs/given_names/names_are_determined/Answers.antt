use Rattle.bisync_model.proofs.NamesOfPaths.{names_determined}
use Rattle.bisync_model.proofs.given_names.names_are_determined.Goals as goal

pub returns : goal.returns
returns c = names_determined
