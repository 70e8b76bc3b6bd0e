use Rattle.bisync_model.proofs.NamesTooLong.{no_names}
use Rattle.bisync_model.proofs.given_names.too_long_has_no_names.Goals as goal

pub returns : goal.returns
returns c = no_names
