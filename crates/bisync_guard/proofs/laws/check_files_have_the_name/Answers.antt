use Rattle.bisync_guard.proofs.LastNames.{named, has_name}
use Rattle.bisync_guard.proofs.laws.check_files_have_the_name.Goals as goal

pub returns : goal.returns
returns c = λ name p. (named name p, has_name name p)
