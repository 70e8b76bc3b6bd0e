use Rattle.bisync_transfer.proofs.FoundFiles.{found_in}
use Rattle.bisync_transfer.proofs.laws.a_listed_file_is_found.Goals as goal

pub returns : goal.returns
returns c = found_in
