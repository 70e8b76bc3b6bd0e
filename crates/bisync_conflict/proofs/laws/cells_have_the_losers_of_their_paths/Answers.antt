use Rattle.bisync_conflict.proofs.CellLosers.{losers_seen}
use Rattle.bisync_conflict.proofs.laws.cells_have_the_losers_of_their_paths.Goals as goal

pub returns-clause-walk : goal.returns-clause-walk
returns-clause-walk c = losers_seen
