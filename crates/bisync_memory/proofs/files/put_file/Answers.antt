use Rattle.bisync_memory.proofs.MapLemmas.{map_of-insert}
use Rattle.bisync_memory.proofs.files.put_file.Goals as goal

pub returns-clause-ok : goal.returns-clause-ok
returns-clause-ok c = map_of-insert _ _ _ _ c.in_ok-insert.ensures.updates.0
