use Rattle.bisync_memory.proofs.MapLemmas.{map_of-remove}
use Rattle.bisync_memory.proofs.files.remove_file.Goals as goal

pub returns : goal.returns
returns c = map_of-remove _ _ _ c.remove.ensures.updates.0
