use Rattle.std.proofs.Common.{sym, ◌∙◌}
use Rattle.bisync_memory.proofs.MapLemmas.{get-map_of}
use Rattle.bisync_memory.proofs.files.file.Goals as goal

pub returns : goal.returns
returns c = c.get.ensures.value ∙ sym (get-map_of _ _)
