use Rattle.bisync_text.proofs.LastPart.{IsLastPart-unique}
use Rattle.bisync_text.proofs.path.last_parts_are_unique.Goals as goal

pub returns : goal.returns
returns c = IsLastPart-unique
