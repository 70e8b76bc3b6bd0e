use Rattle.std.proofs.Common.{chars}
use Rattle.bisync_filter.proofs.PassingLaws.{text_passes-Decides}
use Rattle.bisync_filter.proofs.laws.rules_pass_is_passing.Goals as goal

pub returns : goal.returns
returns c rules path = text_passes-Decides rules (chars path)
