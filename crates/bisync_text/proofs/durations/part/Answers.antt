use Rattle.std.proofs.Common.{sym}
use Rattle.bisync_text.proofs.DurationLaws.{count_small}
use Rattle.bisync_text.proofs.durations.part.Goals as goal

pub returns-in-Some-clause-small : goal.returns-in-Some-clause-small
returns-in-Some-clause-small c = count_small c.args.unit c.args.bytes.now (c.in-Some.found.0, c.in-Some.found.1.now) (sym c.in-Some.ensures)
