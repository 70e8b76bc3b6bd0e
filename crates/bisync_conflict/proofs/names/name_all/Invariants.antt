use Rattle.std.proofs.Common.{take}
use Rattle.bisync_model.specs.Known.{Known}
use Rattle.bisync_conflict.specs.Naming.{view_names, IsSettledBy}
use Rattle.bisync_conflict.proofs.NamesSoFar.{IsSoFar}
use Rattle.bisync_conflict.proofs.names.name_all.Given as goal

abbrev pub invariant-loop-loser : goal.invariant-loop-loser
invariant-loop-loser l = (known : Known) → IsSettledBy known l.conflict (view_names l.view) → IsSoFar known (take l.loser-index l.losers) l.taken l.given.items
