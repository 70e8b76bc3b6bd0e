use Rattle.std.proofs.Common.{◌-◌}
use Rattle.bisync_observe.proofs.StreamLemmas.{Streaming}
use Rattle.bisync_observe.proofs.file_reading.read_opened.Given as goal

abbrev pub invariant-pieces : goal.invariant-pieces
invariant-pieces g l = Streaming g.R.Remote.tells l.listed (g.R.Remote.state l.initial.remote) (g.R.Remote.state l.remote) l.tally

abbrev pub decreases-pieces : goal.decreases-pieces
decreases-pieces g l = l.listed.size - l.tally.size
