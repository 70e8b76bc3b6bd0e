use Rattle.std.proofs.Common.{◌-◌}
use Rattle.bisync_transfer.proofs.Streaming.{Streaming}
use Rattle.bisync_transfer.proofs.copies.stream.Given as goal

abbrev pub invariant-pieces : goal.invariant-pieces
invariant-pieces g l = Streaming g.A.Remote.tells g.B.Remote.tells l.listed (g.A.Remote.state l.initial.from) (g.B.Remote.state l.initial.to) (g.A.Remote.state l.from) (g.B.Remote.state l.to) l.tally

abbrev pub decreases-pieces : goal.decreases-pieces
decreases-pieces g l = l.listed.size - l.tally.size
