use Rattle.bisync_tree.specs.Window.{window_number}
use Rattle.bisync_tree.proofs.WindowLemmas.{quotient_is}
use Rattle.bisync_tree.proofs.windows.Window.number.Goals as goal

pub returns : goal.returns
unfolding window_number
returns c = quotient_is c.args.self c.args.time c.ns.result c.ns.ensures c.ranges.time
