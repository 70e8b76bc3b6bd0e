use Rattle.std.proofs.Common.{◌≡◌, take}
use Rattle.bisync_tree.specs.Rows.{keys}
use Rattle.bisync_observe.specs.Counting.{name_bytes}
use Rattle.bisync_observe.proofs.counts.name_bytes.Given as goal

abbrev pub invariant-loop-row : goal.invariant-loop-row
invariant-loop-row l = l.bytes ≡ name_bytes (keys (take l.row-index l.rows))
