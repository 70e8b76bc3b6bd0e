use Rattle.std.proofs.Common.{◌≡◌, ℕ, ◌<◌, true}
use Rattle.bisync_tree.specs.Rows.{is_among}
use Rattle.bisync_conflict.specs.Naming.{candidate_of}
use Rattle.bisync_conflict.proofs.names.first_free.Given as goal

abbrev pub invariant-loop-place : goal.invariant-loop-place
invariant-loop-place l = (k : ℕ) → k < l.place → is_among (candidate_of l.conflict l.side l.path k) l.taken ≡ true
