use Rattle.std.proofs.Common.{◌≡◌, ℕ, ◌<◌, ◌≤◌, true}
use Rattle.bisync_work.specs.Standing.{has_stamp}
use Rattle.bisync_work.proofs.stamps.Marks.new_stamp.Given as goal

abbrev pub invariant-loop-stamp : goal.invariant-loop-stamp
invariant-loop-stamp l = (m : ℕ) → 1 ≤ m → m < l.stamp → has_stamp m l.self ≡ true
