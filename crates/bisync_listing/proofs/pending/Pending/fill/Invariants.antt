use Rattle.std.proofs.Common.{◌≡◌, ◌-◌, ◌<◌, ◌≤◌, ◌++◌, length, take}
use Rattle.bisync_listing.specs.Writing.{IsWriting, to_come}
use Rattle.bisync_listing.proofs.pending.Pending.fill.Given as goal

abbrev pub invariant-loop-filled : goal.invariant-loop-filled
invariant-loop-filled l = record { writing : IsWriting l.self; some : 0 < l.filled; within : l.filled ≤ length l.buffer; given : to_come l.fn.self ≡ take l.filled l.buffer ++ to_come l.self }

abbrev pub decreases-loop-filled : goal.decreases-loop-filled
decreases-loop-filled l = length l.initial.buffer - l.filled
