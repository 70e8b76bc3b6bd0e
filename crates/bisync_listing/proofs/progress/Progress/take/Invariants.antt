use Rattle.std.proofs.Common.{◌≡◌, ◌++◌, length, None}
use Rattle.bisync_listing.specs.Progress.{IsReading, text_so_far}
use Rattle.bisync_listing.proofs.progress.Progress.take.Given as goal

abbrev pub invariant-loop-at : goal.invariant-loop-at
invariant-loop-at l = record { sound : IsReading l.self; clear : l.self.fault ≡ None; limit : l.self.limit ≡ l.fn.self.limit; so_far : text_so_far l.self ++ l.rest ≡ text_so_far l.fn.self ++ l.piece }

abbrev pub decreases-loop-at : goal.decreases-loop-at
decreases-loop-at l = length l.rest
