use Rattle.std.proofs.Common.{arith, ◌≤◌, ◌-◌, length}
use Rattle.bisync_listing.specs.Writing.{to_come}
use Rattle.bisync_listing.proofs.PendingLaws.{given_more, filled_within}
use Rattle.bisync_listing.proofs.pending.Pending.fill.Goals as goal

pub loop-filled-preserved : goal.loop-filled-preserved
loop-filled-preserved c =
    let inv = c.loop-filled.invariant in
    let few : c.give-count.result ≤ length c.give-count.new.buffer = omega (arith, c.give-count.ensures.within, c.give-count.auto.buffer) in
    record {
      writing = c.give-count.ensures.writing;
      some = omega (arith, inv.some);
      within = filled_within c.loop-filled.filled c.give-count.result (length c.loop-filled.buffer - c.loop-filled.filled) c.loop-filled.buffer c.give-count.new.buffer inv.within few;
      given = given_more (to_come c.args.self.now) (to_come c.loop-filled.self) (to_come c.give-count.new.self) c.loop-filled.buffer c.give-count.new.buffer c.loop-filled.filled c.give-count.result (length c.loop-filled.buffer - c.loop-filled.filled) inv.within few inv.given c.give-count.ensures.given;
    }
