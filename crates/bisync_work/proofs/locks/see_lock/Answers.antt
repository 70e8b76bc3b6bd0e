use Rattle.std.proofs.Common.{◌≡◌, ◌<◌, length, take, arith, rules}
use Rattle.bisync_work.proofs.LockLaws.{says_whole}
use Rattle.bisync_work.proofs.locks.see_lock.Goals as goal

pub returns-in-Some-clause-says : goal.returns-in-Some-clause-says
returns-in-Some-clause-says g c t there =
    let front = rw c.in-Some.is at (c.in_ok-count.ensures.front t) in
    let long : length c.read_front.new.buffer ≡ 129 = search rules in
    let room : 58 < length c.read_front.new.buffer = omega (arith, long) in
    (front.0, front.1, says_whole (length c.read_front.new.buffer) c.read_until.result (take c.in-Some.count c.read_front.new.buffer) front.0 room front.2 c.read_until.ensures)
