use Rattle.std.proofs.Common.{◌≡◌, ◌≤◌, ◌-◌, ◌++◌, length, take, true, IsTrue, Some, None}
use Rattle.bisync_device.specs.WorkFolder.{at, bytes_of}
use Rattle.bisync_work.proofs.fronts.read_front.Given as goal

abbrev pub invariant-loop-count : goal.invariant-loop-count
invariant-loop-count g l = record {
  within : l.count ≤ length l.buffer;
  is_open : (g.W.Work.state l.work).reading.opened ≡ true;
  same : IsTrue g.W.Work.tells → (g.W.Work.state l.work).folder ≡ (g.W.Work.state l.fn.work).folder;
  text : IsTrue g.W.Work.tells → bytes_of (at (g.W.Work.state l.fn.work).folder l.fn.name) ≡ Some (take l.count l.buffer ++ (g.W.Work.state l.work).reading.rest);
  left : (g.W.Work.state l.fn.work).left ≡ None → (g.W.Work.state l.work).left ≡ None;
  faults : (g.W.Work.state l.work).faults ≡ (g.W.Work.state l.fn.work).faults;
}

abbrev pub decreases-loop-count : goal.decreases-loop-count
decreases-loop-count g l = length l.initial.buffer - l.count
