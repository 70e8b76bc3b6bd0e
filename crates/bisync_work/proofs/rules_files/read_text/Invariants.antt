use Rattle.std.proofs.Common.{◌≡◌, ◌≤◌, ◌+◌, ◌-◌, ◌++◌, length, true, IsTrue, Some, None}
use Rattle.bisync_device.specs.WorkFolder.{bytes_of}
use Rattle.bisync_filter.specs.Spelling.{most_bytes}
use Rattle.bisync_work.proofs.rules_files.read_text.Given as goal

abbrev pub invariant-loop-piece : goal.invariant-loop-piece
invariant-loop-piece g l = record {
  within : length l.text.items ≤ most_bytes + 1;
  is_open : (g.W.Work.state l.work).reading.opened ≡ true;
  same : IsTrue g.W.Work.tells → (g.W.Work.state l.work).folder ≡ (g.W.Work.state l.fn.work).folder;
  there : IsTrue g.W.Work.tells → bytes_of (g.W.Work.state l.fn.work).folder.filters ≡ Some (l.text.items ++ (g.W.Work.state l.work).reading.rest);
  left : (g.W.Work.state l.fn.work).left ≡ None → (g.W.Work.state l.work).left ≡ None;
  faults : (g.W.Work.state l.work).faults ≡ (g.W.Work.state l.fn.work).faults;
}

abbrev pub decreases-loop-piece : goal.decreases-loop-piece
decreases-loop-piece g l = most_bytes + 1 - length l.text.items
