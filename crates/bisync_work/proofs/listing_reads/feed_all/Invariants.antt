use Rattle.std.proofs.Common.{◌≡◌, ◌+◌, ◌++◌, length, true, None, IsTrue}
use Rattle.bisync_device.specs.Work.{KeepsFolder}
use Rattle.bisync_work.proofs.listing_reads.feed_all.Given as goal

abbrev pub invariant-loop-left : goal.invariant-loop-left
invariant-loop-left g l = record {
  limit : l.reader.limit ≡ l.fn.limit;
  clear : l.reader.fault ≡ None;
  count : length l.reader.text + l.left ≡ l.fn.limit;
  opened : (g.W.Work.state l.work).reading.opened ≡ true;
  text : IsTrue g.W.Work.tells → (g.W.Work.state l.fn.work).reading.rest ≡ l.reader.text ++ (g.W.Work.state l.work).reading.rest;
  folder : KeepsFolder g.W.Work.tells (g.W.Work.state l.fn.work) (g.W.Work.state l.work);
  writing : (g.W.Work.state l.work).writing ≡ (g.W.Work.state l.fn.work).writing;
  faults : (g.W.Work.state l.work).faults ≡ (g.W.Work.state l.fn.work).faults;
  stop : (g.W.Work.state l.fn.work).left ≡ None → (g.W.Work.state l.work).left ≡ None;
}

abbrev pub decreases-loop-left : goal.decreases-loop-left
decreases-loop-left g l = l.left
