use Rattle.std.proofs.Common.{◌≡◌, ◌++◌, ℕ, List, length, Some, None, IsTrue}
use Rattle.bisync_listing.specs.Spelling.{listing_text}
use Rattle.bisync_device.specs.WorkFolder.{Loose, with_held}
use Rattle.bisync_work.proofs.new_listings.write_synced.Given as goal

abbrev pub invariant-pieces : goal.invariant-pieces
invariant-pieces g l = record {
  writing : (g.W.Work.state l.work).writing ≡ Some l.fn.name;
  text : (text : List ℕ) × (text ++ l.writer ≡ listing_text l.header l.listing) × (IsTrue g.W.Work.tells → (g.W.Work.state l.work).folder ≡ with_held l.fn.name (Loose text) (g.W.Work.state l.fn.work).folder);
  faults : (g.W.Work.state l.work).faults ≡ (g.W.Work.state l.fn.work).faults;
  stop : (g.W.Work.state l.fn.work).left ≡ None → (g.W.Work.state l.work).left ≡ None;
}

abbrev pub decreases-pieces : goal.decreases-pieces
decreases-pieces g l = length l.writer
