use Rattle.bisync_listing.proofs.BadLineLaws.{settled_stays, settled_more}
use Rattle.bisync_listing.proofs.laws.settled_bad_lines_stay.Goals as goal

pub returns : goal.returns
returns c = λ limit n text more small first settled. (settled_stays limit n text more small first settled, settled_more limit n text more settled)
