use Rattle.bisync_tree.proofs.LookLemmas.{same_rows}
use Rattle.bisync_tree.proofs.laws.look_ups_decide_a_listing.Goals as goal

pub returns : goal.returns
returns c = same_rows
