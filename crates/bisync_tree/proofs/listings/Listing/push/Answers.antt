use Rattle.bisync_tree.specs.Rows.{keys, IsAboveLast}
use Rattle.bisync_tree.proofs.SearchLemmas.{rising_rows_push}
use Rattle.bisync_tree.proofs.listings.Listing.push.Goals as goal

pub invariant_of-self-2 : goal.invariant_of-self-2
invariant_of-self-2 c =
    let above : IsAboveLast (keys c.self.inside.rows.items) c.args.path = rw c.self.view_is c.requires.above in
    rw c.in_ok-push.ensures.items (rising_rows_push _ _ _ c.self.invariant above)
