use Rattle.bisync_tree.specs.Rows.{IsAboveLast}
use Rattle.bisync_tree.proofs.SearchLemmas.{rising_push}
use Rattle.bisync_tree.proofs.listed_names.Names.push.Goals as goal

pub invariant_of-self-2 : goal.invariant_of-self-2
invariant_of-self-2 c =
    let above : IsAboveLast c.self.inside.paths.items c.args.path = rw c.self.view_is c.requires.above in
    rw c.in_ok-push.ensures.items (rising_push _ _ c.self.invariant above)
