use Rattle.std.proofs.Common.{◌+◌, [], ◌∷◌, ◌++◌, drop, ◌∙◌, ap}
use Rattle.bisync_tree.specs.Rows.{keys}
use Rattle.bisync_plan.proofs.ListedParts.{names_left}
use Rattle.bisync_plan.proofs.listed_views.names.Goals as goal

pub loop-i-preserved : goal.loop-i-preserved
loop-i-preserved c =
    ap (λ ns. ns ++ drop (c.loop-i.i + 1) (keys c.args.listing.now)) (c.in_ok-push.ensures.ok ∙ ap (λ q. c.loop-i.names ++ q ∷ []) c.in_ok-copy.ensures)
    ∙ names_left c.args.listing.now c.loop-i.names c.loop-i.i c.path_at-path.result.now c.path_at-path.ensures c.loop-i.invariant
