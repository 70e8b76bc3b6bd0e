use Rattle.bisync_filter.specs.Passing.{rules_pass}
use Rattle.bisync_run.proofs.SeenTrees.{seen_tree}
use Rattle.bisync_run.proofs.looking.look_at.Goals as goal

pub returns-in-Ok-clause-some : goal.returns-in-Ok-clause-some
returns-in-Ok-clause-some g c =
    seen_tree g.R.Remote.tells c.args.compare.now (rules_pass c.args.rules.now) (g.R.Remote.state c.args.remote.now).tree (g.R.Remote.state c.attach.new.self).tree c.in-Ok.seen.names c.in-Ok.seen.listing
    (λ t. (c.attach.ensures.tree t).tree) c.in-Ok.ensures.seen c.in-Ok.ensures.some
