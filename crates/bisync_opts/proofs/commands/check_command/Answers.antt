use Rattle.bisync_opts.proofs.CommandLemmas.{all_along, all_last}
use Rattle.bisync_opts.specs.Command.{check_app, path_rules, compare_rules}
use Rattle.bisync_opts.proofs.commands.check_command.Goals as goal

pub returns : goal.returns
unfolding check_app
returns c =
    let paths = all_along path_rules _ _ _ c.in_ok-command.ensures c.plain_command.ensures in
    all_last compare_rules _ _ _ c.with_compare.ensures paths
