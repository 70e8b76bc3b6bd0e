use Rattle.std.proofs.Common.{codes}
use Rattle.bisync_opts.proofs.CommandLemmas.{along, last}
use Rattle.bisync_opts.specs.Command.{option_rule}
use Rattle.bisync_opts.proofs.commands.with_conflict.Goals as goal

pub returns : goal.returns
returns c =
    let second = along (option_rule (codes "conflict-loser")) _ _ _ c.in_ok-command-2.ensures c.in_ok-command.ensures in
    last (option_rule (codes "conflict-suffix")) _ _ _ c.with_option-3.ensures second
