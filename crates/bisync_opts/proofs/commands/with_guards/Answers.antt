use Rattle.std.proofs.Common.{codes}
use Rattle.bisync_opts.proofs.CommandLemmas.{along, last}
use Rattle.bisync_opts.specs.Command.{flag_rule, option_rule}
use Rattle.bisync_opts.proofs.commands.with_guards.Goals as goal

pub returns : goal.returns
returns c =
    let second = along (flag_rule (codes "force")) _ _ _ c.in_ok-command-2.ensures c.in_ok-command.ensures in
    let third = along (flag_rule (codes "check-access")) _ _ _ c.in_ok-command-3.ensures second in
    let fourth = along (option_rule (codes "check-filename")) _ _ _ c.in_ok-command-4.ensures third in
    last (option_rule (codes "check-sync")) _ _ _ c.with_option-3.ensures fourth
