use Rattle.std.proofs.Common.{codes}
use Rattle.bisync_opts.proofs.CommandLemmas.{along, last}
use Rattle.bisync_opts.specs.Command.{option_rule}
use Rattle.bisync_opts.proofs.commands.with_places.Goals as goal

pub returns : goal.returns
returns c =
    let second = along (option_rule (codes "workdir")) _ _ _ c.in_ok-command-2.ensures c.in_ok-command.ensures in
    let third = along (option_rule (codes "backup-dir1")) _ _ _ c.in_ok-command-3.ensures second in
    last (option_rule (codes "backup-dir2")) _ _ _ c.with_option-4.ensures third
