use Rattle.std.proofs.Common.{codes}
use Rattle.bisync_opts.proofs.CommandLemmas.{along, last}
use Rattle.bisync_opts.specs.Command.{flag_rule, short_flag_rule, option_rule}
use Rattle.bisync_opts.proofs.commands.with_course.Goals as goal

pub returns : goal.returns
returns c =
    let second = along (flag_rule (codes "recover")) _ _ _ c.in_ok-command-2.ensures c.in_ok-command.ensures in
    let third = along (option_rule (codes "max-lock")) _ _ _ c.in_ok-command-3.ensures second in
    let fourth = along (short_flag_rule (codes "dry-run") 110) _ _ _ c.in_ok-command-4.ensures third in
    let fifth = along (flag_rule (codes "create-empty-src-dirs")) _ _ _ c.in_ok-command-5.ensures fourth in
    let sixth = along (flag_rule (codes "remove-empty-dirs")) _ _ _ c.in_ok-command-6.ensures fifth in
    last (flag_rule (codes "track-renames")) _ _ _ c.with_flag-5.ensures sixth
