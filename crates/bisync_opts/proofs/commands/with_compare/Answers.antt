use Rattle.std.proofs.Common.{codes}
use Rattle.bisync_opts.proofs.CommandLemmas.{last}
use Rattle.bisync_opts.specs.Command.{option_rule}
use Rattle.bisync_opts.proofs.commands.with_compare.Goals as goal

pub returns : goal.returns
returns c = last (option_rule (codes "time-window")) _ _ _ c.with_option-2.ensures c.in_ok-command.ensures
