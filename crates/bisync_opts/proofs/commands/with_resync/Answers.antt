use Rattle.std.proofs.Common.{codes}
use Rattle.bisync_opts.proofs.CommandLemmas.{last}
use Rattle.bisync_opts.specs.Command.{option_rule}
use Rattle.bisync_opts.proofs.commands.with_resync.Goals as goal

pub returns : goal.returns
returns c = last (option_rule (codes "resync-mode")) _ _ _ c.with_option.ensures c.in_ok-command.ensures
