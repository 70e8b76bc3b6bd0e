use Rattle.bisync_opts.specs.Options.{options_of}
use Rattle.bisync_cli.specs.Tasks.{task_of}
use Rattle.bisync_cli.proofs.Steps.{reads_on, refuses_on}
use Rattle.bisync_cli.proofs.tasks.read_run.Goals as goal

pub returns-in-Ok-clause-read : goal.returns-in-Ok-clause-read
returns-in-Ok-clause-read c = reads_on (options_of c.args.words.now) task_of c.in-Ok.opts _ c.in-Ok.ensures.read.ok c.task_for.ensures.task

pub returns-in-Err-clause-read : goal.returns-in-Err-clause-read
returns-in-Err-clause-read c = refuses_on (options_of c.args.words.now) task_of c.in-Err.fault c.in-Err.ensures.read.refused
