use Rattle.std.proofs.Common.{Bool, Err, refl, ap}
use Rattle.bisync_work.specs.WorkCalls.{is_device_fault}
use Rattle.bisync_work.specs.declared.found.Found.{Found}
use Rattle.bisync_work.specs.declared.found.WorkFault.{WorkFault}
use Rattle.bisync_run.proofs.CauseLaws.{follows, fails, stopped, work_failed, work_stays}
use Rattle.bisync_report.specs.declared.ends.End.TheVariants.{OutOfMemory}
use Rattle.bisync_run.proofs.starting.start.Goals as goal

abbrev device_fault : WorkFault → Bool
device_fault fault = is_device_fault {A = Found} (Err fault)

pub returns-in-Err-clause-refusal : goal.returns-in-Err-clause-refusal
returns-in-Err-clause-refusal g c work = c.in-Err.ensures.refusal work c.args.opts.now c.args.limits.now

pub returns-in-Err-clause-kind : goal.returns-in-Err-clause-kind
returns-in-Err-clause-kind g c = c.in-Err.ensures.kind c.args.opts.now

pub returns-in-Err-clause-causes : goal.returns-in-Err-clause-causes
returns-in-Err-clause-causes g c one two sink = fails _ _ c.in-Err.end (c.in-Err.ensures.causes one two sink)

pub returns-in-Ok-find_base-clause-kind : goal.returns-in-Ok-find_base-clause-kind
returns-in-Ok-find_base-clause-kind g c = c.start_from.ensures.kind c.args.digest.now

pub returns-in-Ok-find_base-clause-causes : goal.returns-in-Ok-find_base-clause-causes
returns-in-Ok-find_base-clause-causes g c one two sink =
    follows _ _ _ _ _ (c.in-Ok.ensures.causes one two sink) (work_stays one two sink _ _ c.start_from.result _ refl c.in-Ok-find_base.ensures.calls.cause (c.start_from.ensures.causes _))

pub returns-in-Err-Failed-clause-causes : goal.returns-in-Err-Failed-clause-causes
returns-in-Err-Failed-clause-causes g c one two sink =
    follows _ _ _ _ _ (c.in-Ok.ensures.causes one two sink) (work_failed one two sink _ _ _ (ap device_fault c.in-Err-Failed.field-0-is) c.in-Err-Failed.ensures.calls.cause)

pub returns-in-Err-OutOfMemory-clause-causes : goal.returns-in-Err-OutOfMemory-clause-causes
returns-in-Err-OutOfMemory-clause-causes g c one two sink =
    follows _ _ _ _ _ (c.in-Ok.ensures.causes one two sink) (work_stays one two sink _ _ _ _ (ap device_fault c.in-Err-OutOfMemory.field-0-is) c.in-Err-OutOfMemory.ensures.calls.cause (stopped _ OutOfMemory tt))
