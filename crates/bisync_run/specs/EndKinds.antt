-- Kinds of ends.
use Rattle.std.specs.Prelude.{Bool, true, false, ◌&&◌, ◌||◌, not, Result, Ok, Err}
use Rattle.bisync_report.specs.Status.{falls_of}
use Rattle.bisync_report.specs.declared.ends.End.{End}
use Rattle.bisync_report.specs.declared.ends.End.TheVariants.{Done, Resynced, DryRun, InSync, Demo, Usage, WorkFault, NoFilters, BadRule, Locked, FiltersChanged, BadListing, NeedResync, ListingsDiffer, EmptyPrior, RemoteFault, BadPath, TooMany, CheckAccess, EmptyCurrent, TooManyDeletes, AllChanged, NameTooLong, ListingTooLong, OutOfSync, Moved, SinkFault, LockLeft, FoldersLeft, KeepFault, Checked, NotBuilt, OutOfMemory}

-- the good ends of a run
abbrev pub is_good : End → Bool
is_good (Done one two) = true
is_good (Resynced one two) = true
is_good DryRun = true
is_good InSync = true
is_good Demo = false
is_good (Usage kind) = false
is_good WorkFault = false
is_good NoFilters = false
is_good (BadRule line) = false
is_good (Locked until) = false
is_good (FiltersChanged now stored) = false
is_good (BadListing name line) = false
is_good (NeedResync need) = false
is_good (ListingsDiffer path one two) = false
is_good (EmptyPrior side) = false
is_good (RemoteFault side) = false
is_good (BadPath side text) = false
is_good (TooMany side files bytes) = false
is_good (CheckAccess side path) = false
is_good (EmptyCurrent side) = false
is_good (TooManyDeletes side gone all) = false
is_good (AllChanged side all) = false
is_good (NameTooLong side path) = false
is_good (ListingTooLong side bytes) = false
is_good (OutOfSync path one two) = false
is_good (Moved side path listed read) = false
is_good (SinkFault done) = false
is_good LockLeft = false
is_good (FoldersLeft cause) = false
is_good (KeepFault side) = false
is_good (Checked differ) = false
is_good NotBuilt = false
is_good OutOfMemory = false

-- the ends after a good end: they leave what it left
abbrev pub is_after_good : End → Bool
is_after_good LockLeft = true
is_after_good (SinkFault done) = done
is_after_good end = is_good end

-- the ends at which the lock was removed, whatever call failed before
abbrev pub has_freed : End → Bool
has_freed (SinkFault done) = done
has_freed end = is_good end

-- the ends at which a new base may stand: a good end, those after one, and a fault of the work folder
abbrev pub may_have_switched : End → Bool
may_have_switched WorkFault = true
may_have_switched end = is_after_good end

-- whether it may after a course that ended so: Ok is a good end
abbrev pub may_have_switched_after : {T : Type 0} → Result T End → Bool
may_have_switched_after (Ok good) = true
may_have_switched_after (Err end) = may_have_switched end

-- the ends that may come after a change of a tree
abbrev pub may_have_changed : End → Bool
may_have_changed (RemoteFault side) = true
may_have_changed (Moved side path listed read) = true
may_have_changed WorkFault = true
may_have_changed LockLeft = true
may_have_changed (SinkFault done) = done
may_have_changed (Done one two) = true
may_have_changed (Resynced one two) = true
may_have_changed end = false

-- whether the listings fall at this end: in no dry run, and not with `--resilient`
abbrev pub lets_fall : Bool → Bool → End → Bool
lets_fall resilient dry_run end = falls_of end && not resilient && not dry_run

-- whether they fall at the close of a course that ended so
abbrev pub falls_at_close : Bool → Bool → Result End End → Bool
falls_at_close resilient dry_run (Ok end) = false
falls_at_close resilient dry_run (Err end) = lets_fall resilient dry_run end

-- the ends at which the lines of the plan may have been told
abbrev pub may_tell_plan : End → Bool
may_tell_plan end = may_have_changed end || is_good end

-- the refusals of a run that didn't get the lock
abbrev pub is_unlocked : End → Bool
is_unlocked NoFilters = true
is_unlocked (BadRule line) = true
is_unlocked (Locked until) = true
is_unlocked end = false

-- the ends of a run that didn't get the lock
abbrev pub is_before_lock : End → Bool
is_before_lock WorkFault = true
is_before_lock OutOfMemory = true
is_before_lock end = is_unlocked end

-- the output failed
abbrev pub is_sink_fault : End → Bool
is_sink_fault (SinkFault done) = true
is_sink_fault end = false
