-- Exit statuses, and which ends make the base fall. The table is this project's own.
use Rattle.std.specs.Prelude.{ℕ, zero, suc, Bool, true, false}
use Rattle.bisync_report.specs.declared.ends.End.{End}
use Rattle.bisync_report.specs.declared.ends.End.TheVariants.{Done, Resynced, DryRun, InSync, Demo, Usage, WorkFault, NoFilters, BadRule, Locked, FiltersChanged, BadListing, NeedResync, ListingsDiffer, EmptyPrior, RemoteFault, BadPath, TooMany, CheckAccess, EmptyCurrent, TooManyDeletes, AllChanged, NameTooLong, ListingTooLong, OutOfSync, Moved, SinkFault, LockLeft, FoldersLeft, KeepFault, Checked, NotBuilt, OutOfMemory}

-- the status of an end that falls, where the run isn't resilient
abbrev pub unless_resilient : Bool → ℕ
unless_resilient true = 1
unless_resilient false = 7

-- the status of a check with that many differences
abbrev pub check_status : ℕ → ℕ
check_status zero = 0
check_status (suc n) = 1

abbrev pub status_of : End → Bool → ℕ
status_of (Done one two) resilient = 0
status_of (Resynced one two) resilient = 0
status_of DryRun resilient = 0
status_of InSync resilient = 0
status_of Demo resilient = 0
status_of (Usage kind) resilient = 2
status_of WorkFault resilient = unless_resilient resilient
status_of NoFilters resilient = 2
status_of (BadRule line) resilient = 2
status_of (Locked until) resilient = 1
status_of (FiltersChanged now stored) resilient = unless_resilient resilient
status_of (BadListing name line) resilient = 7
status_of (NeedResync need) resilient = 7
status_of (ListingsDiffer path one two) resilient = 1
status_of (EmptyPrior side) resilient = unless_resilient resilient
status_of (RemoteFault side) resilient = unless_resilient resilient
status_of (BadPath side text) resilient = unless_resilient resilient
status_of (TooMany side files bytes) resilient = unless_resilient resilient
status_of (CheckAccess side path) resilient = unless_resilient resilient
status_of (EmptyCurrent side) resilient = unless_resilient resilient
status_of (TooManyDeletes side gone all) resilient = 1
status_of (AllChanged side all) resilient = 1
status_of (NameTooLong side path) resilient = 1
status_of (ListingTooLong side bytes) resilient = 1
status_of (OutOfSync path one two) resilient = unless_resilient resilient
status_of (Moved side path listed read) resilient = unless_resilient resilient
status_of (SinkFault done) resilient = 1
status_of LockLeft resilient = 1
status_of (FoldersLeft cause) resilient = 1
status_of (KeepFault side) resilient = 1
status_of (Checked differ) resilient = check_status differ
status_of NotBuilt resilient = 2
status_of OutOfMemory resilient = 1

-- whether the base falls
abbrev pub falls_of : End → Bool
falls_of (Done one two) = false
falls_of (Resynced one two) = false
falls_of DryRun = false
falls_of InSync = false
falls_of Demo = false
falls_of (Usage kind) = false
falls_of WorkFault = true
falls_of NoFilters = false
falls_of (BadRule line) = false
falls_of (Locked until) = false
falls_of (FiltersChanged now stored) = true
falls_of (BadListing name line) = false
falls_of (NeedResync need) = false
falls_of (ListingsDiffer path one two) = false
falls_of (EmptyPrior side) = true
falls_of (RemoteFault side) = true
falls_of (BadPath side text) = true
falls_of (TooMany side files bytes) = true
falls_of (CheckAccess side path) = true
falls_of (EmptyCurrent side) = true
falls_of (TooManyDeletes side gone all) = false
falls_of (AllChanged side all) = false
falls_of (NameTooLong side path) = false
falls_of (ListingTooLong side bytes) = false
falls_of (OutOfSync path one two) = true
falls_of (Moved side path listed read) = true
falls_of (SinkFault done) = false
falls_of LockLeft = false
falls_of (FoldersLeft cause) = false
falls_of (KeepFault side) = false
falls_of (Checked differ) = false
falls_of NotBuilt = false
falls_of OutOfMemory = false
