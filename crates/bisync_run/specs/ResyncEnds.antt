-- Which ends a resync has, whatever its devices tell of what they hold.
use Rattle.std.specs.Prelude.{◌≡◌, ℕ, List, Option, IsSome, true, false, ⊤}
use Rattle.bisync_opts.specs.declared.options.Opts.{Opts}
use Rattle.bisync_report.specs.declared.ends.End.{End}
use Rattle.bisync_report.specs.declared.ends.End.TheVariants.{Resynced, DryRun, WorkFault, NoFilters, BadRule, Locked, RemoteFault, BadPath, TooMany, ListingTooLong, Moved, SinkFault, LockLeft, OutOfMemory}

-- the good end of a dry run and of no other, refusals of a filters file where one is asked for, and the other refusals
abbrev pub IsResyncEnd : Opts → End → Type 0
IsResyncEnd opts (Resynced one two) = opts.dry_run ≡ false
IsResyncEnd opts DryRun = opts.dry_run ≡ true
IsResyncEnd opts NoFilters = IsSome opts.filters
IsResyncEnd opts (BadRule line) = IsSome opts.filters
IsResyncEnd opts WorkFault = ⊤
IsResyncEnd opts (Locked until) = ⊤
IsResyncEnd opts (RemoteFault side) = ⊤
IsResyncEnd opts (BadPath side text) = ⊤
IsResyncEnd opts (TooMany side files bytes) = ⊤
IsResyncEnd opts (ListingTooLong side bytes) = ⊤
IsResyncEnd opts (Moved side path listed read) = ⊤
IsResyncEnd opts (SinkFault done) = ⊤
IsResyncEnd opts LockLeft = ⊤
IsResyncEnd opts OutOfMemory = ⊤
IsResyncEnd opts end = ⊥

-- # Inside this crate

-- the ends of a run without the lock
abbrev pub IsUnlockedEnd : Option (List ℕ) → End → Type 0
IsUnlockedEnd name WorkFault = ⊤
IsUnlockedEnd name OutOfMemory = ⊤
IsUnlockedEnd name NoFilters = IsSome name
IsUnlockedEnd name (BadRule line) = IsSome name
IsUnlockedEnd name (Locked until) = ⊤
IsUnlockedEnd name end = ⊥

-- the ends of a resync that has no plan
abbrev pub IsUnplannedEnd : End → Type 0
IsUnplannedEnd WorkFault = ⊤
IsUnplannedEnd (RemoteFault side) = ⊤
IsUnplannedEnd (BadPath side text) = ⊤
IsUnplannedEnd (TooMany side files bytes) = ⊤
IsUnplannedEnd (ListingTooLong side bytes) = ⊤
IsUnplannedEnd (Moved side path listed read) = ⊤
IsUnplannedEnd OutOfMemory = ⊤
IsUnplannedEnd end = ⊥
