-- Which ends an ordinary run has, whatever its devices tell of what they hold.
use Rattle.std.specs.Prelude.{◌≡◌, ◌≢◌, ◌<◌, ◌≤◌, ◌*◌, ℕ, List, Option, Some, IsSome, true, false, ⊤}
use Rattle.bisync_tree.specs.Same.{same}
use Rattle.bisync_tree.specs.declared.entries.Compare.{Compare}
use Rattle.bisync_listing.specs.ListingText.{AreFields}
use Rattle.bisync_opts.specs.declared.options.CheckSync.TheVariants.{Always, Only}
use Rattle.bisync_opts.specs.declared.options.Opts.{Opts}
use Rattle.bisync_report.specs.declared.ends.End.{End}
use Rattle.bisync_report.specs.declared.ends.End.TheVariants.{Done, DryRun, InSync, WorkFault, NoFilters, BadRule, Locked, FiltersChanged, BadListing, NeedResync, ListingsDiffer, EmptyPrior, RemoteFault, BadPath, TooMany, CheckAccess, EmptyCurrent, TooManyDeletes, AllChanged, NameTooLong, ListingTooLong, OutOfSync, Moved, SinkFault, LockLeft, OutOfMemory}
use Rattle.bisync_report.specs.declared.ends.Need.TheVariants.{NoBase, NotRecovering, FieldsChanged}
use Rattle.bisync_run.specs.Starts.{fields_of}

-- the good end that the options name, and the refusals that they allow, with what each refusal carries
abbrev pub IsOrdinaryEnd : Opts → Compare → End → Type 0
IsOrdinaryEnd opts compare (Done one two) = (opts.dry_run ≡ false) × (opts.check_sync ≢ Only)
IsOrdinaryEnd opts compare DryRun = (opts.dry_run ≡ true) × (opts.check_sync ≢ Only)
IsOrdinaryEnd opts compare InSync = opts.check_sync ≡ Only
IsOrdinaryEnd opts compare NoFilters = IsSome opts.filters
IsOrdinaryEnd opts compare (BadRule line) = IsSome opts.filters
IsOrdinaryEnd opts compare WorkFault = ⊤
IsOrdinaryEnd opts compare (Locked until) = ⊤
IsOrdinaryEnd opts compare (FiltersChanged now stored) = IsSome opts.filters × (stored ≢ Some now)
IsOrdinaryEnd opts compare (BadListing name line) = ⊤
IsOrdinaryEnd opts compare (NeedResync NoBase) = ⊤
IsOrdinaryEnd opts compare (NeedResync NotRecovering) = opts.recover ≡ false
IsOrdinaryEnd opts compare (NeedResync (FieldsChanged stored)) = AreFields stored × (stored ≢ fields_of opts.compare)
IsOrdinaryEnd opts compare (ListingsDiffer p one two) = (opts.check_sync ≡ Only) × (same compare one two ≡ false)
IsOrdinaryEnd opts compare (EmptyPrior side) = opts.check_sync ≢ Only
IsOrdinaryEnd opts compare (RemoteFault side) = opts.check_sync ≢ Only
IsOrdinaryEnd opts compare (BadPath side text) = opts.check_sync ≢ Only
IsOrdinaryEnd opts compare (TooMany side files bytes) = opts.check_sync ≢ Only
IsOrdinaryEnd opts compare (CheckAccess side path) = (opts.check_sync ≢ Only) × IsSome opts.guard.check
IsOrdinaryEnd opts compare (EmptyCurrent side) = opts.check_sync ≢ Only
IsOrdinaryEnd opts compare (TooManyDeletes side gone all) = (opts.check_sync ≢ Only) × (opts.guard.force ≡ false) × (opts.guard.max_delete * all < gone * 100)
IsOrdinaryEnd opts compare (AllChanged side all) = (opts.check_sync ≢ Only) × (opts.guard.force ≡ false) × (1 ≤ all)
IsOrdinaryEnd opts compare (NameTooLong side path) = opts.check_sync ≢ Only
IsOrdinaryEnd opts compare (ListingTooLong side bytes) = opts.check_sync ≢ Only
IsOrdinaryEnd opts compare (OutOfSync p one two) = (opts.check_sync ≡ Always) × (same compare one two ≡ false)
IsOrdinaryEnd opts compare (Moved side path listed read) = opts.check_sync ≢ Only
IsOrdinaryEnd opts compare (SinkFault false) = opts.check_sync ≢ Only
IsOrdinaryEnd opts compare (SinkFault true) = ⊤
IsOrdinaryEnd opts compare LockLeft = ⊤
IsOrdinaryEnd opts compare OutOfMemory = ⊤
IsOrdinaryEnd opts compare end = ⊥

-- # Inside this crate

-- the ends of a run that doesn't start, or that only compares its base
abbrev pub IsStartEnd : Opts → Option (List ℕ) → End → Type 0
IsStartEnd opts digest WorkFault = ⊤
IsStartEnd opts digest OutOfMemory = ⊤
IsStartEnd opts digest (FiltersChanged now stored) = (digest ≡ Some now) × (stored ≢ Some now)
IsStartEnd opts digest (BadListing name line) = ⊤
IsStartEnd opts digest (NeedResync NoBase) = ⊤
IsStartEnd opts digest (NeedResync NotRecovering) = opts.recover ≡ false
IsStartEnd opts digest (NeedResync (FieldsChanged stored)) = AreFields stored × (stored ≢ fields_of opts.compare)
IsStartEnd opts digest end = ⊥

-- the ends of a run that has no plan, where it is no run that only compares its base
abbrev pub IsUnplannedOrdinaryEnd : Opts → Compare → End → Type 0
IsUnplannedOrdinaryEnd opts compare OutOfMemory = ⊤
IsUnplannedOrdinaryEnd opts compare (EmptyPrior side) = ⊤
IsUnplannedOrdinaryEnd opts compare (RemoteFault side) = ⊤
IsUnplannedOrdinaryEnd opts compare (BadPath side text) = ⊤
IsUnplannedOrdinaryEnd opts compare (TooMany side files bytes) = ⊤
IsUnplannedOrdinaryEnd opts compare (CheckAccess side path) = IsSome opts.guard.check
IsUnplannedOrdinaryEnd opts compare (EmptyCurrent side) = ⊤
IsUnplannedOrdinaryEnd opts compare (TooManyDeletes side gone all) = (opts.guard.force ≡ false) × (opts.guard.max_delete * all < gone * 100)
IsUnplannedOrdinaryEnd opts compare (AllChanged side all) = (opts.guard.force ≡ false) × (1 ≤ all)
IsUnplannedOrdinaryEnd opts compare (NameTooLong side path) = ⊤
IsUnplannedOrdinaryEnd opts compare (ListingTooLong side bytes) = ⊤
IsUnplannedOrdinaryEnd opts compare (OutOfSync p one two) = (opts.check_sync ≡ Always) × (same compare one two ≡ false)
IsUnplannedOrdinaryEnd opts compare (Moved side path listed read) = ⊤
IsUnplannedOrdinaryEnd opts compare end = ⊥
