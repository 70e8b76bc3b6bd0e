-- What is known of the ends of a run without the lock, and of good ends.
use Rattle.std.proofs.Common.{◌≡◌, true, refl, Bool, Option, List, ℕ}
use Rattle.bisync_device.specs.Faults.{Rose}
use Rattle.bisync_opts.specs.declared.options.Opts.{Opts}
use Rattle.bisync_report.specs.declared.ends.End.{End}
use Rattle.bisync_report.specs.declared.ends.End.TheVariants.{Done, Resynced, DryRun, InSync, Demo, Usage, WorkFault, NoFilters, BadRule, Locked, FiltersChanged, BadListing, NeedResync, ListingsDiffer, EmptyPrior, RemoteFault, BadPath, TooMany, CheckAccess, EmptyCurrent, TooManyDeletes, AllChanged, NameTooLong, ListingTooLong, OutOfSync, Moved, SinkFault, LockLeft, FoldersLeft, KeepFault, Checked, NotBuilt, OutOfMemory}
use Rattle.bisync_run.specs.Counts.{Counts, Stops}
use Rattle.bisync_run.specs.EndKinds.{is_good, is_after_good, has_freed, lets_fall}
use Rattle.bisync_run.specs.ResyncEnds.{IsResyncEnd, IsUnlockedEnd}
use Rattle.bisync_run.proofs.EndCases.{false_true}

module _ (opts : Opts) where
  pub unlocked_is_own : (end : End) → IsUnlockedEnd opts.filters end → IsResyncEnd opts end
  unlocked_is_own (Done one two) x = absurd x
  unlocked_is_own (Resynced one two) x = absurd x
  unlocked_is_own DryRun x = absurd x
  unlocked_is_own InSync x = absurd x
  unlocked_is_own Demo x = absurd x
  unlocked_is_own (Usage kind) x = absurd x
  unlocked_is_own WorkFault x = tt
  unlocked_is_own NoFilters x = x
  unlocked_is_own (BadRule line) x = x
  unlocked_is_own (Locked until) x = tt
  unlocked_is_own (FiltersChanged now stored) x = absurd x
  unlocked_is_own (BadListing name line) x = absurd x
  unlocked_is_own (NeedResync need) x = absurd x
  unlocked_is_own (ListingsDiffer path one two) x = absurd x
  unlocked_is_own (EmptyPrior side) x = absurd x
  unlocked_is_own (RemoteFault side) x = absurd x
  unlocked_is_own (BadPath side text) x = absurd x
  unlocked_is_own (TooMany side files bytes) x = absurd x
  unlocked_is_own (CheckAccess side path) x = absurd x
  unlocked_is_own (EmptyCurrent side) x = absurd x
  unlocked_is_own (TooManyDeletes side gone all) x = absurd x
  unlocked_is_own (AllChanged side all) x = absurd x
  unlocked_is_own (NameTooLong side path) x = absurd x
  unlocked_is_own (ListingTooLong side bytes) x = absurd x
  unlocked_is_own (OutOfSync path one two) x = absurd x
  unlocked_is_own (Moved side path listed read) x = absurd x
  unlocked_is_own (SinkFault done) x = absurd x
  unlocked_is_own LockLeft x = absurd x
  unlocked_is_own (FoldersLeft cause) x = absurd x
  unlocked_is_own (KeepFault side) x = absurd x
  unlocked_is_own (Checked differ) x = absurd x
  unlocked_is_own NotBuilt x = absurd x
  unlocked_is_own OutOfMemory x = tt

module _ (name : Option (List ℕ)) where
  pub unlocked_not_after_good : (end : End) → IsUnlockedEnd name end → is_after_good end ≡ true → ⊥
  unlocked_not_after_good (Done one two) x good = absurd x
  unlocked_not_after_good (Resynced one two) x good = absurd x
  unlocked_not_after_good DryRun x good = absurd x
  unlocked_not_after_good InSync x good = absurd x
  unlocked_not_after_good Demo x good = absurd x
  unlocked_not_after_good (Usage kind) x good = absurd x
  unlocked_not_after_good WorkFault x good = false_true good
  unlocked_not_after_good NoFilters x good = false_true good
  unlocked_not_after_good (BadRule line) x good = false_true good
  unlocked_not_after_good (Locked until) x good = false_true good
  unlocked_not_after_good (FiltersChanged now stored) x good = absurd x
  unlocked_not_after_good (BadListing name line) x good = absurd x
  unlocked_not_after_good (NeedResync need) x good = absurd x
  unlocked_not_after_good (ListingsDiffer path one two) x good = absurd x
  unlocked_not_after_good (EmptyPrior side) x good = absurd x
  unlocked_not_after_good (RemoteFault side) x good = absurd x
  unlocked_not_after_good (BadPath side text) x good = absurd x
  unlocked_not_after_good (TooMany side files bytes) x good = absurd x
  unlocked_not_after_good (CheckAccess side path) x good = absurd x
  unlocked_not_after_good (EmptyCurrent side) x good = absurd x
  unlocked_not_after_good (TooManyDeletes side gone all) x good = absurd x
  unlocked_not_after_good (AllChanged side all) x good = absurd x
  unlocked_not_after_good (NameTooLong side path) x good = absurd x
  unlocked_not_after_good (ListingTooLong side bytes) x good = absurd x
  unlocked_not_after_good (OutOfSync path one two) x good = absurd x
  unlocked_not_after_good (Moved side path listed read) x good = absurd x
  unlocked_not_after_good (SinkFault done) x good = absurd x
  unlocked_not_after_good LockLeft x good = absurd x
  unlocked_not_after_good (FoldersLeft cause) x good = absurd x
  unlocked_not_after_good (KeepFault side) x good = absurd x
  unlocked_not_after_good (Checked differ) x good = absurd x
  unlocked_not_after_good NotBuilt x good = absurd x
  unlocked_not_after_good OutOfMemory x good = false_true good

  -- of them the listings fall only where a call of the work folder failed
  pub unlocked_fell : (old new : Counts) (resilient dry_run : Bool) (end : End) → IsUnlockedEnd name end → Stops old new end → lets_fall resilient dry_run end ≡ true → Rose old.work new.work
  unlocked_fell old new resilient dry_run (Done one two) x stops fell = absurd x
  unlocked_fell old new resilient dry_run (Resynced one two) x stops fell = absurd x
  unlocked_fell old new resilient dry_run DryRun x stops fell = absurd x
  unlocked_fell old new resilient dry_run InSync x stops fell = absurd x
  unlocked_fell old new resilient dry_run Demo x stops fell = absurd x
  unlocked_fell old new resilient dry_run (Usage kind) x stops fell = absurd x
  unlocked_fell old new resilient dry_run WorkFault x stops fell = stops
  unlocked_fell old new resilient dry_run NoFilters x stops fell = false_true fell
  unlocked_fell old new resilient dry_run (BadRule line) x stops fell = false_true fell
  unlocked_fell old new resilient dry_run (Locked until) x stops fell = false_true fell
  unlocked_fell old new resilient dry_run (FiltersChanged now stored) x stops fell = absurd x
  unlocked_fell old new resilient dry_run (BadListing name line) x stops fell = absurd x
  unlocked_fell old new resilient dry_run (NeedResync need) x stops fell = absurd x
  unlocked_fell old new resilient dry_run (ListingsDiffer path one two) x stops fell = absurd x
  unlocked_fell old new resilient dry_run (EmptyPrior side) x stops fell = absurd x
  unlocked_fell old new resilient dry_run (RemoteFault side) x stops fell = absurd x
  unlocked_fell old new resilient dry_run (BadPath side text) x stops fell = absurd x
  unlocked_fell old new resilient dry_run (TooMany side files bytes) x stops fell = absurd x
  unlocked_fell old new resilient dry_run (CheckAccess side path) x stops fell = absurd x
  unlocked_fell old new resilient dry_run (EmptyCurrent side) x stops fell = absurd x
  unlocked_fell old new resilient dry_run (TooManyDeletes side gone all) x stops fell = absurd x
  unlocked_fell old new resilient dry_run (AllChanged side all) x stops fell = absurd x
  unlocked_fell old new resilient dry_run (NameTooLong side path) x stops fell = absurd x
  unlocked_fell old new resilient dry_run (ListingTooLong side bytes) x stops fell = absurd x
  unlocked_fell old new resilient dry_run (OutOfSync path one two) x stops fell = absurd x
  unlocked_fell old new resilient dry_run (Moved side path listed read) x stops fell = absurd x
  unlocked_fell old new resilient dry_run (SinkFault done) x stops fell = absurd x
  unlocked_fell old new resilient dry_run LockLeft x stops fell = absurd x
  unlocked_fell old new resilient dry_run (FoldersLeft cause) x stops fell = absurd x
  unlocked_fell old new resilient dry_run (KeepFault side) x stops fell = absurd x
  unlocked_fell old new resilient dry_run (Checked differ) x stops fell = absurd x
  unlocked_fell old new resilient dry_run NotBuilt x stops fell = absurd x
  unlocked_fell old new resilient dry_run OutOfMemory x stops fell = false_true fell

-- # Good ends

pub good_stays : (resilient dry_run : Bool) (end : End) → is_good end ≡ true → lets_fall resilient dry_run end ≡ true → ⊥
good_stays resilient dry_run (Done one two) good fell = false_true fell
good_stays resilient dry_run (Resynced one two) good fell = false_true fell
good_stays resilient dry_run DryRun good fell = false_true fell
good_stays resilient dry_run InSync good fell = false_true fell
good_stays resilient dry_run Demo good fell = false_true good
good_stays resilient dry_run (Usage kind) good fell = false_true good
good_stays resilient dry_run WorkFault good fell = false_true good
good_stays resilient dry_run NoFilters good fell = false_true good
good_stays resilient dry_run (BadRule line) good fell = false_true good
good_stays resilient dry_run (Locked until) good fell = false_true good
good_stays resilient dry_run (FiltersChanged now stored) good fell = false_true good
good_stays resilient dry_run (BadListing name line) good fell = false_true good
good_stays resilient dry_run (NeedResync need) good fell = false_true good
good_stays resilient dry_run (ListingsDiffer path one two) good fell = false_true good
good_stays resilient dry_run (EmptyPrior side) good fell = false_true good
good_stays resilient dry_run (RemoteFault side) good fell = false_true good
good_stays resilient dry_run (BadPath side text) good fell = false_true good
good_stays resilient dry_run (TooMany side files bytes) good fell = false_true good
good_stays resilient dry_run (CheckAccess side path) good fell = false_true good
good_stays resilient dry_run (EmptyCurrent side) good fell = false_true good
good_stays resilient dry_run (TooManyDeletes side gone all) good fell = false_true good
good_stays resilient dry_run (AllChanged side all) good fell = false_true good
good_stays resilient dry_run (NameTooLong side path) good fell = false_true good
good_stays resilient dry_run (ListingTooLong side bytes) good fell = false_true good
good_stays resilient dry_run (OutOfSync path one two) good fell = false_true good
good_stays resilient dry_run (Moved side path listed read) good fell = false_true good
good_stays resilient dry_run (SinkFault done) good fell = false_true good
good_stays resilient dry_run LockLeft good fell = false_true good
good_stays resilient dry_run (FoldersLeft cause) good fell = false_true good
good_stays resilient dry_run (KeepFault side) good fell = false_true good
good_stays resilient dry_run (Checked differ) good fell = false_true good
good_stays resilient dry_run NotBuilt good fell = false_true good
good_stays resilient dry_run OutOfMemory good fell = false_true good

pub good_has_freed : (end : End) → is_good end ≡ true → has_freed end ≡ true
good_has_freed (Done one two) good = good
good_has_freed (Resynced one two) good = good
good_has_freed DryRun good = good
good_has_freed InSync good = good
good_has_freed Demo good = good
good_has_freed (Usage kind) good = good
good_has_freed WorkFault good = good
good_has_freed NoFilters good = good
good_has_freed (BadRule line) good = good
good_has_freed (Locked until) good = good
good_has_freed (FiltersChanged now stored) good = good
good_has_freed (BadListing name line) good = good
good_has_freed (NeedResync need) good = good
good_has_freed (ListingsDiffer path one two) good = good
good_has_freed (EmptyPrior side) good = good
good_has_freed (RemoteFault side) good = good
good_has_freed (BadPath side text) good = good
good_has_freed (TooMany side files bytes) good = good
good_has_freed (CheckAccess side path) good = good
good_has_freed (EmptyCurrent side) good = good
good_has_freed (TooManyDeletes side gone all) good = good
good_has_freed (AllChanged side all) good = good
good_has_freed (NameTooLong side path) good = good
good_has_freed (ListingTooLong side bytes) good = good
good_has_freed (OutOfSync path one two) good = good
good_has_freed (Moved side path listed read) good = good
good_has_freed (SinkFault done) good = false_true good
good_has_freed LockLeft good = good
good_has_freed (FoldersLeft cause) good = good
good_has_freed (KeepFault side) good = good
good_has_freed (Checked differ) good = good
good_has_freed NotBuilt good = good
good_has_freed OutOfMemory good = good

pub freed_is_after_good : (end : End) → has_freed end ≡ true → is_after_good end ≡ true
freed_is_after_good (Done one two) freed = freed
freed_is_after_good (Resynced one two) freed = freed
freed_is_after_good DryRun freed = freed
freed_is_after_good InSync freed = freed
freed_is_after_good Demo freed = freed
freed_is_after_good (Usage kind) freed = freed
freed_is_after_good WorkFault freed = freed
freed_is_after_good NoFilters freed = freed
freed_is_after_good (BadRule line) freed = freed
freed_is_after_good (Locked until) freed = freed
freed_is_after_good (FiltersChanged now stored) freed = freed
freed_is_after_good (BadListing name line) freed = freed
freed_is_after_good (NeedResync need) freed = freed
freed_is_after_good (ListingsDiffer path one two) freed = freed
freed_is_after_good (EmptyPrior side) freed = freed
freed_is_after_good (RemoteFault side) freed = freed
freed_is_after_good (BadPath side text) freed = freed
freed_is_after_good (TooMany side files bytes) freed = freed
freed_is_after_good (CheckAccess side path) freed = freed
freed_is_after_good (EmptyCurrent side) freed = freed
freed_is_after_good (TooManyDeletes side gone all) freed = freed
freed_is_after_good (AllChanged side all) freed = freed
freed_is_after_good (NameTooLong side path) freed = freed
freed_is_after_good (ListingTooLong side bytes) freed = freed
freed_is_after_good (OutOfSync path one two) freed = freed
freed_is_after_good (Moved side path listed read) freed = freed
freed_is_after_good (SinkFault done) freed = freed
freed_is_after_good LockLeft freed = refl
freed_is_after_good (FoldersLeft cause) freed = freed
freed_is_after_good (KeepFault side) freed = freed
freed_is_after_good (Checked differ) freed = freed
freed_is_after_good NotBuilt freed = freed
freed_is_after_good OutOfMemory freed = freed
