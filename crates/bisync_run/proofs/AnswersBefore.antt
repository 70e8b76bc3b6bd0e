-- What a resync that holds the lock answers, said of the folder without it.
use Rattle.std.proofs.Common.{ℕ}
use Rattle.bisync_tree.specs.declared.sides.Side.{Side}
use Rattle.bisync_tree.specs.declared.sides.Side.TheVariants.{One, Two}
use Rattle.bisync_tree.specs.declared.options.Limits.{Limits}
use Rattle.bisync_tree.specs.declared.options.Prefer.{Prefer}
use Rattle.bisync_device.specs.WorkFolder.{WorkFolder}
use Rattle.bisync_work.specs.Locks.{ChangesLock}
use Rattle.bisync_report.specs.declared.ends.End.{End}
use Rattle.bisync_report.specs.declared.ends.End.TheVariants.{Done, Resynced, DryRun, InSync, Demo, Usage, WorkFault, NoFilters, BadRule, Locked, FiltersChanged, BadListing, NeedResync, ListingsDiffer, EmptyPrior, RemoteFault, BadPath, TooMany, CheckAccess, EmptyCurrent, TooManyDeletes, AllChanged, NameTooLong, ListingTooLong, OutOfSync, Moved, SinkFault, LockLeft, FoldersLeft, KeepFault, Checked, NotBuilt, OutOfMemory}
use Rattle.bisync_run.specs.ResyncRefusals.{HasLongListing, HasNoResyncRefusal, AnswersResync}
use Rattle.bisync_run.specs.Sides.{Sides}
use Rattle.bisync_run.proofs.LockedFolders.{stamp_before}

module _ (mode : Prefer) (limits : Limits) (f g : WorkFolder) (changes : ChangesLock f g) (s : Sides) where
  long_before : {side : Side} {bytes : ℕ} → HasLongListing mode limits g s side bytes → HasLongListing mode limits f s side bytes
  long_before x = record { one = x.one; two = x.two; stamp = x.stamp; new = stamp_before f g changes limits.listing x.stamp x.new; long = x.long }

  pub none_before : HasNoResyncRefusal mode limits g s → HasNoResyncRefusal mode limits f s
  none_before x = record { one = x.one; two = x.two; stamp = x.stamp; new = stamp_before f g changes limits.listing x.stamp x.new; fits1 = x.fits1; fits2 = x.fits2 }

  pub answers_before : (end : End) → AnswersResync mode limits g s end → AnswersResync mode limits f s end
  answers_before (Done one two) x = absurd x
  answers_before (Resynced one two) x = none_before x
  answers_before DryRun x = none_before x
  answers_before InSync x = absurd x
  answers_before Demo x = absurd x
  answers_before (Usage kind) x = absurd x
  answers_before WorkFault x = tt
  answers_before NoFilters x = absurd x
  answers_before (BadRule line) x = absurd x
  answers_before (Locked until) x = absurd x
  answers_before (FiltersChanged now stored) x = absurd x
  answers_before (BadListing name line) x = absurd x
  answers_before (NeedResync need) x = absurd x
  answers_before (ListingsDiffer path one two) x = absurd x
  answers_before (EmptyPrior side) x = absurd x
  answers_before (RemoteFault One) x = tt
  answers_before (RemoteFault Two) x = x
  answers_before (BadPath side text) x = absurd x
  answers_before (TooMany One files bytes) x = x
  answers_before (TooMany Two files bytes) x = x
  answers_before (CheckAccess side path) x = absurd x
  answers_before (EmptyCurrent side) x = absurd x
  answers_before (TooManyDeletes side gone all) x = absurd x
  answers_before (AllChanged side all) x = absurd x
  answers_before (NameTooLong side path) x = absurd x
  answers_before (ListingTooLong side bytes) x = long_before x
  answers_before (OutOfSync path one two) x = absurd x
  answers_before (Moved side path listed read) x = absurd x
  answers_before (SinkFault done) x = none_before x
  answers_before LockLeft x = none_before x
  answers_before (FoldersLeft cause) x = absurd x
  answers_before (KeepFault side) x = absurd x
  answers_before (Checked differ) x = absurd x
  answers_before NotBuilt x = absurd x
  answers_before OutOfMemory x = tt
