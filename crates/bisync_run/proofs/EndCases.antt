-- What is known of the end that a failed call or a moved file has.
use Rattle.std.proofs.Common.{◌≡◌, refl, subst, true, false, Bool, IsTrue}
use Rattle.std.specs.Prelude.{⊤}
use Rattle.bisync_tree.specs.declared.sides.Side.{Side}
use Rattle.bisync_tree.specs.declared.sides.Side.TheVariants.{One, Two}
use Rattle.bisync_tree.specs.declared.options.Limits.{Limits}
use Rattle.bisync_tree.specs.declared.options.Prefer.{Prefer}
use Rattle.bisync_device.specs.WorkFolder.{WorkFolder}
use Rattle.bisync_report.specs.declared.ends.End.{End}
use Rattle.bisync_report.specs.declared.ends.End.TheVariants.{Done, Resynced, DryRun, InSync, Demo, Usage, WorkFault, NoFilters, BadRule, Locked, FiltersChanged, BadListing, NeedResync, ListingsDiffer, EmptyPrior, RemoteFault, BadPath, TooMany, CheckAccess, EmptyCurrent, TooManyDeletes, AllChanged, NameTooLong, ListingTooLong, OutOfSync, Moved, SinkFault, LockLeft, FoldersLeft, KeepFault, Checked, NotBuilt, OutOfMemory}
use Rattle.bisync_run.specs.EndKinds.{is_good, is_after_good, may_have_changed}
use Rattle.bisync_run.specs.HeldResyncs.{IsGoodEndOf}
use Rattle.bisync_run.specs.ResyncRefusals.{AnswersResync, HasNoResyncRefusal}
use Rattle.bisync_run.specs.Sides.{Sides, IsListable}
use Rattle.bisync_run.specs.Stepping.{FindsTold, IsStepEnd, IsDeviceFault}

abbrev IsFalse : Bool → Type 0
IsFalse false = ⊤
IsFalse true = ⊥

pub false_true : {P : Type 0} → false ≡ true → P
false_true e = absurd (subst IsFalse e tt)

pub device_answers : (mode : Prefer) (limits : Limits) (f : WorkFolder) (s : Sides) → IsListable limits s.one → (end : End) → IsDeviceFault end → AnswersResync mode limits f s end
device_answers mode limits f s first (Done one two) x = absurd x
device_answers mode limits f s first (Resynced one two) x = absurd x
device_answers mode limits f s first DryRun x = absurd x
device_answers mode limits f s first InSync x = absurd x
device_answers mode limits f s first Demo x = absurd x
device_answers mode limits f s first (Usage kind) x = absurd x
device_answers mode limits f s first WorkFault x = tt
device_answers mode limits f s first NoFilters x = absurd x
device_answers mode limits f s first (BadRule line) x = absurd x
device_answers mode limits f s first (Locked until) x = absurd x
device_answers mode limits f s first (FiltersChanged now stored) x = absurd x
device_answers mode limits f s first (BadListing name line) x = absurd x
device_answers mode limits f s first (NeedResync need) x = absurd x
device_answers mode limits f s first (ListingsDiffer path one two) x = absurd x
device_answers mode limits f s first (EmptyPrior side) x = absurd x
device_answers mode limits f s first (RemoteFault One) x = tt
device_answers mode limits f s first (RemoteFault Two) x = first
device_answers mode limits f s first (BadPath side text) x = absurd x
device_answers mode limits f s first (TooMany side files bytes) x = absurd x
device_answers mode limits f s first (CheckAccess side path) x = absurd x
device_answers mode limits f s first (EmptyCurrent side) x = absurd x
device_answers mode limits f s first (TooManyDeletes side gone all) x = absurd x
device_answers mode limits f s first (AllChanged side all) x = absurd x
device_answers mode limits f s first (NameTooLong side path) x = absurd x
device_answers mode limits f s first (ListingTooLong side bytes) x = absurd x
device_answers mode limits f s first (OutOfSync path one two) x = absurd x
device_answers mode limits f s first (Moved side path listed read) x = absurd x
device_answers mode limits f s first (SinkFault done) x = absurd x
device_answers mode limits f s first LockLeft x = absurd x
device_answers mode limits f s first (FoldersLeft cause) x = absurd x
device_answers mode limits f s first (KeepFault side) x = absurd x
device_answers mode limits f s first (Checked differ) x = absurd x
device_answers mode limits f s first NotBuilt x = absurd x
device_answers mode limits f s first OutOfMemory x = absurd x

-- where both sides tell, a call failed
pub told_device : (tells : Side → Bool) → IsTrue (tells One) → IsTrue (tells Two) → (end : End) → IsStepEnd end → FindsTold tells end → IsDeviceFault end
told_device tells a b (Done one two) x found = absurd x
told_device tells a b (Resynced one two) x found = absurd x
told_device tells a b DryRun x found = absurd x
told_device tells a b InSync x found = absurd x
told_device tells a b Demo x found = absurd x
told_device tells a b (Usage kind) x found = absurd x
told_device tells a b WorkFault x found = tt
told_device tells a b NoFilters x found = absurd x
told_device tells a b (BadRule line) x found = absurd x
told_device tells a b (Locked until) x found = absurd x
told_device tells a b (FiltersChanged now stored) x found = absurd x
told_device tells a b (BadListing name line) x found = absurd x
told_device tells a b (NeedResync need) x found = absurd x
told_device tells a b (ListingsDiffer path one two) x found = absurd x
told_device tells a b (EmptyPrior side) x found = absurd x
told_device tells a b (RemoteFault side) x found = tt
told_device tells a b (BadPath side text) x found = absurd x
told_device tells a b (TooMany side files bytes) x found = absurd x
told_device tells a b (CheckAccess side path) x found = absurd x
told_device tells a b (EmptyCurrent side) x found = absurd x
told_device tells a b (TooManyDeletes side gone all) x found = absurd x
told_device tells a b (AllChanged side all) x found = absurd x
told_device tells a b (NameTooLong side path) x found = absurd x
told_device tells a b (ListingTooLong side bytes) x found = absurd x
told_device tells a b (OutOfSync path one two) x found = absurd x
told_device tells a b (Moved One path listed read) x found = absurd (found a)
told_device tells a b (Moved Two path listed read) x found = absurd (found b)
told_device tells a b (SinkFault done) x found = absurd x
told_device tells a b LockLeft x found = absurd x
told_device tells a b (FoldersLeft cause) x found = absurd x
told_device tells a b (KeepFault side) x found = absurd x
told_device tells a b (Checked differ) x found = absurd x
told_device tells a b NotBuilt x found = absurd x
told_device tells a b OutOfMemory x found = absurd x

pub step_may_change : (end : End) → IsStepEnd end → may_have_changed end ≡ true
step_may_change (Done one two) x = absurd x
step_may_change (Resynced one two) x = absurd x
step_may_change DryRun x = absurd x
step_may_change InSync x = absurd x
step_may_change Demo x = absurd x
step_may_change (Usage kind) x = absurd x
step_may_change WorkFault x = refl
step_may_change NoFilters x = absurd x
step_may_change (BadRule line) x = absurd x
step_may_change (Locked until) x = absurd x
step_may_change (FiltersChanged now stored) x = absurd x
step_may_change (BadListing name line) x = absurd x
step_may_change (NeedResync need) x = absurd x
step_may_change (ListingsDiffer path one two) x = absurd x
step_may_change (EmptyPrior side) x = absurd x
step_may_change (RemoteFault side) x = refl
step_may_change (BadPath side text) x = absurd x
step_may_change (TooMany side files bytes) x = absurd x
step_may_change (CheckAccess side path) x = absurd x
step_may_change (EmptyCurrent side) x = absurd x
step_may_change (TooManyDeletes side gone all) x = absurd x
step_may_change (AllChanged side all) x = absurd x
step_may_change (NameTooLong side path) x = absurd x
step_may_change (ListingTooLong side bytes) x = absurd x
step_may_change (OutOfSync path one two) x = absurd x
step_may_change (Moved side path listed read) x = refl
step_may_change (SinkFault done) x = absurd x
step_may_change LockLeft x = absurd x
step_may_change (FoldersLeft cause) x = absurd x
step_may_change (KeepFault side) x = absurd x
step_may_change (Checked differ) x = absurd x
step_may_change NotBuilt x = absurd x
step_may_change OutOfMemory x = absurd x

pub good_answers : (mode : Prefer) (limits : Limits) (f : WorkFolder) (s : Sides) (dry_run : Bool) (end : End) → IsGoodEndOf dry_run mode s end → HasNoResyncRefusal mode limits f s → AnswersResync mode limits f s end
good_answers mode limits f s dry_run (Done one two) x none = absurd x
good_answers mode limits f s dry_run (Resynced one two) x none = none
good_answers mode limits f s dry_run DryRun x none = none
good_answers mode limits f s dry_run InSync x none = absurd x
good_answers mode limits f s dry_run Demo x none = absurd x
good_answers mode limits f s dry_run (Usage kind) x none = absurd x
good_answers mode limits f s dry_run WorkFault x none = absurd x
good_answers mode limits f s dry_run NoFilters x none = absurd x
good_answers mode limits f s dry_run (BadRule line) x none = absurd x
good_answers mode limits f s dry_run (Locked until) x none = absurd x
good_answers mode limits f s dry_run (FiltersChanged now stored) x none = absurd x
good_answers mode limits f s dry_run (BadListing name line) x none = absurd x
good_answers mode limits f s dry_run (NeedResync need) x none = absurd x
good_answers mode limits f s dry_run (ListingsDiffer path one two) x none = absurd x
good_answers mode limits f s dry_run (EmptyPrior side) x none = absurd x
good_answers mode limits f s dry_run (RemoteFault side) x none = absurd x
good_answers mode limits f s dry_run (BadPath side text) x none = absurd x
good_answers mode limits f s dry_run (TooMany side files bytes) x none = absurd x
good_answers mode limits f s dry_run (CheckAccess side path) x none = absurd x
good_answers mode limits f s dry_run (EmptyCurrent side) x none = absurd x
good_answers mode limits f s dry_run (TooManyDeletes side gone all) x none = absurd x
good_answers mode limits f s dry_run (AllChanged side all) x none = absurd x
good_answers mode limits f s dry_run (NameTooLong side path) x none = absurd x
good_answers mode limits f s dry_run (ListingTooLong side bytes) x none = absurd x
good_answers mode limits f s dry_run (OutOfSync path one two) x none = absurd x
good_answers mode limits f s dry_run (Moved side path listed read) x none = absurd x
good_answers mode limits f s dry_run (SinkFault done) x none = absurd x
good_answers mode limits f s dry_run LockLeft x none = absurd x
good_answers mode limits f s dry_run (FoldersLeft cause) x none = absurd x
good_answers mode limits f s dry_run (KeepFault side) x none = absurd x
good_answers mode limits f s dry_run (Checked differ) x none = absurd x
good_answers mode limits f s dry_run NotBuilt x none = absurd x
good_answers mode limits f s dry_run OutOfMemory x none = absurd x

pub good_is_after_good : (end : End) → is_good end ≡ true → is_after_good end ≡ true
good_is_after_good (Done one two) x = x
good_is_after_good (Resynced one two) x = x
good_is_after_good DryRun x = x
good_is_after_good InSync x = x
good_is_after_good Demo x = x
good_is_after_good (Usage kind) x = x
good_is_after_good WorkFault x = x
good_is_after_good NoFilters x = x
good_is_after_good (BadRule line) x = x
good_is_after_good (Locked until) x = x
good_is_after_good (FiltersChanged now stored) x = x
good_is_after_good (BadListing name line) x = x
good_is_after_good (NeedResync need) x = x
good_is_after_good (ListingsDiffer path one two) x = x
good_is_after_good (EmptyPrior side) x = x
good_is_after_good (RemoteFault side) x = x
good_is_after_good (BadPath side text) x = x
good_is_after_good (TooMany side files bytes) x = x
good_is_after_good (CheckAccess side path) x = x
good_is_after_good (EmptyCurrent side) x = x
good_is_after_good (TooManyDeletes side gone all) x = x
good_is_after_good (AllChanged side all) x = x
good_is_after_good (NameTooLong side path) x = x
good_is_after_good (ListingTooLong side bytes) x = x
good_is_after_good (OutOfSync path one two) x = x
good_is_after_good (Moved side path listed read) x = x
good_is_after_good (SinkFault done) x = false_true x
good_is_after_good LockLeft x = false_true x
good_is_after_good (FoldersLeft cause) x = x
good_is_after_good (KeepFault side) x = x
good_is_after_good (Checked differ) x = x
good_is_after_good NotBuilt x = x
good_is_after_good OutOfMemory x = x
