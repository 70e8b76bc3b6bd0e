-- Causes of ends, from the parts of a run to the whole.
use Rattle.std.proofs.Common.{◌≡◌, ◌≤◌, ℕ, true, false, refl, ◌∙◌, ap, arith}
use Rattle.bisync_device.specs.Faults.{Rose}
use Rattle.bisync_tree.specs.declared.sides.Side.TheVariants.{One, Two}
use Rattle.bisync_report.specs.declared.ends.End.{End}
use Rattle.bisync_report.specs.declared.ends.End.TheVariants.{Done, Resynced, DryRun, InSync, Demo, Usage, WorkFault, NoFilters, BadRule, Locked, FiltersChanged, BadListing, NeedResync, ListingsDiffer, EmptyPrior, RemoteFault, BadPath, TooMany, CheckAccess, EmptyCurrent, TooManyDeletes, AllChanged, NameTooLong, ListingTooLong, OutOfSync, Moved, SinkFault, LockLeft, FoldersLeft, KeepFault, Checked, NotBuilt, OutOfMemory}
use Rattle.bisync_run.specs.Counts.{Counts, counts, Later, Stops, Ends}
use Rattle.bisync_run.specs.EndKinds.{is_good, is_after_good}

-- # Counts that rose

-- a count that rose between two moments rose between an earlier and a later one
pub rose_within : (a b c d : ℕ) → a ≤ b → c ≤ d → Rose b c → Rose a d
rose_within a b c d before after rose = omega arith

-- a count that rose later rose
pub rose_since : (a b c : ℕ) → Rose b c → a ≤ b → Rose a c
rose_since a b c rose before = omega arith

-- where it didn't rise, neither did it later
pub no_rise_since : (a b c : ℕ) → (Rose a c → ⊥) → a ≤ b → Rose b c → ⊥
no_rise_since a b c none before rose = none (rose_since a b c rose before)

pub le_same : (n : ℕ) → n ≤ n
le_same n = omega arith

-- a cause stays one, whatever fails later
pub stops_later : (old mid new : Counts) (end : End) → Stops old mid end → Later mid new → Stops old new end
stops_later old mid new (Done one two) stops later = absurd stops
stops_later old mid new (Resynced one two) stops later = absurd stops
stops_later old mid new DryRun stops later = absurd stops
stops_later old mid new InSync stops later = absurd stops
stops_later old mid new Demo stops later = absurd stops
stops_later old mid new (Usage kind) stops later = absurd stops
stops_later old mid new WorkFault stops later = rose_within _ _ _ _ (le_same old.work) later.work stops
stops_later old mid new NoFilters stops later = tt
stops_later old mid new (BadRule line) stops later = tt
stops_later old mid new (Locked until) stops later = tt
stops_later old mid new (FiltersChanged now stored) stops later = tt
stops_later old mid new (BadListing name line) stops later = tt
stops_later old mid new (NeedResync need) stops later = tt
stops_later old mid new (ListingsDiffer path one two) stops later = tt
stops_later old mid new (EmptyPrior side) stops later = tt
stops_later old mid new (RemoteFault One) stops later = rose_within _ _ _ _ (le_same old.one) later.one stops
stops_later old mid new (RemoteFault Two) stops later = rose_within _ _ _ _ (le_same old.two) later.two stops
stops_later old mid new (BadPath side text) stops later = tt
stops_later old mid new (TooMany side files bytes) stops later = tt
stops_later old mid new (CheckAccess side path) stops later = tt
stops_later old mid new (EmptyCurrent side) stops later = tt
stops_later old mid new (TooManyDeletes side gone all) stops later = tt
stops_later old mid new (AllChanged side all) stops later = tt
stops_later old mid new (NameTooLong side path) stops later = tt
stops_later old mid new (ListingTooLong side bytes) stops later = tt
stops_later old mid new (OutOfSync path one two) stops later = tt
stops_later old mid new (Moved side path listed read) stops later = tt
stops_later old mid new (SinkFault false) stops later = rose_within _ _ _ _ (le_same old.sink) later.sink stops
stops_later old mid new (SinkFault true) stops later = absurd stops
stops_later old mid new LockLeft stops later = absurd stops
stops_later old mid new (FoldersLeft cause) stops later = absurd stops
stops_later old mid new (KeepFault side) stops later = absurd stops
stops_later old mid new (Checked differ) stops later = absurd stops
stops_later old mid new NotBuilt stops later = absurd stops
stops_later old mid new OutOfMemory stops later = tt

-- an end that stops a run may end it
pub stops_ends : (old new : Counts) (end : End) → Stops old new end → Ends old new end
stops_ends old new (Done one two) stops = absurd stops
stops_ends old new (Resynced one two) stops = absurd stops
stops_ends old new DryRun stops = absurd stops
stops_ends old new InSync stops = absurd stops
stops_ends old new Demo stops = absurd stops
stops_ends old new (Usage kind) stops = absurd stops
stops_ends old new WorkFault stops = stops
stops_ends old new NoFilters stops = tt
stops_ends old new (BadRule line) stops = tt
stops_ends old new (Locked until) stops = tt
stops_ends old new (FiltersChanged now stored) stops = tt
stops_ends old new (BadListing name line) stops = tt
stops_ends old new (NeedResync need) stops = tt
stops_ends old new (ListingsDiffer path one two) stops = tt
stops_ends old new (EmptyPrior side) stops = tt
stops_ends old new (RemoteFault One) stops = stops
stops_ends old new (RemoteFault Two) stops = stops
stops_ends old new (BadPath side text) stops = tt
stops_ends old new (TooMany side files bytes) stops = tt
stops_ends old new (CheckAccess side path) stops = tt
stops_ends old new (EmptyCurrent side) stops = tt
stops_ends old new (TooManyDeletes side gone all) stops = tt
stops_ends old new (AllChanged side all) stops = tt
stops_ends old new (NameTooLong side path) stops = tt
stops_ends old new (ListingTooLong side bytes) stops = tt
stops_ends old new (OutOfSync path one two) stops = tt
stops_ends old new (Moved side path listed read) stops = tt
stops_ends old new (SinkFault false) stops = stops
stops_ends old new (SinkFault true) stops = absurd stops
stops_ends old new LockLeft stops = absurd stops
stops_ends old new (FoldersLeft cause) stops = absurd stops
stops_ends old new (KeepFault side) stops = absurd stops
stops_ends old new (Checked differ) stops = absurd stops
stops_ends old new NotBuilt stops = absurd stops
stops_ends old new OutOfMemory stops = tt

-- and is no good end
pub stops_not_good : (old new : Counts) (end : End) → Stops old new end → is_good end ≡ true → ⊥
stops_not_good old new (Done one two) stops good = stops
stops_not_good old new (Resynced one two) stops good = stops
stops_not_good old new DryRun stops good = stops
stops_not_good old new InSync stops good = stops
stops_not_good old new Demo stops good = stops
stops_not_good old new (Usage kind) stops good = stops
stops_not_good old new WorkFault stops good = cc
stops_not_good old new NoFilters stops good = cc
stops_not_good old new (BadRule line) stops good = cc
stops_not_good old new (Locked until) stops good = cc
stops_not_good old new (FiltersChanged now stored) stops good = cc
stops_not_good old new (BadListing name line) stops good = cc
stops_not_good old new (NeedResync need) stops good = cc
stops_not_good old new (ListingsDiffer path one two) stops good = cc
stops_not_good old new (EmptyPrior side) stops good = cc
stops_not_good old new (RemoteFault One) stops good = cc
stops_not_good old new (RemoteFault Two) stops good = cc
stops_not_good old new (BadPath side text) stops good = cc
stops_not_good old new (TooMany side files bytes) stops good = cc
stops_not_good old new (CheckAccess side path) stops good = cc
stops_not_good old new (EmptyCurrent side) stops good = cc
stops_not_good old new (TooManyDeletes side gone all) stops good = cc
stops_not_good old new (AllChanged side all) stops good = cc
stops_not_good old new (NameTooLong side path) stops good = cc
stops_not_good old new (ListingTooLong side bytes) stops good = cc
stops_not_good old new (OutOfSync path one two) stops good = cc
stops_not_good old new (Moved side path listed read) stops good = cc
stops_not_good old new (SinkFault false) stops good = cc
stops_not_good old new (SinkFault true) stops good = stops
stops_not_good old new LockLeft stops good = stops
stops_not_good old new (FoldersLeft cause) stops good = stops
stops_not_good old new (KeepFault side) stops good = stops
stops_not_good old new (Checked differ) stops good = stops
stops_not_good old new NotBuilt stops good = stops
stops_not_good old new OutOfMemory stops good = cc

pub stops_not_after_good : (old new : Counts) (end : End) → Stops old new end → is_after_good end ≡ true → ⊥
stops_not_after_good old new (Done one two) stops good = stops
stops_not_after_good old new (Resynced one two) stops good = stops
stops_not_after_good old new DryRun stops good = stops
stops_not_after_good old new InSync stops good = stops
stops_not_after_good old new Demo stops good = stops
stops_not_after_good old new (Usage kind) stops good = stops
stops_not_after_good old new WorkFault stops good = cc
stops_not_after_good old new NoFilters stops good = cc
stops_not_after_good old new (BadRule line) stops good = cc
stops_not_after_good old new (Locked until) stops good = cc
stops_not_after_good old new (FiltersChanged now stored) stops good = cc
stops_not_after_good old new (BadListing name line) stops good = cc
stops_not_after_good old new (NeedResync need) stops good = cc
stops_not_after_good old new (ListingsDiffer path one two) stops good = cc
stops_not_after_good old new (EmptyPrior side) stops good = cc
stops_not_after_good old new (RemoteFault One) stops good = cc
stops_not_after_good old new (RemoteFault Two) stops good = cc
stops_not_after_good old new (BadPath side text) stops good = cc
stops_not_after_good old new (TooMany side files bytes) stops good = cc
stops_not_after_good old new (CheckAccess side path) stops good = cc
stops_not_after_good old new (EmptyCurrent side) stops good = cc
stops_not_after_good old new (TooManyDeletes side gone all) stops good = cc
stops_not_after_good old new (AllChanged side all) stops good = cc
stops_not_after_good old new (NameTooLong side path) stops good = cc
stops_not_after_good old new (ListingTooLong side bytes) stops good = cc
stops_not_after_good old new (OutOfSync path one two) stops good = cc
stops_not_after_good old new (Moved side path listed read) stops good = cc
stops_not_after_good old new (SinkFault false) stops good = cc
stops_not_after_good old new (SinkFault true) stops good = stops
stops_not_after_good old new LockLeft stops good = stops
stops_not_after_good old new (FoldersLeft cause) stops good = stops
stops_not_after_good old new (KeepFault side) stops good = stops
stops_not_after_good old new (Checked differ) stops good = stops
stops_not_after_good old new NotBuilt stops good = stops
stops_not_after_good old new OutOfMemory stops good = cc

-- a good end ends a run whose counts stay
pub good_ends : (old new : Counts) (end : End) → is_good end ≡ true → new ≡ old → Ends old new end
good_ends old new (Done one two) good same = same
good_ends old new (Resynced one two) good same = same
good_ends old new DryRun good same = same
good_ends old new InSync good same = same
good_ends old new Demo good same = absurd cc
good_ends old new (Usage kind) good same = absurd cc
good_ends old new WorkFault good same = absurd cc
good_ends old new NoFilters good same = absurd cc
good_ends old new (BadRule line) good same = absurd cc
good_ends old new (Locked until) good same = absurd cc
good_ends old new (FiltersChanged now stored) good same = absurd cc
good_ends old new (BadListing name line) good same = absurd cc
good_ends old new (NeedResync need) good same = absurd cc
good_ends old new (ListingsDiffer path one two) good same = absurd cc
good_ends old new (EmptyPrior side) good same = absurd cc
good_ends old new (RemoteFault One) good same = absurd cc
good_ends old new (RemoteFault Two) good same = absurd cc
good_ends old new (BadPath side text) good same = absurd cc
good_ends old new (TooMany side files bytes) good same = absurd cc
good_ends old new (CheckAccess side path) good same = absurd cc
good_ends old new (EmptyCurrent side) good same = absurd cc
good_ends old new (TooManyDeletes side gone all) good same = absurd cc
good_ends old new (AllChanged side all) good same = absurd cc
good_ends old new (NameTooLong side path) good same = absurd cc
good_ends old new (ListingTooLong side bytes) good same = absurd cc
good_ends old new (OutOfSync path one two) good same = absurd cc
good_ends old new (Moved side path listed read) good same = absurd cc
good_ends old new (SinkFault false) good same = absurd cc
good_ends old new (SinkFault true) good same = absurd cc
good_ends old new LockLeft good same = absurd cc
good_ends old new (FoldersLeft cause) good same = absurd cc
good_ends old new (KeepFault side) good same = absurd cc
good_ends old new (Checked differ) good same = absurd cc
good_ends old new NotBuilt good same = absurd cc
good_ends old new OutOfMemory good same = absurd cc

pub ends_good : (old new : Counts) (end : End) → is_good end ≡ true → Ends old new end → new ≡ old
ends_good old new (Done one two) good ends = ends
ends_good old new (Resynced one two) good ends = ends
ends_good old new DryRun good ends = ends
ends_good old new InSync good ends = ends
ends_good old new Demo good ends = absurd cc
ends_good old new (Usage kind) good ends = absurd cc
ends_good old new WorkFault good ends = absurd cc
ends_good old new NoFilters good ends = absurd cc
ends_good old new (BadRule line) good ends = absurd cc
ends_good old new (Locked until) good ends = absurd cc
ends_good old new (FiltersChanged now stored) good ends = absurd cc
ends_good old new (BadListing name line) good ends = absurd cc
ends_good old new (NeedResync need) good ends = absurd cc
ends_good old new (ListingsDiffer path one two) good ends = absurd cc
ends_good old new (EmptyPrior side) good ends = absurd cc
ends_good old new (RemoteFault One) good ends = absurd cc
ends_good old new (RemoteFault Two) good ends = absurd cc
ends_good old new (BadPath side text) good ends = absurd cc
ends_good old new (TooMany side files bytes) good ends = absurd cc
ends_good old new (CheckAccess side path) good ends = absurd cc
ends_good old new (EmptyCurrent side) good ends = absurd cc
ends_good old new (TooManyDeletes side gone all) good ends = absurd cc
ends_good old new (AllChanged side all) good ends = absurd cc
ends_good old new (NameTooLong side path) good ends = absurd cc
ends_good old new (ListingTooLong side bytes) good ends = absurd cc
ends_good old new (OutOfSync path one two) good ends = absurd cc
ends_good old new (Moved side path listed read) good ends = absurd cc
ends_good old new (SinkFault done) good ends = absurd cc
ends_good old new LockLeft good ends = absurd cc
ends_good old new (FoldersLeft cause) good ends = absurd cc
ends_good old new (KeepFault side) good ends = absurd cc
ends_good old new (Checked differ) good ends = absurd cc
ends_good old new NotBuilt good ends = absurd cc
ends_good old new OutOfMemory good ends = absurd cc

-- the cause of an end stays one where the sink fails later, but not after a good end
pub ends_told : (old : Counts) (a b w s s2 : ℕ) (end : End) → Ends old (counts a b w s) end → s ≤ s2 → (is_good end ≡ true → s2 ≡ s) → Ends old (counts a b w s2) end
ends_told old a b w s s2 (Done one two) ends later kept = ap (counts a b w) (kept refl) ∙ ends
ends_told old a b w s s2 (Resynced one two) ends later kept = ap (counts a b w) (kept refl) ∙ ends
ends_told old a b w s s2 DryRun ends later kept = ap (counts a b w) (kept refl) ∙ ends
ends_told old a b w s s2 InSync ends later kept = ap (counts a b w) (kept refl) ∙ ends
ends_told old a b w s s2 Demo ends later kept = absurd ends
ends_told old a b w s s2 (Usage kind) ends later kept = absurd ends
ends_told old a b w s s2 WorkFault ends later kept = ends
ends_told old a b w s s2 NoFilters ends later kept = tt
ends_told old a b w s s2 (BadRule line) ends later kept = tt
ends_told old a b w s s2 (Locked until) ends later kept = tt
ends_told old a b w s s2 (FiltersChanged now stored) ends later kept = tt
ends_told old a b w s s2 (BadListing name line) ends later kept = tt
ends_told old a b w s s2 (NeedResync need) ends later kept = tt
ends_told old a b w s s2 (ListingsDiffer path one two) ends later kept = tt
ends_told old a b w s s2 (EmptyPrior side) ends later kept = tt
ends_told old a b w s s2 (RemoteFault One) ends later kept = ends
ends_told old a b w s s2 (RemoteFault Two) ends later kept = ends
ends_told old a b w s s2 (BadPath side text) ends later kept = tt
ends_told old a b w s s2 (TooMany side files bytes) ends later kept = tt
ends_told old a b w s s2 (CheckAccess side path) ends later kept = tt
ends_told old a b w s s2 (EmptyCurrent side) ends later kept = tt
ends_told old a b w s s2 (TooManyDeletes side gone all) ends later kept = tt
ends_told old a b w s s2 (AllChanged side all) ends later kept = tt
ends_told old a b w s s2 (NameTooLong side path) ends later kept = tt
ends_told old a b w s s2 (ListingTooLong side bytes) ends later kept = tt
ends_told old a b w s s2 (OutOfSync path one two) ends later kept = tt
ends_told old a b w s s2 (Moved side path listed read) ends later kept = tt
ends_told old a b w s s2 (SinkFault false) ends later kept = rose_within _ _ _ _ (le_same old.sink) later ends
ends_told old a b w s s2 (SinkFault true) ends later kept = (rose_within _ _ _ _ (le_same old.sink) later ends.0, ends.1, ends.2, ends.3)
ends_told old a b w s s2 LockLeft ends later kept = ends
ends_told old a b w s s2 (FoldersLeft cause) ends later kept = absurd ends
ends_told old a b w s s2 (KeepFault side) ends later kept = absurd ends
ends_told old a b w s s2 (Checked differ) ends later kept = absurd ends
ends_told old a b w s s2 NotBuilt ends later kept = tt
ends_told old a b w s s2 OutOfMemory ends later kept = tt
