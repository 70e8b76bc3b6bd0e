-- The first refusal of a resync. The conditions and their order are this project's own.
use Rattle.std.specs.Prelude.{ℕ, ⊤}
use Rattle.bisync_tree.specs.declared.sides.Side.{Side}
use Rattle.bisync_tree.specs.declared.sides.Side.TheVariants.{One, Two}
use Rattle.bisync_tree.specs.declared.options.Limits.{Limits}
use Rattle.bisync_tree.specs.declared.options.Prefer.{Prefer}
use Rattle.bisync_model.specs.Resync.{resync_entry}
use Rattle.bisync_plan.specs.Faults.{IsTooLong, Fits}
use Rattle.bisync_plan.specs.Plans.{header_of}
use Rattle.bisync_device.specs.WorkFolder.{WorkFolder}
use Rattle.bisync_work.specs.Stamps.{IsNewStamp}
use Rattle.bisync_observe.specs.Counting.{IsOver, AreOfTree}
use Rattle.bisync_report.specs.declared.ends.End.{End}
use Rattle.bisync_report.specs.declared.ends.End.TheVariants.{Resynced, DryRun, WorkFault, RemoteFault, TooMany, ListingTooLong, SinkFault, LockLeft, OutOfMemory}
use Rattle.bisync_run.specs.Sides.{Sides, IsListable, resync_known}

-- # With the lock

-- both sides may be listed, and this side's new listing is the first that is too long
pub record HasLongListing (mode : Prefer) (limits : Limits) (f : WorkFolder) (s : Sides) (side : Side) (bytes : ℕ) : Type 0 where
  pub one : IsListable limits s.one
  pub two : IsListable limits s.two
  pub stamp : ℕ
  pub new : IsNewStamp limits.listing f stamp
  pub long : IsTooLong (resync_entry (resync_known mode s)) (header_of stamp s.compare) limits.listing side bytes

-- the refusals of a resync that holds the lock: too many files, or a new listing that is too long; each comes where
-- none before it does
abbrev pub IsResyncRefusal : Prefer → Limits → WorkFolder → Sides → End → Type 0
IsResyncRefusal mode limits f s (TooMany One files bytes) = IsOver limits files bytes × AreOfTree s.one files bytes
IsResyncRefusal mode limits f s (TooMany Two files bytes) = IsListable limits s.one × IsOver limits files bytes × AreOfTree s.two files bytes
IsResyncRefusal mode limits f s (ListingTooLong side bytes) = HasLongListing mode limits f s side bytes
IsResyncRefusal mode limits f s end = ⊥

-- none of them comes
pub record HasNoResyncRefusal (mode : Prefer) (limits : Limits) (f : WorkFolder) (s : Sides) : Type 0 where
  pub one : IsListable limits s.one
  pub two : IsListable limits s.two
  pub stamp : ℕ
  pub new : IsNewStamp limits.listing f stamp
  pub fits1 : Fits (resync_entry (resync_known mode s)) (header_of stamp s.compare) limits.listing One
  pub fits2 : Fits (resync_entry (resync_known mode s)) (header_of stamp s.compare) limits.listing Two

-- what each end of a resync with the lock says of them, on devices that tell what they hold; the second side's device is
-- asked only where the first side may be listed
abbrev pub AnswersResync : Prefer → Limits → WorkFolder → Sides → End → Type 0
AnswersResync mode limits f s WorkFault = ⊤
AnswersResync mode limits f s (RemoteFault One) = ⊤
AnswersResync mode limits f s (RemoteFault Two) = IsListable limits s.one
AnswersResync mode limits f s OutOfMemory = ⊤
AnswersResync mode limits f s (TooMany side files bytes) = IsResyncRefusal mode limits f s (TooMany side files bytes)
AnswersResync mode limits f s (ListingTooLong side bytes) = IsResyncRefusal mode limits f s (ListingTooLong side bytes)
AnswersResync mode limits f s (SinkFault done) = HasNoResyncRefusal mode limits f s
AnswersResync mode limits f s LockLeft = HasNoResyncRefusal mode limits f s
AnswersResync mode limits f s (Resynced one two) = HasNoResyncRefusal mode limits f s
AnswersResync mode limits f s DryRun = HasNoResyncRefusal mode limits f s
AnswersResync mode limits f s end = ⊥
