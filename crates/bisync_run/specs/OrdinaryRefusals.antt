-- The first refusal of an ordinary run. After "error handling" of rclone's manual page "bisync"; the conditions and their
-- order are this project's own.
use Rattle.std.specs.Prelude.{◌≡◌, ◌≢◌, ◌⊎◌, ℕ, List, [], Option, Some, true, false, ⊤}
use Rattle.bisync_tree.specs.Rows.{look, passing}
use Rattle.bisync_tree.specs.declared.sides.Side.TheVariants.{One, Two}
use Rattle.bisync_tree.specs.declared.options.Limits.{Limits}
use Rattle.bisync_model.specs.Trees.{by_side}
use Rattle.bisync_guard.specs.Order.{first_guard}
use Rattle.bisync_guard.specs.declared.guards.Guard.{Guard}
use Rattle.bisync_guard.specs.declared.guards.Guard.TheVariants as guard
use Rattle.bisync_observe.specs.Counting.{IsOver, AreOfTree}
use Rattle.bisync_plan.specs.Faults.{IsFirstApart, IsFaultOf}
use Rattle.bisync_plan.specs.Plans.{header_of}
use Rattle.bisync_plan.specs.declared.faults.PlanFault.{PlanFault}
use Rattle.bisync_plan.specs.declared.faults.PlanFault.TheVariants as unplanned
use Rattle.bisync_device.specs.WorkFolder.{WorkFolder}
use Rattle.bisync_opts.specs.declared.options.CheckSync.TheVariants.{Only}
use Rattle.bisync_opts.specs.declared.options.Opts.{Opts}
use Rattle.bisync_work.specs.declared.bases.Pair.{Pair}
use Rattle.bisync_work.specs.Base.{Base}
use Rattle.bisync_work.specs.Stamps.{IsNewStamp}
use Rattle.bisync_report.specs.declared.ends.End.{End}
use Rattle.bisync_report.specs.declared.ends.End.TheVariants.{Done, DryRun, InSync, WorkFault, ListingsDiffer, EmptyPrior, RemoteFault, TooMany, CheckAccess, EmptyCurrent, TooManyDeletes, AllChanged, NameTooLong, ListingTooLong, OutOfSync, SinkFault, LockLeft, OutOfMemory}
use Rattle.bisync_run.specs.Sides.{Sides, IsListable}
use Rattle.bisync_run.specs.Starts.{StartsFrom, IsStartRefusal}
use Rattle.bisync_run.specs.Courses.{Course, IsInSync, MayLook, MayPlan, is_checked, known_in, paths_through, view_of}

-- both sides may be listed, and this is the first guard whose condition holds
pub record IsGuarded (opts : Opts) (limits : Limits) (s : Sides) (base : Base) (first : Guard) : Type 0 where
  pub looks : MayLook opts s base
  pub one : IsListable limits s.one
  pub two : IsListable limits s.two
  pub is : first_guard opts.guard s.compare (view_of s base) ≡ Some first

-- no guard stops the run, and this is why it has no plan
pub record IsUnplanned (opts : Opts) (limits : Limits) (f : WorkFolder) (s : Sides) (base : Base) (fault : PlanFault) : Type 0 where
  pub plans : MayPlan opts limits s base
  pub stamp : ℕ
  pub new : IsNewStamp limits.listing f stamp
  pub why : IsFaultOf (known_in opts s base) (paths_through s base) (header_of stamp s.compare) limits.listing (is_checked opts.check_sync) fault

-- the refusals of a run that starts from this base; each comes where none before it does
abbrev pub IsCourseRefusal : Opts → Limits → WorkFolder → Sides → Base → End → Type 0
IsCourseRefusal opts limits f s base (ListingsDiffer p one two) = (opts.check_sync ≡ Only) × IsFirstApart s.compare (by_side (look base.one) (look base.two)) p one two
IsCourseRefusal opts limits f s base (EmptyPrior One) = (opts.check_sync ≢ Only) × (passing s.passes base.one ≡ [])
IsCourseRefusal opts limits f s base (EmptyPrior Two) = (opts.check_sync ≢ Only) × (passing s.passes base.one ≢ []) × (passing s.passes base.two ≡ [])
IsCourseRefusal opts limits f s base (TooMany One files bytes) = MayLook opts s base × IsOver limits files bytes × AreOfTree s.one files bytes
IsCourseRefusal opts limits f s base (TooMany Two files bytes) = MayLook opts s base × IsListable limits s.one × IsOver limits files bytes × AreOfTree s.two files bytes
IsCourseRefusal opts limits f s base (CheckAccess side path) = IsGuarded opts limits s base (guard.CheckAccess side path)
IsCourseRefusal opts limits f s base (EmptyCurrent side) = IsGuarded opts limits s base (guard.EmptyCurrent side)
IsCourseRefusal opts limits f s base (TooManyDeletes side gone all) = IsGuarded opts limits s base (guard.TooManyDeletes side gone all)
IsCourseRefusal opts limits f s base (AllChanged side all) = IsGuarded opts limits s base (guard.AllChanged side all)
IsCourseRefusal opts limits f s base (NameTooLong side path) = IsUnplanned opts limits f s base (unplanned.TooLong side path)
IsCourseRefusal opts limits f s base (ListingTooLong side bytes) = IsUnplanned opts limits f s base (unplanned.ListingTooLong side bytes)
IsCourseRefusal opts limits f s base (OutOfSync p one two) = IsUnplanned opts limits f s base (unplanned.OutOfSync p one two)
IsCourseRefusal opts limits f s base end = ⊥

-- the refusals of an ordinary run that holds the lock: it doesn't start, or it starts from its base and is refused
abbrev pub IsOrdinaryRefusal : Opts → Limits → WorkFolder → Sides → Option (List ℕ) → End → Type 0
IsOrdinaryRefusal opts limits f s digest end =
    IsStartRefusal opts limits f digest end
    ⊎ ((pair : Pair) × (base : Base) × StartsFrom opts limits f digest pair base × IsCourseRefusal opts limits f s base end)

-- none of them comes
abbrev pub HasNoOrdinaryRefusal : Opts → Limits → WorkFolder → Sides → Option (List ℕ) → Type 0
HasNoOrdinaryRefusal opts limits f s digest = Course opts limits f s digest ⊎ IsInSync opts limits f s digest

-- what each end of an ordinary run with the lock says of them, on devices that tell what they hold; the second side's
-- device is asked only where the first side may be listed
abbrev pub AnswersOrdinary : Opts → Limits → WorkFolder → Sides → Option (List ℕ) → End → Type 0
AnswersOrdinary opts limits f s digest WorkFault = ⊤
AnswersOrdinary opts limits f s digest (RemoteFault One) = ⊤
AnswersOrdinary opts limits f s digest (RemoteFault Two) = IsListable limits s.one
AnswersOrdinary opts limits f s digest OutOfMemory = ⊤
AnswersOrdinary opts limits f s digest (SinkFault false) = Course opts limits f s digest
AnswersOrdinary opts limits f s digest (SinkFault true) = HasNoOrdinaryRefusal opts limits f s digest
AnswersOrdinary opts limits f s digest LockLeft = HasNoOrdinaryRefusal opts limits f s digest
AnswersOrdinary opts limits f s digest (Done one two) = Course opts limits f s digest
AnswersOrdinary opts limits f s digest DryRun = Course opts limits f s digest
AnswersOrdinary opts limits f s digest InSync = IsInSync opts limits f s digest
AnswersOrdinary opts limits f s digest end = IsOrdinaryRefusal opts limits f s digest end
