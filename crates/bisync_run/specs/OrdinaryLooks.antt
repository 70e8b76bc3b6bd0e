-- What looking at the sides and planning answers, in an ordinary run.
use Rattle.std.specs.Prelude.{◌≡◌, ◌≢◌, ◌⊎◌, ℕ, List, [], Bool, true, Option, Some, ⊤}
use Rattle.bisync_tree.specs.Rows.{PathBytes, Rows, look, passing}
use Rattle.bisync_tree.specs.Same.{same}
use Rattle.bisync_tree.specs.declared.sides.Side.TheVariants.{One, Two}
use Rattle.bisync_tree.specs.declared.options.Limits.{Limits}
use Rattle.bisync_tree.specs.declared.entries.Compare.{Compare}
use Rattle.bisync_guard.specs.declared.guards.Guard.{Guard}
use Rattle.bisync_guard.specs.declared.guards.Guard.TheVariants as guard
use Rattle.bisync_device.specs.WorkFolder.{WorkFolder}
use Rattle.bisync_plan.specs.Plans.{IsPlanOf, header_of}
use Rattle.bisync_plan.specs.declared.plans.Plan.{Plan}
use Rattle.bisync_work.specs.Base.{Base}
use Rattle.bisync_opts.specs.declared.options.CheckSync.TheVariants.{Only}
use Rattle.bisync_opts.specs.declared.options.Opts.{Opts}
use Rattle.bisync_report.specs.declared.ends.End.{End}
use Rattle.bisync_report.specs.declared.ends.End.TheVariants.{EmptyPrior, RemoteFault, CheckAccess, EmptyCurrent, TooManyDeletes, AllChanged, OutOfSync, OutOfMemory}
use Rattle.bisync_run.specs.Courses.{known_in, paths_through}
use Rattle.bisync_run.specs.OrdinaryRefusals.{IsOrdinaryRefusal}
use Rattle.bisync_run.specs.Sides.{Sides, IsListable}
use Rattle.bisync_run.specs.Starts.{IsStartOf}
use Rattle.bisync_run.specs.declared.starting.Started.{Started}

-- the base that was found, with a header that no plan reads
abbrev pub found_base : Compare → Started → Base
found_base compare started = record { header = header_of started.stamp compare; one = started.one; two = started.two }

-- whatever is told of the work folder, the plan is that of a run from the base that was found
abbrev pub IsPlannedFrom : Opts → Sides → Started → Plan → Type 0
IsPlannedFrom opts s started made = IsPlanOf (known_in opts s (found_base opts.compare started)) (paths_through s (found_base opts.compare started)) made

-- of a run that starts so and doesn't only compare its base
abbrev pub ForStart : Opts → Limits → WorkFolder → Option (List ℕ) → Started → Type 0 → Type 0
ForStart opts limits f digest started Claim = IsStartOf opts limits f digest started → opts.check_sync ≢ Only → Claim

-- these are the passing parts, and neither is empty
pub record IsPriorOf (passes : PathBytes → Bool) (one two first second : Rows) : Type 0 where
  pub one_is : first ≡ passing passes one
  pub two_is : second ≡ passing passes two
  pub some1 : passing passes one ≢ []
  pub some2 : passing passes two ≢ []

-- one of them is, or memory was refused
abbrev pub IsPriorEnd : (PathBytes → Bool) → Rows → Rows → End → Type 0
IsPriorEnd passes one two OutOfMemory = ⊤
IsPriorEnd passes one two (EmptyPrior One) = passing passes one ≡ []
IsPriorEnd passes one two (EmptyPrior Two) = (passing passes one ≢ []) × (passing passes two ≡ [])
IsPriorEnd passes one two end = ⊥

-- both have some
abbrev pub HasPrior : (PathBytes → Bool) → Rows → Rows → Type 0
HasPrior passes one two = (passing passes one ≢ []) × (passing passes two ≢ [])

-- every refusal but the want of memory comes where both have some, but that of the first one that has none
abbrev pub IsPriorAnswer : (PathBytes → Bool) → Rows → Rows → End → Type 0
IsPriorAnswer passes one two OutOfMemory = ⊤
IsPriorAnswer passes one two (EmptyPrior One) = passing passes one ≡ []
IsPriorAnswer passes one two (EmptyPrior Two) = (passing passes one ≢ []) × (passing passes two ≡ [])
IsPriorAnswer passes one two end = HasPrior passes one two

-- the refusal as out of sync comes only where the passing parts don't agree
abbrev pub IsApartAnswer : Compare → (PathBytes → Bool) → Rows → Rows → End → Type 0
IsApartAnswer compare passes one two (OutOfSync p first second) = ((q : PathBytes) → passes q ≡ true → same compare (look one q) (look two q) ≡ true) → ⊥
IsApartAnswer compare passes one two end = ⊤

-- the end of a run that a guard stops
abbrev pub guard_end : Guard → End
guard_end (guard.CheckAccess side path) = CheckAccess side path
guard_end (guard.EmptyCurrent side) = EmptyCurrent side
guard_end (guard.TooManyDeletes side gone all) = TooManyDeletes side gone all
guard_end (guard.AllChanged side all) = AllChanged side all

-- it is that of the first guard, or memory was refused
abbrev pub IsGuardEnd : Option Guard → End → Type 0
IsGuardEnd first end = (end ≡ OutOfMemory) ⊎ ((stop : Guard) × (first ≡ Some stop) × (end ≡ guard_end stop))

-- why a run that started has no plan: a side's device failed, memory was refused, or a refusal comes; that of the second
-- side comes only where the first may be listed
abbrev pub AnswersLook : Opts → Limits → WorkFolder → Sides → Option (List ℕ) → End → Type 0
AnswersLook opts limits f s digest OutOfMemory = ⊤
AnswersLook opts limits f s digest (RemoteFault One) = ⊤
AnswersLook opts limits f s digest (RemoteFault Two) = IsListable limits s.one
AnswersLook opts limits f s digest end = IsOrdinaryRefusal opts limits f s digest end
