-- What a run that is no resync promises, over the state at its entry and the state at its return, whatever call failed.
use Rattle.std.specs.Prelude.{◌≡◌, ◌≢◌, ◌⊎◌, ◌++◌, ℕ, ℤ, List, Option, Bool, true, false, option_map}
use Rattle.bisync_tree.specs.Rows.{PathBytes, look}
use Rattle.bisync_tree.specs.declared.options.Limits.{Limits}
use Rattle.bisync_tree.specs.declared.options.Loser.TheVariants.{Delete}
use Rattle.bisync_model.specs.Entries.{Entries}
use Rattle.bisync_model.specs.Policy.{Policy}
use Rattle.bisync_model.specs.Safe.{IsSafe}
use Rattle.bisync_model.specs.Trees.{by_side}
use Rattle.bisync_model.specs.Views.{policy_of}
use Rattle.bisync_device.specs.WorkFolder.{WorkFolder}
use Rattle.bisync_opts.specs.declared.options.CheckSync.TheVariants.{Only}
use Rattle.bisync_opts.specs.declared.options.Opts.{Opts}
use Rattle.bisync_transfer.specs.StepTrees.{trees_in}
use Rattle.bisync_work.specs.Base.{Base, IsBase, HasNoBase}
use Rattle.bisync_work.specs.Locks.{IsFree}
use Rattle.bisync_report.specs.declared.ends.End.{End}
use Rattle.bisync_run.specs.EndKinds.{is_after_good, is_sink_fault, may_tell_plan}
use Rattle.bisync_run.specs.Entering.{AtMoment, IsEntryEnd}
use Rattle.bisync_run.specs.KeptNames.{KeepsOwn, StandsSetBack}
use Rattle.bisync_run.specs.Ordinary.{IsMadeNext, AreOnTheWay, IsOrdinaryDone, IsGoodOrdinaryEnd, AreCourseLines}
use Rattle.bisync_run.specs.OrdinaryRefusals.{AnswersOrdinary, HasNoOrdinaryRefusal}
use Rattle.bisync_run.specs.ResyncRuns.{Matter, sides_in}
use Rattle.bisync_run.specs.Sides.{Sides, start_of}
use Rattle.bisync_run.specs.Untouched.{Remotes, AreUntouched}

-- # The answer

-- What each end says: a refusal comes where its condition holds and none before it does, and the good end where none
-- does. That a device failed is told by its count. A lock blocks, or doesn't, at the moment that the clock tells, or at some
-- moment where it tells none.
abbrev pub AnswersOrdinaryRun : Opts → Limits → WorkFolder → Remotes → Bool → ℤ → End → Type 0
AnswersOrdinaryRun opts limits f start told moment end =
    IsEntryEnd opts.filters f told moment end
    ⊎ (AtMoment told moment (λ now. IsFree now f.lock) × ((m : Matter opts f start) × AnswersOrdinary opts limits f (sides_in m) m.digest end))

-- nothing refused it
abbrev pub IsUnrefused : Opts → Limits → WorkFolder → Remotes → Bool → ℤ → Type 0
IsUnrefused opts limits f start told moment =
    AtMoment told moment (λ now. IsFree now f.lock) × ((m : Matter opts f start) × HasNoOrdinaryRefusal opts limits f (sides_in m) m.digest)

-- # What is left

-- The base was made of the trees that the run is to leave.
abbrev pub IsMadeNextBy : Opts → Limits → WorkFolder → Remotes → WorkFolder → Remotes → Type 0
IsMadeNextBy opts limits f start g now = (m : Matter opts f start) × IsMadeNext opts limits f (sides_in m) m.digest g now

-- The base is the one before, or there is none, or it was made of the trees that the run is to leave.
abbrev pub LeavesOrdinaryBaseOf : Opts → Limits → WorkFolder → Remotes → WorkFolder → Remotes → Type 0
LeavesOrdinaryBaseOf opts limits f start g now =
    (base : Option Base) → IsBase limits.listing f base → IsBase limits.listing g base ⊎ (HasNoBase limits.listing g ⊎ IsMadeNextBy opts limits f start g now)

-- The same of a resilient run or a dry one, in which no listing falls.
abbrev pub KeepsOrdinaryBaseOf : Opts → Limits → WorkFolder → Remotes → WorkFolder → Remotes → Type 0
KeepsOrdinaryBaseOf opts limits f start g now =
    (base : Option Base) → IsBase limits.listing f base → IsBase limits.listing g base ⊎ IsMadeNextBy opts limits f start g now

-- No side was touched, and no name but the lock and those that fall; or nothing refused the run, the first of its steps are done
-- and counted, and the trees are between those before and those that it is to leave.
abbrev pub LeavesOrdinaryTreesOf : Opts → Limits → WorkFolder → Remotes → Bool → ℤ → End → WorkFolder → Remotes → Type 0
LeavesOrdinaryTreesOf opts limits f start told moment end g now =
    (AreUntouched start now × KeepsOwn opts end f g)
    ⊎ (AtMoment told moment (λ now. IsFree now f.lock) × ((m : Matter opts f start) × AreOnTheWay opts limits f (sides_in m) m.digest start now))

-- The run was done.
abbrev pub IsDoneBy : Opts → Limits → WorkFolder → Remotes → WorkFolder → Remotes → Type 0
IsDoneBy opts limits f start g now = (m : Matter opts f start) × IsOrdinaryDone opts limits f (sides_in m) m.digest start g now

-- a good end is the one that the options name, and tells the numbers of changes
abbrev pub HasOrdinaryNumbers : Opts → Limits → WorkFolder → Remotes → End → Type 0
HasOrdinaryNumbers opts limits f start end = (m : Matter opts f start) × IsGoodOrdinaryEnd opts limits f (sides_in m) m.digest end

-- # Nothing is lost

-- what conflicts and comparing go by, with these sides
abbrev pub policy_in : Opts → Sides → Policy
policy_in opts s = policy_of opts.conflict s.compare s.passes s.window1 s.window2

-- the listings of a base, by side and path
abbrev pub entries_in : Option Base → Option Entries
entries_in base = option_map (λ b. by_side (look b.one) (look b.two)) base

-- Each version that was safe is safe, against the base that was and the one that is, unless losers are deleted.
abbrev pub KeepsSafe : Opts → Limits → WorkFolder → Remotes → WorkFolder → Remotes → Type 0
KeepsSafe opts limits f start g now =
    opts.conflict.loser ≢ Delete → (m : Matter opts f start)
    → (before after : Option Base) → IsBase limits.listing f before → IsBase limits.listing g after
    → (p : PathBytes) (bytes : List ℕ)
    → IsSafe (policy_in opts (sides_in m)) (entries_in before) (start_of (sides_in m)) p bytes
    → IsSafe (policy_in opts (sides_in m)) (entries_in after) (trees_in now) p bytes

-- # The report

-- What a run with this end told, where the sink didn't fail, and the last of it. A good end, or a lock that could not be
-- removed after one, tells the lines of its course first, but where only the base was compared. Every other end tells nothing
-- before it, and touched no side and no name but the lock and those that fall; or it tells the lines first, where the run may
-- have made changes, with the base set back.
abbrev pub TellsOrdinaryRun : Opts → Limits → WorkFolder → Remotes → WorkFolder → Remotes → List ℕ → List ℕ → List ℕ → End → Type 0
TellsOrdinaryRun opts limits f start g now before last after end =
    (is_sink_fault end ≡ true)
    ⊎ (((is_after_good end ≡ true → opts.check_sync ≡ Only) × (after ≡ before ++ last) × AreUntouched start now × KeepsOwn opts end f g)
    ⊎ ((may_tell_plan end ≡ true) × (is_after_good end ≡ false → opts.dry_run ≡ false) × StandsSetBack limits end f g × ((m : Matter opts f start) × (lines : List ℕ) × AreCourseLines opts limits f (sides_in m) m.digest lines × (after ≡ (before ++ lines) ++ last))))
