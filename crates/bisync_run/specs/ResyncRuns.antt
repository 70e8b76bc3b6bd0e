-- What a run that is a resync promises, over the state at its entry and the state at its return, whatever call failed.
use Rattle.std.specs.Prelude.{◌≡◌, ◌⊎◌, ◌++◌, ℕ, ℤ, List, Option, Bool, IsTrue, true, false}
use Rattle.bisync_tree.specs.declared.sides.Side.TheVariants.{One, Two}
use Rattle.bisync_tree.specs.declared.options.Limits.{Limits}
use Rattle.bisync_tree.specs.declared.options.Prefer.{Prefer}
use Rattle.bisync_filter.specs.declared.rule_lists.Rule.{Rule}
use Rattle.bisync_opts.specs.declared.options.Opts.{Opts}
use Rattle.bisync_device.specs.WorkFolder.{Absent, WorkFolder}
use Rattle.bisync_work.specs.Base.{Base, IsBase, HasNoBase}
use Rattle.bisync_work.specs.Locks.{IsFree}
use Rattle.bisync_report.specs.declared.ends.End.{End}
use Rattle.bisync_report.specs.declared.ends.End.TheVariants.{OutOfMemory}
use Rattle.bisync_run.specs.CarryingOut.{AreSetAside, but_carried}
use Rattle.bisync_run.specs.EndKinds.{is_after_good, is_sink_fault, is_unlocked, may_tell_plan}
use Rattle.bisync_run.specs.Entering.{AtMoment, IsEntryEnd}
use Rattle.bisync_run.specs.FilterRules.{AreRulesOf}
use Rattle.bisync_run.specs.HeldResyncs.{IsGoodEndOf}
use Rattle.bisync_run.specs.KeptNames.{FellBefore, KeepsOwn}
use Rattle.bisync_model.specs.Between.{IsMixOf}
use Rattle.bisync_model.specs.Resync.{resync_plan}
use Rattle.bisync_transfer.specs.StepTrees.{trees_in}
use Rattle.bisync_run.specs.Resyncs.{HasOutcome, IsMadeAnew, IsResynced, resync_lines}
use Rattle.bisync_run.specs.ResyncRefusals.{AnswersResync, HasNoResyncRefusal}
use Rattle.bisync_run.specs.Sides.{Sides, resync_end, resync_known, resync_paths, sides_of, start_of}
use Rattle.bisync_run.specs.Stepping.{IsPartDone}
use Rattle.bisync_run.specs.Untouched.{Remotes, AreUntouched}

-- the filter rules that apply to a run that begins with this folder, and what both sides are by them
pub record Matter (opts : Opts) (f : WorkFolder) (start : Remotes) : Type 0 where
  pub rules : List Rule
  pub digest : Option (List ℕ)
  pub are : AreRulesOf opts.filters f.filters rules digest

abbrev pub sides_in : {opts : Opts} {f : WorkFolder} {start : Remotes} → Matter opts f start → Sides
sides_in {opts = opts} {start = start} m = sides_of opts.compare m.rules (start One) (start Two)

-- # The answer

-- What each end says: a refusal comes where its condition holds and none before it does, and the good end where none
-- does. That a device failed is told by its count. A lock blocks, or doesn't, at the moment that the clock tells, or at some
-- moment where it tells none.
abbrev pub AnswersRun : Prefer → Opts → Limits → WorkFolder → Remotes → Bool → ℤ → End → Type 0
AnswersRun mode opts limits f start told moment end =
    IsEntryEnd opts.filters f told moment end
    ⊎ (AtMoment told moment (λ now. IsFree now f.lock) × ((m : Matter opts f start) × AnswersResync mode limits f (sides_in m) end))

-- nothing refused it
abbrev pub HasNoRefusal : Prefer → Opts → Limits → WorkFolder → Remotes → Bool → ℤ → Type 0
HasNoRefusal mode opts limits f start told moment =
    AtMoment told moment (λ now. IsFree now f.lock) × ((m : Matter opts f start) × HasNoResyncRefusal mode limits f (sides_in m))

-- # What is left

-- The base is the one before, and no side was touched; or there is none; or it was made anew, of the trees that the resync is
-- to leave.
abbrev pub LeavesBaseOf : Prefer → Opts → Limits → WorkFolder → Remotes → WorkFolder → Remotes → Type 0
LeavesBaseOf mode opts limits f start g now =
    (base : Option Base) → IsBase limits.listing f base
    → (IsBase limits.listing g base × AreUntouched start now)
    ⊎ (HasNoBase limits.listing g
    ⊎ ((m : Matter opts f start) × IsMadeAnew mode limits f (sides_in m) g now))

-- No side was touched, and no name but the lock and those that fall; or nothing refused the resync, and each side has at each
-- path what it had, or what it is to have, and the first of its steps are done and counted.
abbrev pub LeavesTreesOf : Prefer → Opts → Limits → WorkFolder → Remotes → Bool → ℤ → End → WorkFolder → Remotes → Type 0
LeavesTreesOf mode opts limits f start told moment end g now =
    (AreUntouched start now × KeepsOwn opts end f g)
    ⊎ (AtMoment told moment (λ now. IsFree now f.lock)
    × ((m : Matter opts f start) × HasNoResyncRefusal mode limits f (sides_in m) × IsMixOf (start_of (sides_in m)) (resync_end mode (sides_in m)) (trees_in now)
    × IsPartDone (resync_plan (resync_known mode (sides_in m)) (resync_paths (sides_in m))) start now))

-- No side was touched; or each has at each path what it had, or what it is to have, by the rules.
abbrev pub LeavesMixOf : Prefer → Opts → WorkFolder → Remotes → Remotes → Type 0
LeavesMixOf mode opts f start now = AreUntouched start now ⊎ ((m : Matter opts f start) × IsMixOf (start_of (sides_in m)) (resync_end mode (sides_in m)) (trees_in now))

-- Both trees are what the resync is to leave, by the rules, and the changes are counted.
abbrev pub HasOutcomeOf : Prefer → Opts → WorkFolder → Remotes → Remotes → Type 0
HasOutcomeOf mode opts f start now = (m : Matter opts f start) × HasOutcome mode (sides_in m) start now

-- The resync was done.
abbrev pub IsResyncedBy : Prefer → Opts → Limits → WorkFolder → Remotes → WorkFolder → Remotes → Type 0
IsResyncedBy mode opts limits f start g now = (m : Matter opts f start) × IsResynced mode limits f (sides_in m) m.digest start g now

-- The names besides the base, where a resync was done.
abbrev pub AreSetAsideBy : Opts → WorkFolder → WorkFolder → Type 0
AreSetAsideBy opts f g = (rules : List Rule) × (digest : Option (List ℕ)) × AreRulesOf opts.filters f.filters rules digest × AreSetAside digest f g

-- a good end is that of a dry run, or tells the numbers of changes
abbrev pub HasNumbers : Prefer → Opts → WorkFolder → Remotes → End → Type 0
HasNumbers mode opts f start end = (m : Matter opts f start) × IsGoodEndOf opts.dry_run mode (sides_in m) end

-- all but the names of listings, the stored digest and the lock; those of the listings that fell
abbrev pub but_run : WorkFolder → WorkFolder
but_run f = but_carried f

-- # The report

-- nothing refused the resync, as a work folder that tells has it; the lines of the plan, and then this
abbrev pub TellsPlanAnd : Prefer → Opts → Limits → Bool → WorkFolder → Remotes → List ℕ → List ℕ → List ℕ → Type 0
TellsPlanAnd mode opts limits tells f start before last after =
    (m : Matter opts f start) × (IsTrue tells → HasNoResyncRefusal mode limits f (sides_in m)) × (after ≡ (before ++ resync_lines mode (sides_in m)) ++ last)

-- What a run with this end told, where the sink didn't fail, and the last of it. A good end, or a lock that could not be
-- removed after one, tells the lines of the plan first. Every other end tells nothing before it, and touched no side and, as a
-- work folder that tells has it, no name but the lock and those that fall; or it tells the lines of the plan first, where the
-- run may have made changes, after the listings fell.
abbrev pub TellsRun : Prefer → Opts → Limits → Bool → WorkFolder → Remotes → WorkFolder → Remotes → List ℕ → List ℕ → List ℕ → End → Type 0
TellsRun mode opts limits tells f start g now before last after end =
    (is_sink_fault end ≡ true)
    ⊎ (((is_after_good end ≡ false) × (after ≡ before ++ last) × AreUntouched start now × (IsTrue tells → KeepsOwn opts end f g))
    ⊎ ((may_tell_plan end ≡ true) × (is_after_good end ≡ false → opts.dry_run ≡ false) × (IsTrue tells → FellBefore opts end f g) × TellsPlanAnd mode opts limits tells f start before last after))

-- # The lock

-- What of the lock a run leaves in which no call of the work folder failed: what was there, where it wasn't taken; else nothing,
-- or, where memory was refused, what was there.
abbrev pub LeavesLock : End → WorkFolder → WorkFolder → Type 0
LeavesLock end f g =
    ((is_unlocked end ≡ true) × (g.lock ≡ f.lock))
    ⊎ (((is_unlocked end ≡ false) × (g.lock ≡ Absent))
    ⊎ ((end ≡ OutOfMemory) × (g.lock ≡ f.lock)))
