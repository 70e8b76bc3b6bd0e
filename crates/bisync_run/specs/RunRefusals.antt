-- The refusals of a whole run, those before its lock among them. The order is this project's own.
use Rattle.std.specs.Prelude.{◌⊎◌, ℕ, ℤ, List, Option}
use Rattle.bisync_tree.specs.declared.options.Limits.{Limits}
use Rattle.bisync_tree.specs.declared.options.Prefer.{Prefer}
use Rattle.bisync_device.specs.WorkFolder.{WorkFolder}
use Rattle.bisync_opts.specs.declared.options.Opts.{Opts}
use Rattle.bisync_work.specs.Locks.{Blocks, IsFree}
use Rattle.bisync_report.specs.declared.ends.End.{End}
use Rattle.bisync_report.specs.declared.ends.End.TheVariants.{NoFilters, BadRule, Locked}
use Rattle.bisync_run.specs.Entering.{HasSomeRules}
use Rattle.bisync_run.specs.FilterRules.{LacksFilters, HasNoRuleAt}
use Rattle.bisync_run.specs.OrdinaryRefusals.{IsOrdinaryRefusal, HasNoOrdinaryRefusal}
use Rattle.bisync_run.specs.ResyncRefusals.{IsResyncRefusal, HasNoResyncRefusal}
use Rattle.bisync_run.specs.ResyncRuns.{Matter, sides_in}
use Rattle.bisync_run.specs.Untouched.{Remotes}

-- the refusals of a run that asks for its lock at this moment
abbrev pub IsEntryRefusal : Option (List ℕ) → WorkFolder → ℤ → End → Type 0
IsEntryRefusal name f moment NoFilters = LacksFilters name f.filters
IsEntryRefusal name f moment (BadRule line) = HasNoRuleAt name line f.filters
IsEntryRefusal name f moment (Locked until) = HasSomeRules name f × Blocks moment until f.lock
IsEntryRefusal name f moment end = ⊥

-- # An ordinary run

-- a refusal of it: before the lock, or with it
abbrev pub RefusesRun : Opts → Limits → WorkFolder → Remotes → ℤ → End → Type 0
RefusesRun opts limits f start moment end =
    IsEntryRefusal opts.filters f moment end
    ⊎ (IsFree moment f.lock × ((m : Matter opts f start) × IsOrdinaryRefusal opts limits f (sides_in m) m.digest end))

-- nothing refuses it
abbrev pub LetsRun : Opts → Limits → WorkFolder → Remotes → ℤ → Type 0
LetsRun opts limits f start moment = IsFree moment f.lock × ((m : Matter opts f start) × HasNoOrdinaryRefusal opts limits f (sides_in m) m.digest)

-- # A resync

abbrev pub RefusesResync : Prefer → Opts → Limits → WorkFolder → Remotes → ℤ → End → Type 0
RefusesResync mode opts limits f start moment end =
    IsEntryRefusal opts.filters f moment end
    ⊎ (IsFree moment f.lock × ((m : Matter opts f start) × IsResyncRefusal mode limits f (sides_in m) end))

abbrev pub LetsResync : Prefer → Opts → Limits → WorkFolder → Remotes → ℤ → Type 0
LetsResync mode opts limits f start moment = IsFree moment f.lock × ((m : Matter opts f start) × HasNoResyncRefusal mode limits f (sides_in m))
