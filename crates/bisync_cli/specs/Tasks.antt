-- What the words ask for.
use Rattle.std.specs.Prelude.{◌≡◌, ℕ, ⊤, IsTrue, Bool, true, false, not, ◌&&◌, ◌||◌, List, [], ◌∷◌, Option, Some, None, Result, Ok, Err, codes, is_some, if◌then◌else◌}
use Rattle.bisync_device.specs.Faults.{Rose}
use Rattle.bisync_tree.specs.declared.options.Prefer.{Prefer}
use Rattle.bisync_opts.specs.Choices.{chosen}
use Rattle.bisync_opts.specs.Options.{options_of}
use Rattle.bisync_opts.specs.Ranges.{IsInRange}
use Rattle.bisync_opts.specs.Reading.{◌>>=◌}
use Rattle.bisync_opts.specs.declared.faults.UsageKind.{UsageKind}
use Rattle.bisync_opts.specs.declared.faults.UsageKind.TheVariants as usage
use Rattle.bisync_opts.specs.declared.options.CheckSync.{CheckSync}
use Rattle.bisync_opts.specs.declared.options.CheckSync.TheVariants.{Always, Never, Only}
use Rattle.bisync_opts.specs.declared.options.Opts.{Opts}
use Rattle.bisync_report.specs.declared.ends.End.{End}
use Rattle.bisync_run.specs.EndKinds.{is_after_good}
use Rattle.bisync_cli.specs.declared.tasks.Command.{Command}
use Rattle.bisync_cli.specs.declared.tasks.Command.TheVariants.{Bisync, Demo, Check}
use Rattle.bisync_cli.specs.declared.tasks.Task.{Task}
use Rattle.bisync_cli.specs.declared.tasks.Task.TheVariants.{Run, NotBuilt}

-- the command that a word names
abbrev pub command_of : List ℕ → Option Command
command_of = chosen ((codes "bisync", Bisync) ∷ (codes "demo", Demo) ∷ (codes "check", Check) ∷ [])

-- a run only compares its base, or is a dry run
abbrev pub only_looks_by : CheckSync → Bool → Bool
only_looks_by Only dry_run = true
only_looks_by Always dry_run = dry_run
only_looks_by Never dry_run = dry_run

abbrev pub only_looks : Opts → Bool
only_looks opts = only_looks_by opts.check_sync opts.dry_run

-- it keeps backups or tracks renames
abbrev pub keeps_or_tracks : Opts → Bool
keeps_or_tracks opts = is_some opts.backup1 || is_some opts.backup2 || opts.track_renames

-- this version makes runs without options on folders, backups and renames; one that only looks makes nothing of them, and a
-- resync nothing of those on backups and renames
abbrev pub is_built : Opts → Bool
is_built opts = only_looks opts || (not (is_some opts.folders) && (is_some opts.resync || not (keeps_or_tracks opts)))

-- the run of these options, where this version makes it
abbrev pub task_of : Opts → Task
task_of opts = if is_built opts then Run opts else NotBuilt

-- what the words after `bisync` ask for, or their refusal
abbrev pub run_in : List (List ℕ) → Result Task UsageKind
run_in words = options_of words >>= λ opts. Ok (task_of opts)

-- what the words after a command ask for
abbrev pub task_behind : Option Command → List (List ℕ) → Result Task UsageKind
task_behind None words = Err usage.Command
task_behind (Some Bisync) words = run_in words
task_behind (Some Demo) words = Ok NotBuilt
task_behind (Some Check) words = Ok NotBuilt

-- what the words ask for, or their refusal
abbrev pub task_in : List (List ℕ) → Result Task UsageKind
task_in [] = Err usage.Command
task_in (first ∷ rest) = task_behind (command_of first) rest

-- the options of a run are in their ranges
abbrev pub IsTaskInRange : Task → Type 0
IsTaskInRange (Run opts) = IsInRange opts
IsTaskInRange NotBuilt = ⊤

-- what is said of the run that words which are read so ask for, with its options
abbrev pub OfTask : Result Task UsageKind → (Opts → Type 0) → Type 0
OfTask (Ok (Run opts)) Says = Says opts
OfTask (Ok NotBuilt) Says = ⊤
OfTask (Err kind) Says = ⊤

-- and of the run that words ask for
abbrev pub OfRun : List (List ℕ) → (Opts → Type 0) → Type 0
OfRun words Says = OfTask (task_in words) Says

-- and where that is no resync
abbrev pub OfOrdinary : List (List ℕ) → (Opts → Type 0) → Type 0
OfOrdinary words Says = OfRun words (λ opts. opts.resync ≡ None → Says opts)

-- and where it is one, by this mode
abbrev pub OfResync : List (List ℕ) → (Opts → Prefer → Type 0) → Type 0
OfResync words Says = OfRun words (λ opts. (mode : Prefer) → opts.resync ≡ Some mode → Says opts mode)

-- what is said where both remotes and the work folder tell what they hold
abbrev pub AllTell : Bool → Bool → Bool → Type 0 → Type 0
AllTell one two work Says = IsTrue one → IsTrue two → IsTrue work → Says

-- it is a good end, or the last line failed or the lock stayed after one
abbrev pub AfterGood : End → Type 0
AfterGood end = is_after_good end ≡ true

-- a count didn't rise
abbrev pub Stood : ℕ → ℕ → Type 0
Stood before now = Rose before now → ⊥

-- whether words that are read so ask for a run
abbrev pub is_run : Result Task UsageKind → Bool
is_run (Ok (Run opts)) = true
is_run (Ok NotBuilt) = false
is_run (Err kind) = false

-- whether that run is resilient
abbrev pub is_resilient_run : Result Task UsageKind → Bool
is_resilient_run (Ok (Run opts)) = opts.resilient
is_resilient_run (Ok NotBuilt) = false
is_resilient_run (Err kind) = false

abbrev pub asks_run : List (List ℕ) → Bool
asks_run words = is_run (task_in words)

abbrev pub is_resilient : List (List ℕ) → Bool
is_resilient words = is_resilient_run (task_in words)
