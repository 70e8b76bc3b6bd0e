-- How the program ends, by what its words ask for.
use Rattle.std.specs.Prelude.{◌≡◌, ◌⊎◌, ⊤, Result, Ok, Err}
use Rattle.bisync_opts.specs.declared.faults.UsageKind.{UsageKind}
use Rattle.bisync_report.specs.declared.ends.End.{End}
use Rattle.bisync_report.specs.declared.ends.End.TheVariants.{Usage, NotBuilt, OutOfMemory}
use Rattle.bisync_cli.specs.declared.tasks.Task.{Task}
use Rattle.bisync_cli.specs.declared.tasks.Task.TheVariants.{Run, NotBuilt as NoTask}

-- no refusal of words is the end of a run
abbrev pub IsRunEnd : End → Type 0
IsRunEnd (Usage kind) = ⊥
IsRunEnd NotBuilt = ⊥
IsRunEnd end = ⊤

-- words are refused, or ask for what isn't built, exactly where that is the end; memory may be refused
abbrev pub EndsBy : Result Task UsageKind → End → Type 0
EndsBy (Err kind) end = (end ≡ Usage kind) ⊎ (end ≡ OutOfMemory)
EndsBy (Ok NoTask) end = (end ≡ NotBuilt) ⊎ (end ≡ OutOfMemory)
EndsBy (Ok (Run opts)) end = IsRunEnd end
