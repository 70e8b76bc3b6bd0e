-- What the answers of a run's start say.
use Rattle.std.specs.Prelude.{ℕ, List, Option, Result, Ok, Err, ⊤}
use Rattle.bisync_tree.specs.Rows.{Rows, look}
use Rattle.bisync_tree.specs.Same.{Agree}
use Rattle.bisync_tree.specs.declared.entries.Compare.{Compare}
use Rattle.bisync_tree.specs.declared.options.Limits.{Limits}
use Rattle.bisync_model.specs.Trees.{by_side}
use Rattle.bisync_device.specs.WorkFolder.{WorkFolder}
use Rattle.bisync_opts.specs.declared.options.Opts.{Opts}
use Rattle.bisync_plan.specs.Faults.{IsFirstApart}
use Rattle.bisync_report.specs.declared.ends.End.{End}
use Rattle.bisync_report.specs.declared.ends.End.TheVariants.{InSync, WorkFault, ListingsDiffer, OutOfMemory}
use Rattle.bisync_run.specs.Starts.{IsStartRefusal}

-- why a run doesn't start: a call of the work folder failed, memory was refused, or a refusal comes
abbrev pub IsStartAnswer : Opts → Limits → WorkFolder → Option (List ℕ) → End → Type 0
IsStartAnswer opts limits f digest WorkFault = ⊤
IsStartAnswer opts limits f digest OutOfMemory = ⊤
IsStartAnswer opts limits f digest end = IsStartRefusal opts limits f digest end

-- what comparing two listings answers
abbrev pub ComparesBase : Compare → Rows → Rows → Result End End → Type 0
ComparesBase compare one two (Ok InSync) = Agree compare (look one) (look two)
ComparesBase compare one two (Err (ListingsDiffer p first second)) = IsFirstApart compare (by_side (look one) (look two)) p first second
ComparesBase compare one two (Err OutOfMemory) = ⊤
ComparesBase compare one two result = ⊥
