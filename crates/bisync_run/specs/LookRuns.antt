-- What looking alone promises: an ordinary run up to its plan, whose lock is taken and freed. The rules are this project's own.
use Rattle.std.specs.Prelude.{◌≡◌, ◌⊎◌, ◌≤◌, ℕ, ℤ, List, Bool, IsTrue, Option, Result, Ok, Err}
use Rattle.bisync_tree.specs.Ranges.{ComparesSome}
use Rattle.bisync_tree.specs.Walk.{listings_of, paths_of}
use Rattle.bisync_tree.specs.declared.windows.Window.{Window}
use Rattle.bisync_tree.specs.declared.options.Limits.{Limits}
use Rattle.bisync_filter.specs.Passing.{rules_pass}
use Rattle.bisync_filter.specs.declared.rule_lists.Rule.{Rule}
use Rattle.bisync_model.specs.Views.{known_of, IsNarrowed, IsComplete}
use Rattle.bisync_plan.specs.Conditions.{HasDigests, KeepsTimes}
use Rattle.bisync_plan.specs.Plans.{IsPlanOf}
use Rattle.bisync_device.specs.Faults.{Rose}
use Rattle.bisync_device.specs.WorkFolder.{Held, WorkFolder}
use Rattle.bisync_opts.specs.declared.options.Opts.{Opts}
use Rattle.bisync_work.specs.declared.bases.Pair.{Pair}
use Rattle.bisync_work.specs.Locks.{IsFree}
use Rattle.bisync_report.specs.declared.ends.End.{End}
use Rattle.bisync_report.specs.declared.ends.End.TheVariants.{WorkFault}
use Rattle.bisync_run.specs.Courses.{IsLook}
use Rattle.bisync_run.specs.Entering.{AtMoment}
use Rattle.bisync_run.specs.FilterRules.{AreRulesOf}
use Rattle.bisync_run.specs.ResyncRuns.{Matter, sides_in}
use Rattle.bisync_run.specs.Sides.{Sides, compare_in}
use Rattle.bisync_run.specs.Untouched.{Remotes}
use Rattle.bisync_run.specs.declared.looks.Look.{Look}

-- # Whatever the devices tell

-- What was seen meets the condition of planning: something is compared, and times no more finely than either side keeps them;
-- the base is narrowed to what passes; the names hold each path that is listed, which passes; and digests are there exactly
-- where they are compared. The plan is made for it.
pub record IsPlannedView (opts : Opts) (rules : List Rule) (window1 window2 : Window) (made : Look) : Type 0 where
  pub compare : made.compare ≡ compare_in opts.compare window1 window2
  pub compares : ComparesSome made.compare
  pub times : KeepsTimes made.compare window1 window2
  pub narrowed : IsNarrowed (rules_pass rules) made.view
  pub complete : IsComplete made.view
  pub digests1 : HasDigests made.compare made.view.now1
  pub digests2 : HasDigests made.compare made.view.now2
  pub plan : IsPlanOf (known_of opts.conflict made.compare (rules_pass rules) window1 window2 made.view) (paths_of (listings_of made.view)) made.plan

-- So it is by some rules. They are those of the filters file, where the work folder tells what it holds.
pub record IsPlannedLook (opts : Opts) (told : Bool) (filters : Held) (window1 window2 : Window) (made : Look) : Type 0 where
  pub rules : List Rule
  pub digest : Option (List ℕ)
  pub are : IsTrue told → AreRulesOf opts.filters filters rules digest
  pub planned : IsPlannedView opts rules window1 window2 made

-- # On devices that tell what they hold

-- what was looked at and planned is the course of the run, from its base and with its new stamp
abbrev pub IsLookFrom : Opts → Limits → WorkFolder → Sides → Option (List ℕ) → Look → Type 0
IsLookFrom opts limits f s digest made = (stamp : ℕ) × (pair : Pair) × IsLook opts limits f s digest stamp pair made

-- So it is of the folder and the trees at entry, where no lock blocked.
abbrev pub IsLookOf : Opts → Limits → WorkFolder → Remotes → Bool → ℤ → Look → Type 0
IsLookOf opts limits f start told moment made =
    AtMoment told moment (λ now. IsFree now f.lock) × ((m : Matter opts f start) × IsLookFrom opts limits f (sides_in m) m.digest made)

-- # Inside this crate

-- a refusal stays the answer; a look stays, or the lock could not be removed
abbrev pub FreesWith : Result Look End → Result Look End → Type 0
FreesWith (Ok made) result = (result ≡ Ok made) ⊎ (result ≡ Err WorkFault)
FreesWith (Err refusal) result = result ≡ Err refusal

-- the count of the work folder stays after a look, and rose where the lock could not be removed
abbrev pub CountsFree : Result Look End → Result Look End → ℕ → ℕ → Type 0
CountsFree (Ok made) result before now = ((result ≡ Ok made) × (now ≡ before)) ⊎ ((result ≡ Err WorkFault) × Rose before now)
CountsFree (Err refusal) result before now = before ≤ now
