-- That both trees agree after a run, and that its base did not where it was refused as out of sync.
use Rattle.std.proofs.Common.{◌⊎◌, ℤ, Bool, IsTrue, Option, subst, sym, inl, inr}
use Rattle.bisync_tree.specs.Rows.{PathBytes}
use Rattle.bisync_tree.specs.declared.entries.Entry.{Entry}
use Rattle.bisync_tree.specs.declared.options.Limits.{Limits}
use Rattle.bisync_tree.specs.declared.options.Prefer.{Prefer}
use Rattle.bisync_tree.specs.declared.sides.Side.TheVariants.{One, Two}
use Rattle.bisync_model.specs.Entries.{AgreeWherePassing, entries_of}
use Rattle.bisync_model.specs.Trees.{Trees}
use Rattle.bisync_model.proofs.TreesOfDevices.{same_is_equal}
use Rattle.bisync_device.specs.WorkFolder.{WorkFolder}
use Rattle.bisync_opts.specs.declared.options.Opts.{Opts}
use Rattle.bisync_report.specs.declared.ends.End.TheVariants.{OutOfSync}
use Rattle.bisync_transfer.specs.StepTrees.{trees_in}
use Rattle.bisync_run.specs.Agreement.{BaseAgrees, EndAgrees, LeavesInSync, LeavesResyncInSync, WasApartBefore}
use Rattle.bisync_run.specs.Courses.{Course, is_checked}
use Rattle.bisync_run.specs.Beginnings.{AnswersBeginningOf}
use Rattle.bisync_run.specs.OrdinaryRuns.{IsDoneBy, policy_in}
use Rattle.bisync_run.specs.ResyncRuns.{IsResyncedBy, Matter, sides_in}
use Rattle.bisync_run.specs.Sides.{resync_known}
use Rattle.bisync_run.specs.Untouched.{Remotes}
use Rattle.bisync_run.proofs.AgreementLaws.{checked_agree, end_agrees, resync_end_agrees}

module _ (opts : Opts) (limits : Limits) (f : WorkFolder) (start : Remotes) where
  agreed : (m : Matter opts f start) (course : Course opts limits f (sides_in m) m.digest) → IsTrue (is_checked opts.check_sync) ⊎ BaseAgrees opts (sides_in m) course.base
      → EndAgrees opts (sides_in m) course.base course.names
  agreed m course (inl checked) = checked_agree opts limits f (sides_in m) m.digest course checked
  agreed m course (inr agrees) = end_agrees opts.compare m.rules (start One) (start Two) opts course.base agrees course.names course.are

  pub in_sync_after : (g : WorkFolder) (now : Remotes) → IsDoneBy opts limits f start g now → LeavesInSync opts limits f start now
  in_sync_after g now done =
      let m = done.0 in
      let course = done.1.course in (
        m,
        course.base,
        (course.pair, course.starts.is),
        λ why. subst (λ (trees : Trees). AgreeWherePassing (policy_in opts (sides_in m)) (entries_of (sides_in m).compare trees)) (sym (same_is_equal (trees_in now) _ done.1.trees)) (agreed m course why),
      )

  pub was_apart : (told : Bool) (moment : ℤ) (p : PathBytes) (one two : Option Entry) → AnswersBeginningOf opts limits f start told moment (OutOfSync p one two) → WasApartBefore opts limits f start
  was_apart told moment p one two (inl entry) = absurd entry
  was_apart told moment p one two (inr (free, (m, x))) = (m, x.begun.base, (x.begun.pair, x.begun.starts.is), x.apart)

pub resync_in_sync_after : (mode : Prefer) (opts : Opts) (limits : Limits) (f : WorkFolder) (start : Remotes) (g : WorkFolder) (now : Remotes)
    → IsResyncedBy mode opts limits f start g now → LeavesResyncInSync mode opts f start now
resync_in_sync_after mode opts limits f start g now done =
    let m = done.0 in (
      m,
      subst (λ (trees : Trees). AgreeWherePassing (resync_known mode (sides_in m)).policy (entries_of (sides_in m).compare trees)) (sym (same_is_equal (trees_in now) _ done.1.trees))
          (resync_end_agrees opts.compare m.rules (start One) (start Two) mode),
    )
