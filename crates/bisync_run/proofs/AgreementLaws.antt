-- What a run leaves agrees where its base does, and what a resync leaves always agrees.
use Rattle.std.proofs.Common.{◌∙◌, ℕ, List, Option, IsTrue, refl, sym}
use Rattle.bisync_tree.specs.Rows.{PathBytes}
use Rattle.bisync_tree.specs.Same.{same, Agree}
use Rattle.bisync_tree.specs.declared.sides.Side.TheVariants.{One, Two}
use Rattle.bisync_tree.specs.declared.entries.Compare.{Compare}
use Rattle.bisync_tree.specs.declared.entries.Entry.{Entry}
use Rattle.bisync_tree.specs.declared.options.Limits.{Limits}
use Rattle.bisync_tree.specs.declared.options.Prefer.{Prefer}
use Rattle.bisync_tree.specs.declared.steps.Given.{Given}
use Rattle.bisync_filter.specs.declared.rule_lists.Rule.{Rule}
use Rattle.bisync_model.specs.Entries.{entries_of, SameWherePassing}
use Rattle.bisync_model.specs.Finals.{final_entry}
use Rattle.bisync_model.specs.Names.{AreNames}
use Rattle.bisync_model.proofs.Agreement.{finals_agree}
use Rattle.bisync_model.proofs.FinalEntries.{final_listed}
use Rattle.bisync_model.proofs.ResyncCopies.{resync_trees_agree}
use Rattle.bisync_plan.specs.Conditions.{KeepsTimes}
use Rattle.bisync_plan.proofs.ListedOutcomes.{kept}
use Rattle.bisync_device.specs.Remote.{RemoteState}
use Rattle.bisync_device.specs.WorkFolder.{WorkFolder}
use Rattle.bisync_opts.specs.declared.options.Opts.{Opts}
use Rattle.bisync_report.specs.declared.ends.End.TheVariants.{OutOfSync}
use Rattle.bisync_work.specs.Base.{Base}
use Rattle.bisync_run.specs.Agreement.{BaseAgrees, EndAgrees, ResyncAgrees}
use Rattle.bisync_run.specs.Courses.{Course, course_end, is_checked, known_in, paths_through}
use Rattle.bisync_run.specs.OrdinaryRefusals.{IsCourseRefusal}
use Rattle.bisync_run.specs.Sides.{Sides, sides_of, start_of, resync_known}
use Rattle.bisync_run.proofs.FirstPlaces.{not_apart}
use Rattle.bisync_run.proofs.MadeAnew.{is_resync}
use Rattle.bisync_run.proofs.OrdinaryMade.{run, named}
use Rattle.bisync_run.proofs.SeenViews.{keeps_times}

-- # From the final listings to the trees

module _ (opts : Opts) (s : Sides) (base : Base) (names : List Given) (are : AreNames (known_in opts s base) (paths_through s base) names) where
  -- the final listings say of each passing path what is there in the end
  listed : SameWherePassing (known_in opts s base).policy (final_entry (known_in opts s base) names) (entries_of s.compare (course_end opts s base names))
  listed = final_listed (run opts s base) names (named opts s base names are)

  trees_agree : Agree s.compare (final_entry (known_in opts s base) names One) (final_entry (known_in opts s base) names Two) → EndAgrees opts s base names
  trees_agree agree p passes = (λ i. same s.compare (sym (listed One p passes) i) (sym (listed Two p passes) i)) ∙ agree p

-- nothing is asked of the base where the new listings were compared
pub checked_agree : (opts : Opts) (limits : Limits) (f : WorkFolder) (s : Sides) (digest : Option (List ℕ)) (course : Course opts limits f s digest)
    → IsTrue (is_checked opts.check_sync) → EndAgrees opts s course.base course.names
checked_agree opts limits f s digest course checked = trees_agree opts s course.base course.names course.are (course.agree checked)

-- # By the coarsest window

module _ (compare : Compare) (rules : List Rule) (a b : RemoteState) where
  abbrev s : Sides
  s = sides_of compare rules a b

  keeps : KeepsTimes s.compare s.window1 s.window2
  keeps = keeps_times compare s.compare a.window b.window s.window1 s.window2 refl refl refl

  pub resync_end_agrees : (mode : Prefer) → ResyncAgrees mode s
  resync_end_agrees mode = resync_trees_agree (resync_known mode s) (start_of s) (is_resync mode s).listed (kept s.compare s.window1 s.window2 keeps)

  module _ (opts : Opts) (base : Base) (agrees : BaseAgrees opts s base) where
    finals : (names : List Given) → Agree s.compare (final_entry (known_in opts s base) names One) (final_entry (known_in opts s base) names Two)
    finals names p = finals_agree (known_in opts s base) (kept s.compare s.window1 s.window2 keeps) names p (agrees p)

    pub end_agrees : (names : List Given) → AreNames (known_in opts s base) (paths_through s base) names → EndAgrees opts s base names
    end_agrees names are = trees_agree opts s base names are (finals names)

    pub not_out_of_sync : (limits : Limits) (f : WorkFolder) (p : PathBytes) (one two : Option Entry) → IsCourseRefusal opts limits f s base (OutOfSync p one two) → ⊥
    not_out_of_sync limits f p one two refused = not_apart s.compare (final_entry (known_in opts s base) refused.why.1.names) p one two refused.why.1.apart.apart (finals refused.why.1.names)
