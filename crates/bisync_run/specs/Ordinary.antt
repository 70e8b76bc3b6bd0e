-- What an ordinary run leaves, at whatever moment it ends. The trees, the base and the report are this project's own.
use Rattle.std.specs.Prelude.{◌≡◌, ◌≢◌, ◌⊎◌, ◌+◌, ◌++◌, ℕ, Bool, List, true, false, Option, Some, Result, Ok, Err}
use Rattle.bisync_tree.specs.declared.sides.Side.{Side}
use Rattle.bisync_tree.specs.declared.sides.Side.TheVariants.{One, Two}
use Rattle.bisync_tree.specs.declared.options.Limits.{Limits}
use Rattle.bisync_model.specs.Trees.{SameTrees}
use Rattle.bisync_model.specs.Between.{IsBetween}
use Rattle.bisync_model.specs.Plan.{plan}
use Rattle.bisync_device.specs.WorkFolder.{Absent, WorkFolder}
use Rattle.bisync_opts.specs.declared.options.CheckSync.TheVariants.{Only}
use Rattle.bisync_opts.specs.declared.options.Opts.{Opts}
use Rattle.bisync_transfer.specs.StepTrees.{trees_in}
use Rattle.bisync_work.specs.declared.bases.Pair.TheVariants.{Current}
use Rattle.bisync_work.specs.Base.{Base, ArePair, HasBaseIn, IsBase, HasNoBase}
use Rattle.bisync_report.specs.declared.ends.End.{End}
use Rattle.bisync_report.specs.declared.ends.End.TheVariants.{Done, DryRun, InSync}
use Rattle.bisync_run.specs.Courses.{Course, course_end, course_changes, course_lines, known_in, paths_through}
use Rattle.bisync_run.specs.EndKinds.{is_sink_fault, may_have_changed}
use Rattle.bisync_run.specs.KeptNames.{StandsSetBack}
use Rattle.bisync_run.specs.Resyncs.{base_of_trees}
use Rattle.bisync_run.specs.Sides.{Sides, start_of}
use Rattle.bisync_run.specs.Stepping.{IsPartDone}
use Rattle.bisync_run.specs.Untouched.{Remotes, AreUntouched}

-- # The base and the trees, whatever call failed

-- Both trees are what the run is to leave, and the base is made of their listings, with the new stamp of the folder f.
pub record IsMadeNext (opts : Opts) (limits : Limits) (f : WorkFolder) (s : Sides) (digest : Option (List ℕ)) (g : WorkFolder) (now : Remotes) : Type 0 where
  pub changing : opts.dry_run ≡ false
  pub course : Course opts limits f s digest
  pub trees : SameTrees (trees_in now) (course_end opts s course.base course.names)
  pub base : IsBase limits.listing g (Some (base_of_trees course.stamp s (now One).tree (now Two).tree))

-- The base is the one before, or it was made of the trees that the run is to leave.
abbrev pub KeepsBaseOrMakesNext : Opts → Limits → WorkFolder → Sides → Option (List ℕ) → WorkFolder → Remotes → Type 0
KeepsBaseOrMakesNext opts limits f s digest g now =
    (base : Option Base) → IsBase limits.listing f base → IsBase limits.listing g base ⊎ IsMadeNext opts limits f s digest g now

-- So it is, or the listings fell.
abbrev pub LeavesOrdinaryBase : Opts → Limits → WorkFolder → Sides → Option (List ℕ) → WorkFolder → Remotes → Type 0
LeavesOrdinaryBase opts limits f s digest g now =
    (base : Option Base) → IsBase limits.listing f base → IsBase limits.listing g base ⊎ (HasNoBase limits.listing g ⊎ IsMadeNext opts limits f s digest g now)

-- Nothing refused the run, it is no dry run, the first of its steps are done and counted, and its trees are between those before
-- and those that it is to leave.
pub record AreOnTheWay (opts : Opts) (limits : Limits) (f : WorkFolder) (s : Sides) (digest : Option (List ℕ)) (start now : Remotes) : Type 0 where
  pub changing : opts.dry_run ≡ false
  pub course : Course opts limits f s digest
  pub part : IsPartDone (plan (known_in opts s course.base) course.names (paths_through s course.base)) start now
  pub between : IsBetween (known_in opts s course.base) (start_of s) course.names (trees_in now)

-- No side and no name was touched, or the trees are on the way.
abbrev pub LeavesOrdinaryTrees : Opts → Limits → WorkFolder → Sides → Option (List ℕ) → Remotes → WorkFolder → Remotes → Type 0
LeavesOrdinaryTrees opts limits f s digest start g now = (AreUntouched start now × (g ≡ f)) ⊎ AreOnTheWay opts limits f s digest start now

-- # A good end

-- all but the listings of a base, the new ones and the lock
abbrev pub but_ordinary : WorkFolder → WorkFolder
but_ordinary f = record f { one = Absent; two = Absent; one_old = Absent; two_old = Absent; one_new = Absent; two_new = Absent; lock = Absent; lock_new = Absent }

-- all but those names and the -err names, over which listings fall
abbrev pub but_ordinary_or_fallen : WorkFolder → WorkFolder
but_ordinary_or_fallen f = record (but_ordinary f) { one_err = Absent; two_err = Absent }

-- No name changes but those of listings and the lock and, where listings may fall, the -err names.
abbrev pub KeepsOrdinaryRest : Bool → WorkFolder → WorkFolder → Type 0
KeepsOrdinaryRest falls f g = (but_ordinary_or_fallen g ≡ but_ordinary_or_fallen f) × (falls ≡ false → but_ordinary g ≡ but_ordinary f)

-- An ordinary run was done. Both trees are what it is to leave, their listings are the base, under the first names, with the
-- new stamp of the folder f; the base before stands under the -old names, all else is as before, and the changes are counted.
pub record IsOrdinaryDone (opts : Opts) (limits : Limits) (f : WorkFolder) (s : Sides) (digest : Option (List ℕ)) (start : Remotes) (g : WorkFolder) (now : Remotes) : Type 0 where
  pub course : Course opts limits f s digest
  pub trees : SameTrees (trees_in now) (course_end opts s course.base course.names)
  pub base : HasBaseIn limits.listing g Current (base_of_trees course.stamp s (now One).tree (now Two).tree)
  pub old : ArePair limits.listing g.one_old g.two_old course.base
  pub one_new : g.one_new ≡ Absent
  pub two_new : g.two_new ≡ Absent
  pub rest : but_ordinary g ≡ but_ordinary f
  pub changes : (side : Side) → (now side).changes ≡ (start side).changes + course_changes opts s course.base side

-- the good end of an ordinary run on devices that tell: that its base agrees, that of a dry run, or the numbers of changes
abbrev pub IsGoodOrdinaryEnd : Opts → Limits → WorkFolder → Sides → Option (List ℕ) → End → Type 0
IsGoodOrdinaryEnd opts limits f s digest InSync = opts.check_sync ≡ Only
IsGoodOrdinaryEnd opts limits f s digest DryRun = (opts.dry_run ≡ true) × (opts.check_sync ≢ Only)
IsGoodOrdinaryEnd opts limits f s digest (Done one two) =
    (opts.dry_run ≡ false) × (opts.check_sync ≢ Only)
    × ((course : Course opts limits f s digest) × (one ≡ course_changes opts s course.base One) × (two ≡ course_changes opts s course.base Two))
IsGoodOrdinaryEnd opts limits f s digest end = ⊥

-- # The report

-- the lines of the run's course were told
pub record AreCourseLines (opts : Opts) (limits : Limits) (f : WorkFolder) (s : Sides) (digest : Option (List ℕ)) (lines : List ℕ) : Type 0 where
  pub course : Course opts limits f s digest
  pub are : lines ≡ course_lines opts s course.base course.names

-- A run that only compared its base told nothing. Any other good end comes after the lines. Every other end tells nothing, and
-- touched no side and no name; or the lines, where the run may have made changes, with the base set back. Of a sink that failed
-- nothing is said here.
abbrev pub TellsCourse : Opts → Limits → WorkFolder → Sides → Option (List ℕ) → Remotes → WorkFolder → Remotes → List ℕ → List ℕ → Result End End → Type 0
TellsCourse opts limits f s digest start g now before after (Ok end) =
    ((opts.check_sync ≡ Only) × (after ≡ before) × AreUntouched start now × (g ≡ f))
    ⊎ ((lines : List ℕ) × AreCourseLines opts limits f s digest lines × (after ≡ before ++ lines))
TellsCourse opts limits f s digest start g now before after (Err end) =
    (is_sink_fault end ≡ true)
    ⊎ (((after ≡ before) × AreUntouched start now × (g ≡ f))
    ⊎ ((may_have_changed end ≡ true) × (opts.dry_run ≡ false) × StandsSetBack limits end f g × ((lines : List ℕ) × AreCourseLines opts limits f s digest lines × (after ≡ before ++ lines))))
