-- What an ordinary run goes through: its base, what it sees on both sides, the names of its losers, and the new stamp.
use Rattle.std.specs.Prelude.{◌≡◌, ◌≢◌, ◌++◌, ℕ, Bool, true, false, IsTrue, List, [], Option, Some, None, sum_by}
use Rattle.bisync_tree.specs.Rows.{PathBytes, look, passing, paths_in}
use Rattle.bisync_tree.specs.Same.{Agree}
use Rattle.bisync_tree.specs.Walk.{listings_of, paths_of}
use Rattle.bisync_tree.specs.declared.sides.Side.{Side}
use Rattle.bisync_tree.specs.declared.sides.Side.TheVariants.{One, Two}
use Rattle.bisync_tree.specs.declared.options.Limits.{Limits}
use Rattle.bisync_tree.specs.declared.steps.Given.{Given}
use Rattle.bisync_tree.specs.declared.views.View.{View}
use Rattle.bisync_model.specs.Trees.{Trees}
use Rattle.bisync_model.specs.Known.{Known}
use Rattle.bisync_model.specs.Names.{AreNames}
use Rattle.bisync_model.specs.Changes.{changes_at}
use Rattle.bisync_model.specs.Finals.{final_entry}
use Rattle.bisync_model.specs.Outcome.{outcome}
use Rattle.bisync_model.specs.Plan.{plan}
use Rattle.bisync_model.specs.Views.{known_of}
use Rattle.bisync_guard.specs.Order.{first_guard}
use Rattle.bisync_plan.specs.Faults.{Fits}
use Rattle.bisync_plan.specs.Plans.{HasFinals, header_of}
use Rattle.bisync_device.specs.WorkFolder.{WorkFolder}
use Rattle.bisync_opts.specs.declared.options.CheckSync.{CheckSync}
use Rattle.bisync_opts.specs.declared.options.CheckSync.TheVariants.{Always, Never, Only}
use Rattle.bisync_opts.specs.declared.options.Opts.{Opts}
use Rattle.bisync_work.specs.declared.bases.Pair.{Pair}
use Rattle.bisync_work.specs.Base.{Base}
use Rattle.bisync_work.specs.Stamps.{IsNewStamp}
use Rattle.bisync_report.specs.Lines.{changes_text, steps_text}
use Rattle.bisync_run.specs.Sides.{Sides, IsListable, listed1, listed2, start_of}
use Rattle.bisync_run.specs.Starts.{StartsFrom}
use Rattle.bisync_run.specs.declared.looks.Look.{Look}

-- # What it sees

-- the base, its passing part, and what both sides have
abbrev pub view_of : Sides → Base → View
view_of s base = record {
  prior1 = base.one;
  prior2 = base.two;
  base1 = passing s.passes base.one;
  base2 = passing s.passes base.two;
  now1 = listed1 s;
  now2 = listed2 s;
  names1 = paths_in s.one;
  names2 = paths_in s.two;
}

abbrev pub known_in : Opts → Sides → Base → Known
known_in opts s base = known_of opts.conflict s.compare s.passes s.window1 s.window2 (view_of s base)

-- the paths that pass and are in the base or on a side
abbrev pub paths_through : Sides → Base → List PathBytes
paths_through s base = paths_of (listings_of (view_of s base))

-- # What it goes through

-- whether the new listings are compared
abbrev pub is_checked : CheckSync → Bool
is_checked Always = true
is_checked Never = false
is_checked Only = false

-- whether a run only compares its base
abbrev pub is_only : CheckSync → Bool
is_only Always = false
is_only Never = false
is_only Only = true

-- the run is to look at both sides
pub record MayLook (opts : Opts) (s : Sides) (base : Base) : Type 0 where
  pub more : opts.check_sync ≢ Only
  pub prior1 : passing s.passes base.one ≢ []
  pub prior2 : passing s.passes base.two ≢ []

-- and to make its plan
pub record MayPlan (opts : Opts) (limits : Limits) (s : Sides) (base : Base) : Type 0 where
  pub looks : MayLook opts s base
  pub one : IsListable limits s.one
  pub two : IsListable limits s.two
  pub unguarded : first_guard opts.guard s.compare (view_of s base) ≡ None

-- nothing refuses the run: it has its base, the names of its losers and the new stamp, its new listings are within the
-- limit, and where that is checked they agree
pub record Course (opts : Opts) (limits : Limits) (f : WorkFolder) (s : Sides) (digest : Option (List ℕ)) : Type 0 where
  pub pair : Pair
  pub base : Base
  pub starts : StartsFrom opts limits f digest pair base
  pub plans : MayPlan opts limits s base
  pub names : List Given
  pub are : AreNames (known_in opts s base) (paths_through s base) names
  pub stamp : ℕ
  pub new : IsNewStamp limits.listing f stamp
  pub fits1 : Fits (final_entry (known_in opts s base) names) (header_of stamp s.compare) limits.listing One
  pub fits2 : Fits (final_entry (known_in opts s base) names) (header_of stamp s.compare) limits.listing Two
  pub agree : IsTrue (is_checked opts.check_sync) → Agree s.compare (final_entry (known_in opts s base) names One) (final_entry (known_in opts s base) names Two)

-- the listings of the base are the same at every path, and nothing else is asked
pub record IsInSync (opts : Opts) (limits : Limits) (f : WorkFolder) (s : Sides) (digest : Option (List ℕ)) : Type 0 where
  pub pair : Pair
  pub base : Base
  pub starts : StartsFrom opts limits f digest pair base
  pub only : opts.check_sync ≡ Only
  pub agree : Agree s.compare (look base.one) (look base.two)

-- # What it comes to

module _ (opts : Opts) (s : Sides) (base : Base) where
  -- what it leaves on both sides
  abbrev pub course_end : List Given → Trees
  course_end names = outcome (known_in opts s base) (start_of s) names

  -- its changes on a side
  abbrev pub course_changes : Side → ℕ
  course_changes side = sum_by (changes_at (known_in opts s base) side) (paths_through s base)

  -- its lines: what changed since the last good run, and the steps
  abbrev pub course_lines : List Given → List ℕ
  course_lines names = changes_text s.compare (Some (view_of s base)) ++ steps_text (plan (known_in opts s base) names (paths_through s base))

-- # Inside this crate

-- what was looked at and planned is the run's course
pub record IsLook (opts : Opts) (limits : Limits) (f : WorkFolder) (s : Sides) (digest : Option (List ℕ)) (stamp : ℕ) (pair : Pair) (made : Look) : Type 0 where
  pub course : Course opts limits f s digest
  pub pair_is : course.pair ≡ pair
  pub stamp_is : course.stamp ≡ stamp
  pub view : made.view ≡ view_of s course.base
  pub compare : made.compare ≡ s.compare
  pub steps : made.plan.steps.items ≡ plan (known_in opts s course.base) course.names (paths_through s course.base)
  pub finals : HasFinals (final_entry (known_in opts s course.base) course.names) made.plan
