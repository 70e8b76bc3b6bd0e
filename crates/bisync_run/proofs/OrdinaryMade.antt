-- What the steps of an ordinary run's plan leave.
use Rattle.std.proofs.Common.{◌≡◌, ◌∙◌, ◌+◌, ap, refl, sym, subst, Bool, List, ℕ, take, sum_by}
use Rattle.bisync_tree.specs.Rows.{Rows, listing_of}
use Rattle.bisync_tree.specs.Walk.{listings_of}
use Rattle.bisync_tree.specs.declared.sides.Side.{Side}
use Rattle.bisync_tree.specs.declared.sides.Side.TheVariants.{One, Two}
use Rattle.bisync_tree.specs.declared.entries.Compare.{Compare}
use Rattle.bisync_tree.specs.declared.steps.Given.{Given}
use Rattle.bisync_tree.specs.declared.steps.Step.{Step}
use Rattle.bisync_tree.proofs.PassingLemmas.{among-paths_in}
use Rattle.bisync_filter.specs.declared.rule_lists.Rule.{Rule}
use Rattle.bisync_model.specs.Trees.{SameTrees, Trees, by_side}
use Rattle.bisync_model.specs.Known.{AreListed}
use Rattle.bisync_model.specs.Names.{AreNames}
use Rattle.bisync_model.specs.Effects.{after}
use Rattle.bisync_model.specs.Changes.{changes_of}
use Rattle.bisync_model.specs.Between.{IsBetween}
use Rattle.bisync_model.specs.Finals.{final_entry}
use Rattle.bisync_model.specs.Finds.{EachFindsFile}
use Rattle.bisync_model.specs.Plan.{plan}
use Rattle.bisync_model.specs.Runs.{ArePaths}
use Rattle.bisync_model.specs.Views.{IsViewOf}
use Rattle.bisync_model.proofs.FinalEntries.{final_listed}
use Rattle.bisync_model.proofs.ListedRun.{Run}
use Rattle.bisync_model.proofs.NamesInUse.{NamesOk}
use Rattle.bisync_model.proofs.PathsOfWalk.{walk_paths}
use Rattle.bisync_model.proofs.StepChanges.{plan_count}
use Rattle.bisync_model.proofs.StepsFindFiles.{plan_finds}
use Rattle.bisync_model.proofs.TreesOfDevices.{same_is_equal}
use Rattle.bisync_model.proofs.ViewOfTrees.{view_listed}
use Rattle.bisync_model.proofs.WholePlan.{between, covered_by, distinct-rising, given_ok, reaches}
use Rattle.bisync_plan.specs.Plans.{HasFinals, ListsTrees, header_of}
use Rattle.bisync_plan.specs.declared.plans.Plan.{Plan}
use Rattle.bisync_plan.proofs.ListedOutcomes.{final_filtered, plan_lists}
use Rattle.bisync_device.specs.Remote.{RemoteState}
use Rattle.bisync_opts.specs.declared.options.Opts.{Opts}
use Rattle.bisync_transfer.specs.StepTrees.{AreDone, trees_in}
use Rattle.bisync_work.specs.Base.{Base}
use Rattle.bisync_run.specs.Courses.{course_changes, course_end, known_in, paths_through, view_of}
use Rattle.bisync_run.specs.OrdinaryLooks.{found_base}
use Rattle.bisync_run.specs.Planned.{IsPlannedOver, with_trees}
use Rattle.bisync_run.specs.Resyncs.{base_of_trees}
use Rattle.bisync_run.specs.ResyncWriting.{next_base}
use Rattle.bisync_run.specs.Sides.{Sides, sides_of, start_of}
use Rattle.bisync_run.specs.Stepping.{IsPartDone, FindsAll}
use Rattle.bisync_run.specs.Untouched.{Remotes}
use Rattle.bisync_run.specs.declared.prepared.Prepared.{Prepared}
use Rattle.bisync_run.specs.declared.starting.Started.{Started}
use Rattle.bisync_run.proofs.DoneSteps.{own_trees}
use Rattle.bisync_run.proofs.MadeAnew.{base_with}

module _ (opts : Opts) (s : Sides) (base : Base) where
  view_is : IsViewOf s.compare s.passes s.one s.two (view_of s base)
  view_is = record { now1 = refl; now2 = refl; names1 = among-paths_in s.one; names2 = among-paths_in s.two }

  pub listed_now : AreListed (known_in opts s base) (start_of s)
  listed_now = view_listed opts.conflict s.compare s.passes s.window1 s.window2 s.one s.two (view_of s base) view_is

  pub through : ArePaths (known_in opts s base) (paths_through s base)
  through = walk_paths (known_in opts s base) (listings_of (view_of s base)) (λ p. refl) (λ p. refl)

  abbrev pub run : Run
  run = record { known = known_in opts s base; start = start_of s; listed = listed_now }

  module _ (names : List Given) (are : AreNames (known_in opts s base) (paths_through s base) names) where
    pub named : NamesOk run names
    named = given_ok run (paths_through s base) names through are

    abbrev steps : List Step
    steps = plan (known_in opts s base) names (paths_through s base)

    pub reached : SameTrees (after (known_in opts s base).policy.window steps (start_of s)) (course_end opts s base names)
    reached = reaches run names named (paths_through s base) (distinct-rising (paths_through s base) through.rising) (covered_by run (paths_through s base) through)

    pub passed : (k : ℕ) → IsBetween (known_in opts s base) (start_of s) names (after (known_in opts s base).policy.window (take k steps) (start_of s))
    passed = between run names named (paths_through s base) (distinct-rising (paths_through s base) through.rising) (covered_by run (paths_through s base) through)

    pub finds : EachFindsFile (known_in opts s base).policy steps (start_of s)
    finds = plan_finds run names named (paths_through s base) (distinct-rising (paths_through s base) through.rising) (covered_by run (paths_through s base) through)

    pub counted : (side : Side) → sum_by (changes_of side) steps ≡ course_changes opts s base side
    counted side = plan_count run names named (paths_through s base) side

-- each step finds its file, in trees of which a side that tells has its own
pub over_finds : (tells : Side → Bool) (opts : Opts) (rules : List Rule) (a b : RemoteState) (started : Started) (made : Plan)
    → IsPlannedOver tells opts (sides_of opts.compare rules a b) started made → FindsAll tells made.steps.items (by_side a b)
over_finds tells opts rules a b started made x =
    let over = with_trees (sides_of opts.compare rules a b) x.one x.two in
    let base = found_base opts.compare started in
    record {
      policy = (known_in opts over base).policy;
      trees = start_of over;
      windows = λ side. refl;
      own = own_trees tells a b x.one x.two x.own1 x.own2;
      finds = subst (λ (l : List Step). EachFindsFile (known_in opts over base).policy l (start_of over)) (sym x.plan.steps) (finds opts over base x.plan.names x.plan.are);
    }

module _ (opts : Opts) (compare : Compare) (rules : List Rule) (a b : RemoteState) (base : Base) (names : List Given) (prepared : Prepared)
    (are : AreNames (known_in opts (sides_of compare rules a b) base) (paths_through (sides_of compare rules a b) base) names)
    (planned : prepared.plan.steps.items ≡ plan (known_in opts (sides_of compare rules a b) base) names (paths_through (sides_of compare rules a b) base))
    (finals : HasFinals (final_entry (known_in opts (sides_of compare rules a b) base) names) prepared.plan) where
  abbrev s : Sides
  s = sides_of compare rules a b

  pub part_between : (now : Remotes) → IsPartDone prepared.plan.steps.items (by_side a b) now → IsBetween (known_in opts s base) (start_of s) names (trees_in now)
  part_between now part =
      let there : SameTrees (trees_in now) (after (known_in opts s base).policy.window (take part.count (plan (known_in opts s base) names (paths_through s base))) (start_of s)) =
      λ side p. part.done.trees side p ∙ ap (λ (l : List Step). after (known_in opts s base).policy.window (take part.count l) (start_of s) side p) planned in
      subst (λ (t : Trees). IsBetween (known_in opts s base) (start_of s) names t) (sym (same_is_equal _ _ there)) (passed opts s base names are part.count)

  module _ (now : Remotes) (done : AreDone prepared.plan.steps.items (by_side a b) now) where
    leads : (side : Side) (p : List ℕ) → after (known_in opts s base).policy.window prepared.plan.steps.items (start_of s) side p ≡ course_end opts s base names side p
    leads side p = ap (λ (l : List Step). after (known_in opts s base).policy.window l (start_of s) side p) planned ∙ reached opts s base names are side p

    pub all_done : SameTrees (trees_in now) (course_end opts s base names)
    all_done side p = done.trees side p ∙ leads side p

    pub all_counted : (side : Side) → (now side).changes ≡ (by_side a b side).changes + course_changes opts s base side
    all_counted side =
        done.changes side
        ∙ ap (λ (l : List Step). (by_side a b side).changes + sum_by (changes_of side) l) planned
        ∙ ap (λ (n : ℕ). (by_side a b side).changes + n) (counted opts s base names are side)

    listed : ListsTrees (known_in opts s base).policy (now One).tree (now Two).tree prepared.plan
    listed = plan_lists (known_in opts s base).policy (final_entry (known_in opts s base) names) (course_end opts s base names)
        (after (known_in opts s base).policy.window prepared.plan.steps.items (start_of s)) prepared.plan (now One).tree (now Two).tree
        (final_listed (run opts s base) names (named opts s base names are)) (final_filtered (known_in opts s base) names) finals done.trees leads

    pub next_is : prepared.compare ≡ s.compare → next_base prepared ≡ base_of_trees prepared.stamp s (now One).tree (now Two).tree
    next_is same =
        ap (λ (c : Compare). base_with (header_of prepared.stamp c) prepared.plan.final1 prepared.plan.final2) same
        ∙ ap (λ (l : Rows). base_with (header_of prepared.stamp s.compare) l prepared.plan.final2) listed.one_is
        ∙ ap (λ (l : Rows). base_with (header_of prepared.stamp s.compare) (listing_of s.compare s.passes (now One).tree) l) listed.two_is
