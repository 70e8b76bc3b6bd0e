-- What the steps of a resync's plan leave.
use Rattle.std.proofs.Common.{◌≡◌, ◌⊎◌, ◌∙◌, ◌+◌, ap, refl, sym, subst, inl, inr, Bool, List, ℕ, take, sum_by}
use Rattle.bisync_tree.specs.Rows.{Rows, listing_of}
use Rattle.bisync_tree.specs.declared.sides.Side.{Side}
use Rattle.bisync_tree.specs.declared.sides.Side.TheVariants.{One, Two}
use Rattle.bisync_tree.specs.declared.entries.Compare.{Compare}
use Rattle.bisync_tree.specs.declared.options.Prefer.{Prefer}
use Rattle.bisync_tree.specs.declared.steps.Step.{Step}
use Rattle.bisync_filter.specs.declared.rule_lists.Rule.{Rule}
use Rattle.bisync_model.specs.Trees.{SameTrees, by_side}
use Rattle.bisync_model.specs.Effects.{after}
use Rattle.bisync_model.specs.Changes.{changes_of}
use Rattle.bisync_model.specs.Between.{IsMixOf}
use Rattle.bisync_model.specs.Finds.{EachFindsFile}
use Rattle.bisync_model.specs.Runs.{ArePaths, IsResync}
use Rattle.bisync_model.specs.Resync.{resync_plan, resync_entry}
use Rattle.bisync_model.proofs.ViewOfTrees.{resync_listed as resync_of_trees}
use Rattle.bisync_model.proofs.ResyncCopies.{resync_run, resync_reaches, resync_between, resync_listed}
use Rattle.bisync_model.proofs.CopiesFindFiles.{resync_finds}
use Rattle.bisync_model.proofs.CopyChanges.{resync_count}
use Rattle.bisync_plan.specs.Plans.{IsResyncOf, ListsTrees, header_of}
use Rattle.bisync_plan.specs.declared.plans.Plan.{Plan}
use Rattle.bisync_plan.proofs.ListedOutcomes.{plan_lists, resync_filtered}
use Rattle.bisync_device.specs.Remote.{RemoteState}
use Rattle.bisync_transfer.specs.StepTrees.{AreDone, trees_in}
use Rattle.bisync_listing.specs.declared.headers.Header.{Header}
use Rattle.bisync_work.specs.Base.{Base}
use Rattle.bisync_run.specs.Planned.{IsResyncOver, with_trees}
use Rattle.bisync_run.specs.Resyncs.{base_of_trees, resync_changes}
use Rattle.bisync_run.specs.ResyncWriting.{next_base}
use Rattle.bisync_run.specs.Sides.{Sides, sides_of, start_of, resync_known, resync_paths, resync_end}
use Rattle.bisync_run.specs.Stepping.{IsPartDone, FindsAll}
use Rattle.bisync_run.specs.Untouched.{Remotes}
use Rattle.bisync_run.specs.declared.prepared.Prepared.{Prepared}
use Rattle.bisync_run.proofs.DoneSteps.{own_trees}

abbrev pub base_with : Header → Rows → Rows → Base
base_with header one two = record { header = header; one = one; two = two }

module _ (mode : Prefer) (s : Sides) where
  pub is_resync : IsResync (resync_known mode s) (start_of s) (resync_paths s)
  is_resync = resync_of_trees mode s.compare s.passes s.window1 s.window2 s.one s.two

  paths_are : ArePaths (resync_known mode s) (resync_paths s)
  paths_are = is_resync.through

  pub reached : SameTrees (after (resync_known mode s).policy.window (resync_plan (resync_known mode s) (resync_paths s)) (start_of s)) (resync_end mode s)
  reached = resync_reaches (resync_run (resync_known mode s) (start_of s) is_resync.listed) (resync_paths s) (record { rising = paths_are.rising; covering = paths_are.covering })

  pub mixed : (k : ℕ) → IsMixOf (start_of s) (resync_end mode s) (after (resync_known mode s).policy.window (take k (resync_plan (resync_known mode s) (resync_paths s))) (start_of s))
  mixed k = resync_between (resync_run (resync_known mode s) (start_of s) is_resync.listed) (resync_paths s) (record { rising = paths_are.rising; covering = paths_are.covering }) k

  pub finds : EachFindsFile (resync_known mode s).policy (resync_plan (resync_known mode s) (resync_paths s)) (start_of s)
  finds = resync_finds (resync_run (resync_known mode s) (start_of s) is_resync.listed) (resync_paths s) (record { rising = paths_are.rising; covering = paths_are.covering })

  pub counted : (side : Side) → sum_by (changes_of side) (resync_plan (resync_known mode s) (resync_paths s)) ≡ resync_changes mode s side
  counted side = resync_count (resync_run (resync_known mode s) (start_of s) is_resync.listed) side (resync_paths s)

-- each step finds its file, in trees of which a side that tells has its own
pub over_finds : (tells : Side → Bool) (mode : Prefer) (compare : Compare) (rules : List Rule) (a b : RemoteState) (made : Plan)
    → IsResyncOver tells mode (sides_of compare rules a b) made → FindsAll tells made.steps.items (by_side a b)
over_finds tells mode compare rules a b made x =
    let over = with_trees (sides_of compare rules a b) x.one x.two in
    record {
      policy = (resync_known mode over).policy;
      trees = start_of over;
      windows = λ side. refl;
      own = own_trees tells a b x.one x.two x.own1 x.own2;
      finds = subst (λ (l : List Step). EachFindsFile (resync_known mode over).policy l (start_of over)) (sym x.plan.steps) (finds mode over);
    }

module _ (mode : Prefer) (compare : Compare) (rules : List Rule) (a b : RemoteState) (prepared : Prepared)
    (plan : IsResyncOf (resync_known mode (sides_of compare rules a b)) (resync_paths (sides_of compare rules a b)) prepared.plan) where
  abbrev s : Sides
  s = sides_of compare rules a b

  pub part_mixed : (now : Remotes) → IsPartDone prepared.plan.steps.items (by_side a b) now → IsMixOf (start_of s) (resync_end mode s) (trees_in now)
  part_mixed now part side p =
      let there = part.done.trees side p ∙ ap (λ (l : List Step). after (resync_known mode s).policy.window (take part.count l) (start_of s) side p) plan.steps in
      either there (mixed mode s part.count side p)
    where
      either : {T : Type 0} {x y u v : T} → x ≡ y → (y ≡ u) ⊎ (y ≡ v) → (x ≡ u) ⊎ (x ≡ v)
      either e (inl l) = inl (e ∙ l)
      either e (inr r) = inr (e ∙ r)

  module _ (now : Remotes) (done : AreDone prepared.plan.steps.items (by_side a b) now) where
    pub all_done : SameTrees (trees_in now) (resync_end mode s)
    all_done side p = done.trees side p ∙ ap (λ (l : List Step). after (resync_known mode s).policy.window l (start_of s) side p) plan.steps ∙ reached mode s side p

    pub all_counted : (side : Side) → (now side).changes ≡ (by_side a b side).changes + resync_changes mode s side
    all_counted side =
        done.changes side
        ∙ ap (λ (l : List Step). (by_side a b side).changes + sum_by (changes_of side) l) plan.steps
        ∙ ap (λ (n : ℕ). (by_side a b side).changes + n) (counted mode s side)

    listed : ListsTrees (resync_known mode s).policy (now One).tree (now Two).tree prepared.plan
    listed = plan_lists (resync_known mode s).policy (resync_entry (resync_known mode s)) (resync_end mode s)
        (after (resync_known mode s).policy.window prepared.plan.steps.items (start_of s)) prepared.plan (now One).tree (now Two).tree
        (resync_listed (resync_known mode s) (start_of s) (is_resync mode s).listed) (resync_filtered (resync_known mode s)) plan.finals done.trees
        (λ side p. ap (λ (l : List Step). after (resync_known mode s).policy.window l (start_of s) side p) plan.steps ∙ reached mode s side p)

    pub next_is : prepared.compare ≡ s.compare → next_base prepared ≡ base_of_trees prepared.stamp s (now One).tree (now Two).tree
    next_is same =
        ap (λ (c : Compare). base_with (header_of prepared.stamp c) prepared.plan.final1 prepared.plan.final2) same
        ∙ ap (λ (l : Rows). base_with (header_of prepared.stamp s.compare) l prepared.plan.final2) listed.one_is
        ∙ ap (λ (l : Rows). base_with (header_of prepared.stamp s.compare) (listing_of s.compare s.passes (now One).tree) l) listed.two_is
