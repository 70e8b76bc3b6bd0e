-- The view that an ordinary run saw meets the condition of planning, whatever its devices tell.
use Rattle.std.proofs.Common.{◌≡◌, ◌∙◌, ap, refl, subst, sym, List}
use Rattle.bisync_tree.specs.Ranges.{ComparesSome}
use Rattle.bisync_tree.specs.Rows.{Rows, look}
use Rattle.bisync_tree.specs.Walk.{listings_of, paths_of}
use Rattle.bisync_tree.specs.declared.entries.Compare.{Compare}
use Rattle.bisync_tree.specs.declared.views.View.{View}
use Rattle.bisync_tree.specs.declared.windows.Window.{Window}
use Rattle.bisync_filter.specs.Passing.{rules_pass}
use Rattle.bisync_filter.specs.declared.rule_lists.Rule.{Rule}
use Rattle.bisync_model.specs.Views.{known_of, IsNarrowed, IsComplete}
use Rattle.bisync_observe.specs.Observing.{HaveDigestsFor}
use Rattle.bisync_opts.specs.declared.options.Opts.{Opts}
use Rattle.bisync_plan.specs.Conditions.{HasDigests}
use Rattle.bisync_plan.specs.Plans.{IsPlanOf}
use Rattle.bisync_plan.specs.declared.plans.Plan.{Plan}
use Rattle.bisync_run.specs.LookRuns.{IsPlannedView}
use Rattle.bisync_run.specs.Sides.{compare_in}
use Rattle.bisync_run.proofs.SeenViews.{keeps_times}

digests_of : (compare : Compare) (rows now : Rows) → rows ≡ now → HaveDigestsFor compare now → HasDigests compare rows
digests_of compare rows now same have = record { digest = λ p e at. sym (have p e (ap (λ (r : Rows). look r p) (sym same) ∙ at)) }

module _ (opts : Opts) (rules : List Rule) (a b window1 window2 : Window) (view : View) (compare : Compare) where
  pub planned_view : (now1 now2 : Rows) (made : Plan) → ComparesSome opts.compare → compare ≡ compare_in opts.compare a b → window1 ≡ a → window2 ≡ b
      → IsNarrowed (rules_pass rules) view → IsComplete view
      → (view.now1 ≡ now1) × (view.now2 ≡ now2) → HaveDigestsFor compare now1 → HaveDigestsFor compare now2
      → IsPlanOf (known_of opts.conflict compare (rules_pass rules) window1 window2 view) (paths_of (listings_of view)) made
      → IsPlannedView opts rules a b (record { view = view; compare = compare; plan = made })
  planned_view now1 now2 made some compared one two narrowed complete now digests1 digests2 plan = record {
    compare = compared;
    compares = subst ComparesSome (sym compared) some;
    times = keeps_times opts.compare compare a b a b compared refl refl;
    narrowed = narrowed;
    complete = complete;
    digests1 = digests_of compare view.now1 now1 now.0 digests1;
    digests2 = digests_of compare view.now2 now2 now.1 digests2;
    plan = subst (λ (x : Window × Window). IsPlanOf (known_of opts.conflict compare (rules_pass rules) x.0 x.1 view) (paths_of (listings_of view)) made) (λ i. (one i, two i)) plan;
  }
