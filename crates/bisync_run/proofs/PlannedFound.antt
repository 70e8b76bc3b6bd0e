-- The plan is that of a run from the base that was found, whatever is told of the work folder.
use Rattle.std.proofs.Common.{◌≡◌, ◌∙◌, ap, subst, List}
use Rattle.bisync_tree.specs.Rows.{PathBytes, Rows, listing_of}
use Rattle.bisync_tree.specs.Walk.{listings_of, paths_of}
use Rattle.bisync_tree.specs.declared.entries.Compare.{Compare}
use Rattle.bisync_tree.specs.declared.views.View.{View}
use Rattle.bisync_tree.specs.declared.windows.Window.{Window}
use Rattle.bisync_model.specs.Known.{Known}
use Rattle.bisync_model.specs.Views.{known_of}
use Rattle.bisync_observe.specs.Observing.{IsSeenOf}
use Rattle.bisync_opts.specs.declared.options.Opts.{Opts}
use Rattle.bisync_plan.specs.Plans.{IsPlanOf}
use Rattle.bisync_plan.specs.declared.plans.Plan.{Plan}
use Rattle.bisync_run.specs.Courses.{view_of}
use Rattle.bisync_run.specs.OrdinaryLooks.{IsPlannedFrom, IsPriorOf, found_base}
use Rattle.bisync_run.specs.Sides.{Sides}
use Rattle.bisync_run.specs.declared.starting.Started.{Started}

module _ (opts : Opts) (s : Sides) (started : Started) (compare : Compare) (view : View) (compared : compare ≡ s.compare) where
  pub view_found : (first second now1 now2 : Rows) (names1 names2 : List PathBytes)
      → (view.prior1 ≡ started.one) × (view.prior2 ≡ started.two) → (view.base1 ≡ first) × (view.base2 ≡ second)
      → (view.now1 ≡ now1) × (view.now2 ≡ now2) → (view.names1 ≡ names1) × (view.names2 ≡ names2)
      → IsPriorOf s.passes started.one started.two first second → IsSeenOf compare s.passes s.one names1 now1 → IsSeenOf compare s.passes s.two names2 now2
      → view ≡ view_of s (found_base opts.compare started)
  view_found first second now1 now2 names1 names2 prior base now names narrowed seen1 seen2 =
      let base1 = base.0 ∙ narrowed.one_is in
      let base2 = base.1 ∙ narrowed.two_is in
      let listed1 = now.0 ∙ seen1.listing ∙ ap (λ (c : Compare). listing_of c s.passes s.one) compared in
      let listed2 = now.1 ∙ seen2.listing ∙ ap (λ (c : Compare). listing_of c s.passes s.two) compared in
      let there1 = names.0 ∙ seen1.names in
      let there2 = names.1 ∙ seen2.names in
      λ i. record { prior1 = prior.0 i; prior2 = prior.1 i; base1 = base1 i; base2 = base2 i; now1 = listed1 i; now2 = listed2 i; names1 = there1 i; names2 = there2 i }

  pub planned_found : (window1 window2 : Window) → window1 ≡ s.window1 → window2 ≡ s.window2 → view ≡ view_of s (found_base opts.compare started)
      → (made : Plan) → IsPlanOf (known_of opts.conflict compare s.passes window1 window2 view) (paths_of (listings_of view)) made → IsPlannedFrom opts s started made
  planned_found window1 window2 first second seen made plan =
      subst (λ (x : Known × List PathBytes). IsPlanOf x.0 x.1 made) (λ i. (known_of opts.conflict (compared i) s.passes (first i) (second i) (seen i), paths_of (listings_of (seen i)))) plan
