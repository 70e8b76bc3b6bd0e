-- What a run saw is the view of its sides, and the plan of what it saw is theirs.
use Rattle.std.proofs.Common.{◌≡◌, ◌≢◌, ◌≤◌, ℕ, Bool, List, Option, sym, ◌∙◌, ap, subst, arith}
use Rattle.bisync_tree.specs.Window.{window_ns, coarser}
use Rattle.bisync_tree.specs.Rows.{PathBytes, Rows, look, is_among, listing_of, passing, paths_in}
use Rattle.bisync_tree.specs.Walk.{listings_of, paths_of}
use Rattle.bisync_tree.specs.declared.windows.Window.{Window}
use Rattle.bisync_tree.specs.declared.entries.Compare.{Compare}
use Rattle.bisync_tree.specs.declared.views.View.{View}
use Rattle.bisync_tree.proofs.WindowLemmas.{coarser_left, coarser_right}
use Rattle.bisync_model.specs.Known.{Known}
use Rattle.bisync_model.specs.Views.{known_of, IsNarrowed, IsComplete}
use Rattle.bisync_guard.specs.Order.{first_guard}
use Rattle.bisync_guard.specs.declared.guards.Guard.{Guard}
use Rattle.bisync_observe.specs.Observing.{ArePassingNames, IsSeenOf}
use Rattle.bisync_plan.specs.Conditions.{KeepsTimes}
use Rattle.bisync_plan.specs.Plans.{IsPlanOf, header_of}
use Rattle.bisync_plan.specs.Faults.{IsFaultOf}
use Rattle.bisync_plan.specs.declared.plans.Plan.{Plan}
use Rattle.bisync_plan.specs.declared.faults.PlanFault.{PlanFault}
use Rattle.bisync_plan.proofs.ListedParts.{part_narrowed}
use Rattle.bisync_opts.specs.declared.options.CheckSync.TheVariants.{Only}
use Rattle.bisync_opts.specs.declared.options.Opts.{Opts}
use Rattle.bisync_work.specs.Base.{Base}
use Rattle.bisync_run.specs.Courses.{MayLook, known_in, paths_through, view_of}
use Rattle.bisync_run.specs.OrdinaryLooks.{IsPriorOf}
use Rattle.bisync_run.specs.Sides.{Sides, compare_in, listed1, listed2}

-- # Whatever a remote tells

module _ (passes : PathBytes → Bool) (view : View) (now1 now2 : Rows) (names1 names2 : List PathBytes) (now : (view.now1 ≡ now1) × (view.now2 ≡ now2))
    (seen1 : ArePassingNames passes names1 now1) (seen2 : ArePassingNames passes names2 now2) where
  pub narrowed_view : (one two first second : Rows) → (view.prior1 ≡ one) × (view.prior2 ≡ two) → (view.base1 ≡ first) × (view.base2 ≡ second)
      → IsPriorOf passes one two first second → IsNarrowed passes view
  narrowed_view one two first second prior based narrowed = record {
    base1 = part_narrowed passes view.prior1 view.base1 (based.0 ∙ narrowed.one_is ∙ ap (passing passes) (sym prior.0));
    base2 = part_narrowed passes view.prior2 view.base2 (based.1 ∙ narrowed.two_is ∙ ap (passing passes) (sym prior.1));
    now1 = λ p e at. (seen1 p e (ap (λ (rows : Rows). look rows p) (sym now.0) ∙ at)).0;
    now2 = λ p e at. (seen2 p e (ap (λ (rows : Rows). look rows p) (sym now.1) ∙ at)).0;
  }

  pub complete_view : (view.names1 ≡ names1) × (view.names2 ≡ names2) → IsComplete view
  complete_view names = record {
    names1 = λ p e at. ap (is_among p) names.0 ∙ (seen1 p e (ap (λ (rows : Rows). look rows p) (sym now.0) ∙ at)).1;
    names2 = λ p e at. ap (is_among p) names.1 ∙ (seen2 p e (ap (λ (rows : Rows). look rows p) (sym now.1) ∙ at)).1;
  }

le_trans : (a b c : ℕ) → a ≤ b → b ≤ c → a ≤ c
le_trans a b c ab bc = omega arith

-- the coarsest window is no finer than that of either side
pub keeps_times : (given compare : Compare) (a b window1 window2 : Window) → compare ≡ compare_in given a b → window1 ≡ a → window2 ≡ b → KeepsTimes compare window1 window2
keeps_times given compare a b window1 window2 is one two =
    let both : KeepsTimes (compare_in given a b) a b = record {
      one = le_trans (window_ns a) (window_ns (coarser given.window a)) (window_ns (coarser (coarser given.window a) b)) (coarser_right given.window a) (coarser_left (coarser given.window a) b);
      two = coarser_right (coarser given.window a) b;
    } in
    let same : ◌≡◌ {A = Compare × Window × Window} (compare, window1, window2) (compare_in given a b, a, b) = λ i. (is i, one i, two i) in
    subst (λ (x : Compare × Window × Window). KeepsTimes x.0 x.1 x.2) (sym same) both

-- # Where both remotes tell

pub view_of_sides : (s : Sides) (base : Base) (compare : Compare) (view : View) (one two first second now1 now2 : Rows) (names1 names2 : List PathBytes)
    → compare ≡ s.compare → (view.prior1 ≡ one) × (view.prior2 ≡ two) → (view.base1 ≡ first) × (view.base2 ≡ second)
    → (view.now1 ≡ now1) × (view.now2 ≡ now2) → (view.names1 ≡ names1) × (view.names2 ≡ names2)
    → one ≡ base.one → two ≡ base.two → IsPriorOf s.passes one two first second
    → IsSeenOf compare s.passes s.one names1 now1 → IsSeenOf compare s.passes s.two names2 now2 → view ≡ view_of s base
view_of_sides s base compare view one two first second now1 now2 names1 names2 compare_is prior based now names one_is two_is narrowed seen1 seen2 =
    let prior1_is : view.prior1 ≡ base.one = prior.0 ∙ one_is in
    let prior2_is : view.prior2 ≡ base.two = prior.1 ∙ two_is in
    let base1_is : view.base1 ≡ passing s.passes base.one = based.0 ∙ narrowed.one_is ∙ ap (passing s.passes) one_is in
    let base2_is : view.base2 ≡ passing s.passes base.two = based.1 ∙ narrowed.two_is ∙ ap (passing s.passes) two_is in
    let now1_is : view.now1 ≡ listed1 s = now.0 ∙ seen1.listing ∙ ap (λ (c : Compare). listing_of c s.passes s.one) compare_is in
    let now2_is : view.now2 ≡ listed2 s = now.1 ∙ seen2.listing ∙ ap (λ (c : Compare). listing_of c s.passes s.two) compare_is in
    let names1_is : view.names1 ≡ paths_in s.one = names.0 ∙ seen1.names in
    let names2_is : view.names2 ≡ paths_in s.two = names.1 ∙ seen2.names in
    λ i. record {
      prior1 = prior1_is i;
      prior2 = prior2_is i;
      base1 = base1_is i;
      base2 = base2_is i;
      now1 = now1_is i;
      now2 = now2_is i;
      names1 = names1_is i;
      names2 = names2_is i;
    }

pub may_look : (opts : Opts) (s : Sides) (base : Base) (one two first second : Rows) → opts.check_sync ≢ Only → one ≡ base.one → two ≡ base.two
    → IsPriorOf s.passes one two first second → MayLook opts s base
may_look opts s base one two first second more one_is two_is narrowed = record {
  more = more;
  prior1 = λ none. narrowed.some1 (ap (passing s.passes) one_is ∙ none);
  prior2 = λ none. narrowed.some2 (ap (passing s.passes) two_is ∙ none);
}

module _ (opts : Opts) (s : Sides) (base : Base) (compare : Compare) (view : View) (compare_is : compare ≡ s.compare) (view_is : view ≡ view_of s base) where
  pub guard_of_sides : (first : Option Guard) → first_guard opts.guard compare view ≡ first → first_guard opts.guard s.compare (view_of s base) ≡ first
  guard_of_sides first is = subst (λ (x : Compare × View). first_guard opts.guard x.0 x.1 ≡ first) (λ i. (compare_is i, view_is i)) is

  module _ (window1 window2 : Window) (window1_is : window1 ≡ s.window1) (window2_is : window2 ≡ s.window2) where
    known_is : known_of opts.conflict compare s.passes window1 window2 view ≡ known_in opts s base
    known_is = λ i. known_of opts.conflict (compare_is i) s.passes (window1_is i) (window2_is i) (view_is i)

    paths_is : paths_of (listings_of view) ≡ paths_through s base
    paths_is = λ i. paths_of (listings_of (view_is i))

    pub plan_of_view : (made : Plan) → IsPlanOf (known_of opts.conflict compare s.passes window1 window2 view) (paths_of (listings_of view)) made
        → IsPlanOf (known_in opts s base) (paths_through s base) made
    plan_of_view made h = subst (λ (x : Known × List PathBytes). IsPlanOf x.0 x.1 made) (λ i. (known_is i, paths_is i)) h

    pub fault_of_view : (stamp limit : ℕ) (check checked : Bool) (fault : PlanFault) → check ≡ checked
        → IsFaultOf (known_of opts.conflict compare s.passes window1 window2 view) (paths_of (listings_of view)) (header_of stamp compare) limit check fault
        → IsFaultOf (known_in opts s base) (paths_through s base) (header_of stamp s.compare) limit checked fault
    fault_of_view stamp limit check checked fault check_is h =
        subst (λ (x : Known × List PathBytes × Compare × Bool). IsFaultOf x.0 x.1 (header_of stamp x.2) limit x.3 fault) (λ i. (known_is i, paths_is i, compare_is i, check_is i)) h
