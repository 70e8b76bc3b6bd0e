-- At most one refusal comes of a run that starts from one base.
use Rattle.std.proofs.Common.{◌≡◌, ◌≢◌, ◌⊎◌, ℕ, [], Option, Some, None, refl, sym, ◌∙◌, ap, subst, inl, inr}
use Rattle.bisync_tree.specs.Rows.{PathBytes, look, passing}
use Rattle.bisync_tree.specs.declared.sides.Side.TheVariants.{One, Two}
use Rattle.bisync_tree.specs.declared.entries.Entry.{Entry}
use Rattle.bisync_tree.specs.declared.options.Limits.{Limits}
use Rattle.bisync_model.specs.Trees.{by_side}
use Rattle.bisync_guard.specs.Order.{first_guard}
use Rattle.bisync_guard.specs.declared.guards.Guard.{Guard}
use Rattle.bisync_guard.specs.declared.guards.Guard.TheVariants as guard
use Rattle.bisync_observe.specs.Counting.{IsOver, AreOfTree}
use Rattle.bisync_plan.specs.Faults.{IsFirstApart, IsFaultOf}
use Rattle.bisync_plan.specs.Plans.{header_of}
use Rattle.bisync_plan.specs.declared.faults.PlanFault.{PlanFault}
use Rattle.bisync_plan.specs.declared.faults.PlanFault.TheVariants as unplanned
use Rattle.bisync_plan.proofs.FaultLaws.{fault_same}
use Rattle.bisync_device.specs.WorkFolder.{WorkFolder}
use Rattle.bisync_opts.specs.declared.options.CheckSync.TheVariants.{Only}
use Rattle.bisync_opts.specs.declared.options.Opts.{Opts}
use Rattle.bisync_work.specs.Base.{Base}
use Rattle.bisync_work.specs.Stamps.{IsNewStamp}
use Rattle.bisync_work.proofs.BaseLaws.{stamp_is_one}
use Rattle.bisync_report.specs.declared.ends.End.{End}
use Rattle.bisync_report.specs.declared.ends.End.TheVariants.{ListingsDiffer, EmptyPrior, TooMany, CheckAccess, EmptyCurrent, TooManyDeletes, AllChanged, NameTooLong, ListingTooLong, OutOfSync}
use Rattle.bisync_run.specs.Sides.{Sides, IsListable}
use Rattle.bisync_run.specs.Courses.{MayLook, is_checked, known_in, paths_through, view_of}
use Rattle.bisync_run.specs.Looking.{unplanned_end}
use Rattle.bisync_run.specs.OrdinaryLooks.{guard_end}
use Rattle.bisync_run.specs.OrdinaryRefusals.{IsGuarded, IsUnplanned, IsCourseRefusal}
use Rattle.bisync_run.proofs.FirstPlaces.{places_same}
use Rattle.bisync_run.proofs.RefusalLaws.{many_same, over_not_listable}

same_guard : (g h : Guard) → Some g ≡ Some h → g ≡ h
same_guard g h e = cc

pub no_guard : (first : Option Guard) (g : Guard) → first ≡ Some g → first ≡ None → ⊥
no_guard first g some none = cc

-- # Where a run is refused

module _ (opts : Opts) (limits : Limits) (f : WorkFolder) (s : Sides) (base : Base) where
  -- by its plan
  abbrev pub AtPlan : End → Type 0
  AtPlan e = (fault : PlanFault) × (e ≡ unplanned_end fault) × (fault ≢ unplanned.OutOfMemory) × IsUnplanned opts limits f s base fault

  -- by a guard, or later
  abbrev pub AtGuard : End → Type 0
  AtGuard e = ((g : Guard) × (e ≡ guard_end g) × (first_guard opts.guard s.compare (view_of s base) ≡ Some g)) ⊎ AtPlan e

  -- by the number of files of Path2, or later
  abbrev pub AtTwo : End → Type 0
  AtTwo e = ((files : ℕ) × (bytes : ℕ) × (e ≡ TooMany Two files bytes) × IsOver limits files bytes × AreOfTree s.two files bytes) ⊎ (IsListable limits s.two × AtGuard e)

  -- by that of Path1, or later
  abbrev pub AtOne : End → Type 0
  AtOne e = ((files : ℕ) × (bytes : ℕ) × (e ≡ TooMany One files bytes) × IsOver limits files bytes × AreOfTree s.one files bytes) ⊎ (IsListable limits s.one × AtTwo e)

  -- by Path2's base listing, or later
  abbrev pub AtPrior2 : End → Type 0
  AtPrior2 e = ((e ≡ EmptyPrior Two) × (passing s.passes base.two ≡ [])) ⊎ ((passing s.passes base.two ≢ []) × AtOne e)

  -- by Path1's, or later
  abbrev pub AtPrior1 : End → Type 0
  AtPrior1 e = ((e ≡ EmptyPrior One) × (passing s.passes base.one ≡ [])) ⊎ ((passing s.passes base.one ≢ []) × AtPrior2 e)

  -- where it only compares its base, or later
  abbrev pub AtBase : End → Type 0
  AtBase e =
      ((p : PathBytes) × (one : Option Entry) × (two : Option Entry) × (e ≡ ListingsDiffer p one two) × (opts.check_sync ≡ Only)
      × IsFirstApart s.compare (by_side (look base.one) (look base.two)) p one two)
      ⊎ ((opts.check_sync ≢ Only) × AtPrior1 e)

  looked : (e : End) → MayLook opts s base → AtOne e → AtBase e
  looked e looks x = inr (looks.more, inr (looks.prior1, inr (looks.prior2, x)))

  guarded : (g : Guard) → IsGuarded opts limits s base g → AtBase (guard_end g)
  guarded g h = looked (guard_end g) h.looks (inr (h.one, inr (h.two, inl (g, refl, h.is))))

  unplanned_at : (fault : PlanFault) → fault ≢ unplanned.OutOfMemory → IsUnplanned opts limits f s base fault → AtBase (unplanned_end fault)
  unplanned_at fault real h = looked (unplanned_end fault) h.plans.looks (inr (h.plans.one, inr (h.plans.two, inr (fault, refl, real, h))))

  pub place_of : (e : End) → IsCourseRefusal opts limits f s base e → AtBase e
  place_of (ListingsDiffer p one two) h = inl (p, one, two, refl, h.0, h.1)
  place_of (EmptyPrior One) h = inr (h.0, inl (refl, h.1))
  place_of (EmptyPrior Two) h = inr (h.0, inr (h.1, inl (refl, h.2)))
  place_of (TooMany One files bytes) h = looked (TooMany One files bytes) h.0 (inl (files, bytes, refl, h.1, h.2))
  place_of (TooMany Two files bytes) h = looked (TooMany Two files bytes) h.0 (inr (h.1, inl (files, bytes, refl, h.2, h.3)))
  place_of (CheckAccess side path) h = guarded (guard.CheckAccess side path) h
  place_of (EmptyCurrent side) h = guarded (guard.EmptyCurrent side) h
  place_of (TooManyDeletes side gone all) h = guarded (guard.TooManyDeletes side gone all) h
  place_of (AllChanged side all) h = guarded (guard.AllChanged side all) h
  place_of (NameTooLong side path) h = unplanned_at (unplanned.TooLong side path) (λ e. cc) h
  place_of (ListingTooLong side bytes) h = unplanned_at (unplanned.ListingTooLong side bytes) (λ e. cc) h
  place_of (OutOfSync p one two) h = unplanned_at (unplanned.OutOfSync p one two) (λ e. cc) h
  place_of e h = absurd h

  -- # One place

  why_at : (stamp : ℕ) (fault : PlanFault) → IsUnplanned opts limits f s base fault → IsNewStamp limits.listing f stamp
      → IsFaultOf (known_in opts s base) (paths_through s base) (header_of stamp s.compare) limits.listing (is_checked opts.check_sync) fault
  why_at stamp fault h new =
      subst (λ (n : ℕ). IsFaultOf (known_in opts s base) (paths_through s base) (header_of n s.compare) limits.listing (is_checked opts.check_sync) fault)
      (stamp_is_one limits.listing f h.stamp stamp h.new new) h.why

  same_plan : (a b : End) → AtPlan a → AtPlan b → a ≡ b
  same_plan a b x y =
      let fault : x.0 ≡ y.0
      = fault_same (known_in opts s base) (paths_through s base) (header_of x.3.stamp s.compare) limits.listing (is_checked opts.check_sync) x.0 y.0 x.3.why (why_at x.3.stamp y.0 y.3 x.3.new) x.2 y.2 in
      x.1 ∙ ap unplanned_end fault ∙ sym y.1

  at_guard : (a b : End) → AtGuard a → AtGuard b → a ≡ b
  at_guard a b (inl x) (inl y) = x.1 ∙ ap guard_end (same_guard x.0 y.0 (sym x.2 ∙ y.2)) ∙ sym y.1
  at_guard a b (inl x) (inr y) = absurd (no_guard _ x.0 x.2 y.3.plans.unguarded)
  at_guard a b (inr x) (inl y) = absurd (no_guard _ y.0 y.2 x.3.plans.unguarded)
  at_guard a b (inr x) (inr y) = same_plan a b x y

  at_two : (a b : End) → AtTwo a → AtTwo b → a ≡ b
  at_two a b (inl x) (inl y) = x.2 ∙ many_same Two s.two x.0 y.0 x.1 y.1 x.4 y.4 ∙ sym y.2
  at_two a b (inl x) (inr y) = absurd (over_not_listable limits s.two x.0 x.1 x.3 x.4 y.0)
  at_two a b (inr x) (inl y) = absurd (over_not_listable limits s.two y.0 y.1 y.3 y.4 x.0)
  at_two a b (inr x) (inr y) = at_guard a b x.1 y.1

  at_one : (a b : End) → AtOne a → AtOne b → a ≡ b
  at_one a b (inl x) (inl y) = x.2 ∙ many_same One s.one x.0 y.0 x.1 y.1 x.4 y.4 ∙ sym y.2
  at_one a b (inl x) (inr y) = absurd (over_not_listable limits s.one x.0 x.1 x.3 x.4 y.0)
  at_one a b (inr x) (inl y) = absurd (over_not_listable limits s.one y.0 y.1 y.3 y.4 x.0)
  at_one a b (inr x) (inr y) = at_two a b x.1 y.1

  at_prior2 : (a b : End) → AtPrior2 a → AtPrior2 b → a ≡ b
  at_prior2 a b (inl x) (inl y) = x.0 ∙ sym y.0
  at_prior2 a b (inl x) (inr y) = absurd (y.0 x.1)
  at_prior2 a b (inr x) (inl y) = absurd (x.0 y.1)
  at_prior2 a b (inr x) (inr y) = at_one a b x.1 y.1

  at_prior1 : (a b : End) → AtPrior1 a → AtPrior1 b → a ≡ b
  at_prior1 a b (inl x) (inl y) = x.0 ∙ sym y.0
  at_prior1 a b (inl x) (inr y) = absurd (y.0 x.1)
  at_prior1 a b (inr x) (inl y) = absurd (x.0 y.1)
  at_prior1 a b (inr x) (inr y) = at_prior2 a b x.1 y.1

  at_base : (a b : End) → AtBase a → AtBase b → a ≡ b
  at_base a b (inl x) (inl y) = x.3 ∙ places_same s.compare (by_side (look base.one) (look base.two)) x.0 y.0 x.1 x.2 y.1 y.2 x.5 y.5 ∙ sym y.3
  at_base a b (inl x) (inr y) = absurd (y.0 x.4)
  at_base a b (inr x) (inl y) = absurd (x.0 y.4)
  at_base a b (inr x) (inr y) = at_prior1 a b x.1 y.1

  pub course_refusals_same : (a b : End) → IsCourseRefusal opts limits f s base a → IsCourseRefusal opts limits f s base b → a ≡ b
  course_refusals_same a b h k = at_base a b (place_of a h) (place_of b k)
