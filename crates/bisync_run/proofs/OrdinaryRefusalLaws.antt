-- At most one refusal of an ordinary run comes, and none where it may go on.
use Rattle.std.proofs.Common.{◌≡◌, ◌≢◌, ◌<◌, ◌^◌, ℕ, List, Bool, IsTrue, Option, refl, subst, inl, inr}
use Rattle.bisync_tree.specs.Rows.{PathBytes, look}
use Rattle.bisync_tree.specs.Same.{Agree}
use Rattle.bisync_tree.specs.declared.sides.Side.{Side}
use Rattle.bisync_tree.specs.declared.sides.Side.TheVariants.{One, Two}
use Rattle.bisync_tree.specs.declared.entries.Entry.{Entry}
use Rattle.bisync_tree.specs.declared.options.Limits.{Limits}
use Rattle.bisync_tree.specs.declared.steps.Given.{Given}
use Rattle.bisync_model.specs.Trees.{by_side}
use Rattle.bisync_model.specs.Known.{Known}
use Rattle.bisync_model.specs.Names.{AreNames}
use Rattle.bisync_model.specs.Finals.{final_entry}
use Rattle.bisync_model.proofs.NamesUnique.{names_unique}
use Rattle.bisync_model.proofs.NamesTooLong.{no_names}
use Rattle.bisync_listing.specs.declared.headers.Header.{Header}
use Rattle.bisync_plan.specs.Faults.{Fits, IsTooLong, IsFirstApart, IsListingTooLong, IsOutOfSync, IsFaultOf}
use Rattle.bisync_plan.specs.Plans.{header_of}
use Rattle.bisync_plan.specs.declared.faults.PlanFault.{PlanFault}
use Rattle.bisync_plan.specs.declared.faults.PlanFault.TheVariants as unplanned
use Rattle.bisync_device.specs.WorkFolder.{WorkFolder}
use Rattle.bisync_opts.specs.declared.options.Opts.{Opts}
use Rattle.bisync_work.specs.Base.{Base}
use Rattle.bisync_work.specs.declared.bases.Pair.{Pair}
use Rattle.bisync_work.proofs.BaseLaws.{stamp_is_one}
use Rattle.bisync_report.specs.declared.ends.End.{End}
use Rattle.bisync_run.specs.Sides.{Sides}
use Rattle.bisync_run.specs.Starts.{StartsFrom}
use Rattle.bisync_run.specs.Courses.{Course, IsInSync, is_checked, known_in, paths_through}
use Rattle.bisync_run.specs.OrdinaryRefusals.{IsUnplanned, IsCourseRefusal, IsOrdinaryRefusal, HasNoOrdinaryRefusal}
use Rattle.bisync_run.proofs.FirstPlaces.{not_apart}
use Rattle.bisync_run.proofs.RefusalLaws.{over_not_listable, long_not_fits}
use Rattle.bisync_run.proofs.StartLaws.{start_refusals_same, started_not_refused, starts_same}
use Rattle.bisync_run.proofs.CourseRefusals.{AtGuard, AtTwo, AtOne, AtPrior2, AtPrior1, AtBase, no_guard, place_of, course_refusals_same}

-- # A run whose new listings may be written has no fault

module _ (known : Known) (paths : List PathBytes) (header : Header) (limit : ℕ) (names : List Given) (are : AreNames known paths names) where
  long_by : (side : Side) (n : ℕ) → IsListingTooLong known paths header limit side n → IsTooLong (final_entry known names) header limit side n
  long_by side n h = subst (λ (ns : List Given). IsTooLong (final_entry known ns) header limit side n) (names_unique known _ _ h.names names h.are are) h.long

  apart_by : (p : PathBytes) (a b : Option Entry) → IsOutOfSync known paths header limit p a b → IsFirstApart known.policy.compare (final_entry known names) p a b
  apart_by p a b h = subst (λ (ns : List Given). IsFirstApart known.policy.compare (final_entry known ns) p a b) (names_unique known _ _ h.names names h.are are) h.apart.apart

  module _ (one : Fits (final_entry known names) header limit One) (two : Fits (final_entry known names) header limit Two) where
    not_long : (side : Side) (n : ℕ) → IsTooLong (final_entry known names) header limit side n → ⊥
    not_long One n h = long_not_fits (final_entry known names) header limit One n h one
    not_long Two n h = long_not_fits (final_entry known names) header limit Two n h two

    no_fault : (check : Bool) → (IsTrue check → Agree known.policy.compare (final_entry known names One) (final_entry known names Two))
        → (fault : PlanFault) → fault ≢ unplanned.OutOfMemory → IsFaultOf known paths header limit check fault → ⊥
    no_fault check agree unplanned.OutOfMemory real h = real refl
    no_fault check agree (unplanned.TooLong side p) real h = no_names known paths side p h names are
    no_fault check agree (unplanned.ListingTooLong side n) real h = not_long side n (long_by side n h)
    no_fault check agree (unplanned.OutOfSync p a b) real h = not_apart known.policy.compare (final_entry known names) p a b (apart_by p a b h.1) (agree h.0)

-- # A run that may go on

module _ (opts : Opts) (limits : Limits) (f : WorkFolder) (s : Sides) (digest : Option (List ℕ)) where
  module _ (c : Course opts limits f s digest) where
    not_unplanned : (fault : PlanFault) → fault ≢ unplanned.OutOfMemory → IsUnplanned opts limits f s c.base fault → ⊥
    not_unplanned fault real h =
        let why = subst (λ (n : ℕ). IsFaultOf (known_in opts s c.base) (paths_through s c.base) (header_of n s.compare) limits.listing (is_checked opts.check_sync) fault)
        (stamp_is_one limits.listing f h.stamp c.stamp h.new c.new) h.why in
        no_fault (known_in opts s c.base) (paths_through s c.base) (header_of c.stamp s.compare) limits.listing c.names c.are c.fits1 c.fits2 (is_checked opts.check_sync) c.agree fault real why

    not_at_guard : (e : End) → AtGuard opts limits f s c.base e → ⊥
    not_at_guard e (inl x) = no_guard _ x.0 x.2 c.plans.unguarded
    not_at_guard e (inr x) = not_unplanned x.0 x.2 x.3

    not_at_two : (e : End) → AtTwo opts limits f s c.base e → ⊥
    not_at_two e (inl x) = over_not_listable limits s.two x.0 x.1 x.3 x.4 c.plans.two
    not_at_two e (inr x) = not_at_guard e x.1

    not_at_one : (e : End) → AtOne opts limits f s c.base e → ⊥
    not_at_one e (inl x) = over_not_listable limits s.one x.0 x.1 x.3 x.4 c.plans.one
    not_at_one e (inr x) = not_at_two e x.1

    not_at_prior2 : (e : End) → AtPrior2 opts limits f s c.base e → ⊥
    not_at_prior2 e (inl x) = c.plans.looks.prior2 x.1
    not_at_prior2 e (inr x) = not_at_one e x.1

    not_at_prior1 : (e : End) → AtPrior1 opts limits f s c.base e → ⊥
    not_at_prior1 e (inl x) = c.plans.looks.prior1 x.1
    not_at_prior1 e (inr x) = not_at_prior2 e x.1

    not_at_base : (e : End) → AtBase opts limits f s c.base e → ⊥
    not_at_base e (inl x) = c.plans.looks.more x.4
    not_at_base e (inr x) = not_at_prior1 e x.1

  not_in_sync : (i : IsInSync opts limits f s digest) (e : End) → AtBase opts limits f s i.base e → ⊥
  not_in_sync i e (inl x) = not_apart s.compare (by_side (look i.base.one) (look i.base.two)) x.0 x.1 x.2 x.5 i.agree
  not_in_sync i e (inr x) = x.0 i.only

  -- # Refusals

  module _ (small : limits.listing < 2 ^ 64) where
    moved : (p q : Pair) (a b : Base) (e : End) → StartsFrom opts limits f digest p a → StartsFrom opts limits f digest q b → IsCourseRefusal opts limits f s a e → IsCourseRefusal opts limits f s b e
    moved p q a b e x y h = subst (λ (base : Base). IsCourseRefusal opts limits f s base e) (starts_same opts limits f digest small p q a b x y).1 h

    pub run_refusals_same : (a b : End) → IsOrdinaryRefusal opts limits f s digest a → IsOrdinaryRefusal opts limits f s digest b → a ≡ b
    run_refusals_same a b (inl x) (inl y) = start_refusals_same opts limits f digest small a b x y
    run_refusals_same a b (inl x) (inr y) = absurd (started_not_refused opts limits f digest small a y.0 y.1 x y.2)
    run_refusals_same a b (inr x) (inl y) = absurd (started_not_refused opts limits f digest small b x.0 x.1 y x.2)
    run_refusals_same a b (inr x) (inr y) = course_refusals_same opts limits f s x.1 a b x.3 (moved y.0 x.0 y.1 x.1 b y.2 x.2 y.3)

    refused_not : (e : End) (pair : Pair) (base : Base) → StartsFrom opts limits f digest pair base → (IsCourseRefusal opts limits f s base e → ⊥) → IsOrdinaryRefusal opts limits f s digest e → ⊥
    refused_not e pair base starts not (inl x) = started_not_refused opts limits f digest small e pair base x starts
    refused_not e pair base starts not (inr x) = not (moved x.0 pair x.1 base e x.2 starts x.3)

    pub run_not_refused : (e : End) → IsOrdinaryRefusal opts limits f s digest e → HasNoOrdinaryRefusal opts limits f s digest → ⊥
    run_not_refused e h (inl c) = refused_not e c.pair c.base c.starts (λ k. not_at_base c e (place_of opts limits f s c.base e k)) h
    run_not_refused e h (inr i) = refused_not e i.pair i.base i.starts (λ k. not_in_sync i e (place_of opts limits f s i.base e k)) h
