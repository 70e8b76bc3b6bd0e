-- What an ordinary run saw and planned is its course, and why it has no plan is a refusal.
use Rattle.std.proofs.Common.{◌≡◌, ◌≤◌, ℕ, Bool, IsTrue, List, length, Option, Some, None, refl, sym, ◌∙◌, subst, inl, inr}
use Rattle.bisync_tree.specs.Rows.{look}
use Rattle.bisync_tree.specs.Same.{Agree, same}
use Rattle.bisync_tree.specs.declared.sides.Side.{Side}
use Rattle.bisync_tree.specs.declared.sides.Side.TheVariants.{One, Two}
use Rattle.bisync_tree.specs.declared.entries.Compare.{Compare}
use Rattle.bisync_tree.specs.declared.options.Limits.{Limits}
use Rattle.bisync_tree.specs.declared.views.View.{View}
use Rattle.bisync_model.specs.Trees.{by_side}
use Rattle.bisync_guard.specs.Order.{first_guard}
use Rattle.bisync_guard.specs.declared.guards.Guard.{Guard}
use Rattle.bisync_guard.specs.declared.guards.Guard.TheVariants as guard
use Rattle.bisync_listing.specs.Spelling.{listing_text}
use Rattle.bisync_device.specs.WorkFolder.{WorkFolder}
use Rattle.bisync_plan.specs.Plans.{IsPlanOf, header_of}
use Rattle.bisync_plan.specs.Faults.{most, IsFaultOf}
use Rattle.bisync_plan.specs.declared.plans.Plan.{Plan}
use Rattle.bisync_plan.specs.declared.faults.PlanFault.{PlanFault}
use Rattle.bisync_plan.specs.declared.faults.PlanFault.TheVariants as unplanned
use Rattle.bisync_opts.specs.declared.options.Opts.{Opts}
use Rattle.bisync_work.specs.declared.bases.Pair.{Pair}
use Rattle.bisync_work.specs.Base.{Base}
use Rattle.bisync_work.specs.Stamps.{IsNewStamp}
use Rattle.bisync_report.specs.declared.ends.End.{End}
use Rattle.bisync_report.specs.declared.ends.End.TheVariants.{RemoteFault, BadPath, TooMany, Moved, OutOfMemory}
use Rattle.bisync_run.specs.Courses.{IsLook, MayLook, MayPlan, is_checked, known_in, paths_through, view_of}
use Rattle.bisync_run.specs.Looking.{IsWhyUnseen, IsWhyNotBoth, unplanned_end}
use Rattle.bisync_run.specs.OrdinaryLooks.{AnswersLook, IsGuardEnd, guard_end}
use Rattle.bisync_run.specs.Sides.{Sides, IsListable}
use Rattle.bisync_run.specs.Starts.{StartsFrom}
use Rattle.bisync_run.proofs.PreparedResync.{fits}
use Rattle.bisync_run.proofs.SeenViews.{guard_of_sides}

module _ (opts : Opts) (limits : Limits) (f : WorkFolder) (digest : Option (List ℕ)) (s : Sides) (pair : Pair) (base : Base)
    (starts : StartsFrom opts limits f digest pair base) (looks : MayLook opts s base) where
  -- # What wasn't seen

  unseen_one : (tells : Bool) (compare : Compare) → IsTrue tells → (end : End) → IsWhyUnseen tells s.one compare s.passes limits One end → AnswersLook opts limits f s digest end
  unseen_one tells compare t (RemoteFault side) x = subst (λ (of : Side). AnswersLook opts limits f s digest (RemoteFault of)) (sym x) tt
  unseen_one tells compare t (BadPath side text) x = absurd (x.2 t)
  unseen_one tells compare t (TooMany side files bytes) x =
      subst (λ (of : Side). AnswersLook opts limits f s digest (TooMany of files bytes)) (sym x.0) (inr (pair, base, starts, (looks, x.1, x.2 t)))
  unseen_one tells compare t (Moved side path listed read) x = absurd (x.2 t)
  unseen_one tells compare t OutOfMemory x = tt
  unseen_one tells compare t end x = absurd x

  unseen_two : (tells : Bool) (compare : Compare) → IsTrue tells → IsListable limits s.one → (end : End) → IsWhyUnseen tells s.two compare s.passes limits Two end
      → AnswersLook opts limits f s digest end
  unseen_two tells compare t one (RemoteFault side) x = subst (λ (of : Side). AnswersLook opts limits f s digest (RemoteFault of)) (sym x) one
  unseen_two tells compare t one (BadPath side text) x = absurd (x.2 t)
  unseen_two tells compare t one (TooMany side files bytes) x =
      subst (λ (of : Side). AnswersLook opts limits f s digest (TooMany of files bytes)) (sym x.0) (inr (pair, base, starts, (looks, one, x.1, x.2 t)))
  unseen_two tells compare t one (Moved side path listed read) x = absurd (x.2 t)
  unseen_two tells compare t one OutOfMemory x = tt
  unseen_two tells compare t one end x = absurd x

  pub not_both_seen : (tells1 tells2 : Bool) (compare : Compare) (end : End) → IsTrue tells1 → IsTrue tells2
      → IsWhyNotBoth (by_side tells1 tells2) s.one s.two compare s.passes limits end → AnswersLook opts limits f s digest end
  not_both_seen tells1 tells2 compare end a b (inl x) = unseen_one tells1 compare a end x
  not_both_seen tells1 tells2 compare end a b (inr x) = unseen_two tells2 compare b (x.0 a) end x.1

  module _ (one : IsListable limits s.one) (two : IsListable limits s.two) (compare : Compare) (view : View) (compare_is : compare ≡ s.compare) (view_is : view ≡ view_of s base) where
    -- # A guard

    guarded_end : (first : Guard) → first_guard opts.guard s.compare (view_of s base) ≡ Some first → AnswersLook opts limits f s digest (guard_end first)
    guarded_end (guard.CheckAccess side path) is = inr (pair, base, starts, record { looks = looks; one = one; two = two; is = is })
    guarded_end (guard.EmptyCurrent side) is = inr (pair, base, starts, record { looks = looks; one = one; two = two; is = is })
    guarded_end (guard.TooManyDeletes side gone all) is = inr (pair, base, starts, record { looks = looks; one = one; two = two; is = is })
    guarded_end (guard.AllChanged side all) is = inr (pair, base, starts, record { looks = looks; one = one; two = two; is = is })

    pub guard_answers : (end : End) → IsGuardEnd (first_guard opts.guard compare view) end → AnswersLook opts limits f s digest end
    guard_answers end (inl memory) = subst (λ (e : End). AnswersLook opts limits f s digest e) (sym memory) tt
    guard_answers end (inr x) =
        subst (λ (e : End). AnswersLook opts limits f s digest e) (sym x.2) (guarded_end x.0 (guard_of_sides opts s base compare view compare_is view_is (Some x.0) x.1))

    module _ (unguarded : first_guard opts.guard compare view ≡ None) (stamp : ℕ) (new : IsNewStamp limits.listing f stamp) where
      may_plan : MayPlan opts limits s base
      may_plan = record { looks = looks; one = one; two = two; unguarded = guard_of_sides opts s base compare view compare_is view_is None unguarded }

      -- # No plan

      pub no_plan_answers : (fault : PlanFault) (end : End) → end ≡ unplanned_end fault
          → IsFaultOf (known_in opts s base) (paths_through s base) (header_of stamp s.compare) limits.listing (is_checked opts.check_sync) fault → AnswersLook opts limits f s digest end
      no_plan_answers fault end is why = subst (λ (e : End). AnswersLook opts limits f s digest e) (sym is) (go fault why)
        where
          go : (x : PlanFault) → IsFaultOf (known_in opts s base) (paths_through s base) (header_of stamp s.compare) limits.listing (is_checked opts.check_sync) x → AnswersLook opts limits f s digest (unplanned_end x)
          go (unplanned.TooLong side path) h = inr (pair, base, starts, record { plans = may_plan; stamp = stamp; new = new; why = h })
          go (unplanned.ListingTooLong side bytes) h = inr (pair, base, starts, record { plans = may_plan; stamp = stamp; new = new; why = h })
          go (unplanned.OutOfSync path a b) h = inr (pair, base, starts, record { plans = may_plan; stamp = stamp; new = new; why = h })
          go unplanned.OutOfMemory h = tt

      -- # The plan

      pub look_of_sides : (made : Plan) (check : Bool) → check ≡ is_checked opts.check_sync → IsPlanOf (known_in opts s base) (paths_through s base) made
          → length (listing_text (header_of stamp compare) made.final1) ≤ most limits.listing → length (listing_text (header_of stamp compare) made.final2) ≤ most limits.listing
          → (IsTrue check → Agree compare (look made.final1) (look made.final2)) → IsLook opts limits f s digest stamp pair (record { view = view; compare = compare; plan = made })
      look_of_sides made check check_is plan within1 within2 agree = record {
        course = record {
          pair = pair;
          base = base;
          starts = starts;
          plans = may_plan;
          names = plan.names;
          are = plan.are;
          stamp = stamp;
          new = new;
          fits1 = fits _ _ limits.listing One made.final1 plan.finals.one (subst (λ (c : Compare). length (listing_text (header_of stamp c) made.final1) ≤ most limits.listing) compare_is within1);
          fits2 = fits _ _ limits.listing Two made.final2 plan.finals.two (subst (λ (c : Compare). length (listing_text (header_of stamp c) made.final2) ≤ most limits.listing) compare_is within2);
          agree = λ checked p. sym (λ i. same (compare_is i) (plan.finals.one.looks p i) (plan.finals.two.looks p i)) ∙ agree (subst IsTrue (sym check_is) checked) p;
        };
        pair_is = refl;
        stamp_is = refl;
        view = view_is;
        compare = compare_is;
        steps = plan.steps;
        finals = plan.finals;
      }
