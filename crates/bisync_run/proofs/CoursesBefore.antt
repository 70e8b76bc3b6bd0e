-- What an ordinary run that holds the lock goes through and answers, said of the folder without it.
use Rattle.std.proofs.Common.{◌≡◌, ap, subst, sym, inl, inr, ⊎_elim, ℕ, List, Option, Some, None, true, false}
use Rattle.bisync_tree.specs.declared.sides.Side.TheVariants.{One, Two}
use Rattle.bisync_tree.specs.declared.options.Limits.{Limits}
use Rattle.bisync_device.specs.WorkFolder.{Held, WorkFolder}
use Rattle.bisync_device.specs.declared.works.WorkName.{WorkName}
use Rattle.bisync_opts.specs.declared.options.Opts.{Opts}
use Rattle.bisync_plan.specs.declared.faults.PlanFault.{PlanFault}
use Rattle.bisync_work.specs.Base.{Base, HasBaseIn}
use Rattle.bisync_work.specs.BadNames.{IsFirstBad, base_names}
use Rattle.bisync_work.specs.Locks.{ChangesLock}
use Rattle.bisync_work.specs.Moves.{SameListings}
use Rattle.bisync_work.specs.declared.bases.Pair.{Pair}
use Rattle.bisync_work.proofs.BaseLaws.{same_bad, same_in_pair}
use Rattle.bisync_report.specs.declared.ends.End.{End}
use Rattle.bisync_report.specs.declared.ends.End.TheVariants.{Done, DryRun, InSync, WorkFault, FiltersChanged, BadListing, NeedResync, ListingsDiffer, EmptyPrior, RemoteFault, TooMany, CheckAccess, EmptyCurrent, TooManyDeletes, AllChanged, NameTooLong, ListingTooLong, OutOfSync, SinkFault, LockLeft, OutOfMemory}
use Rattle.bisync_report.specs.declared.ends.Need.TheVariants.{NoBase, NotRecovering, FieldsChanged}
use Rattle.bisync_run.specs.Courses.{Course, IsInSync}
use Rattle.bisync_run.specs.OrdinaryRefusals.{IsUnplanned, IsCourseRefusal, IsOrdinaryRefusal, HasNoOrdinaryRefusal, AnswersOrdinary}
use Rattle.bisync_run.specs.Sides.{Sides}
use Rattle.bisync_run.specs.Starts.{HoldsOther, IsReadable, IsStored, IsStartRefusal, StartsFrom}
use Rattle.bisync_run.proofs.LockedFolders.{base_before, same_listings, stamp_before}

module _ (opts : Opts) (limits : Limits) (f g : WorkFolder) (changes : ChangesLock f g) where
  -- # Its start

  digest_same : g.filters_md5 ≡ f.filters_md5
  digest_same = ap (λ (w : WorkFolder). w.filters_md5) changes.rest

  back : SameListings g f
  back =
      let there = same_listings f g changes in
      record { one = sym there.one; two = sym there.two; one_old = sym there.one_old; two_old = sym there.two_old }

  in_before : (pair : Pair) (base : Base) → HasBaseIn limits.listing g pair base → HasBaseIn limits.listing f pair base
  in_before pair base x = same_in_pair limits.listing g f back pair base x

  bad_before : (bad : Option (WorkName × ℕ)) → IsFirstBad limits.listing g base_names bad → IsFirstBad limits.listing f base_names bad
  bad_before bad x = same_bad limits.listing g f back bad x

  stored_before : (digest : Option (List ℕ)) → IsStored digest g.filters_md5 → IsStored digest f.filters_md5
  stored_before digest x = subst (λ (h : Held). IsStored digest h) digest_same x

  readable_before : (digest : Option (List ℕ)) → IsReadable limits g digest → IsReadable limits f digest
  readable_before digest x = record { stored = stored_before digest x.stored; good = bad_before None x.good }

  pub starts_before : (digest : Option (List ℕ)) (pair : Pair) (base : Base) → StartsFrom opts limits g digest pair base → StartsFrom opts limits f digest pair base
  starts_before digest pair base x = record { readable = readable_before digest x.readable; is = in_before pair base x.is; may = x.may; fields = x.fields }

  other_before : (now : List ℕ) (stored : Option (List ℕ)) → HoldsOther now stored g.filters_md5 → HoldsOther now stored f.filters_md5
  other_before now stored x = subst (λ (h : Held). HoldsOther now stored h) digest_same x

  start_refusal_before : (digest : Option (List ℕ)) (end : End) → IsStartRefusal opts limits g digest end → IsStartRefusal opts limits f digest end
  start_refusal_before digest (FiltersChanged now stored) x = (x.0, x.1, x.2, other_before now stored x.3)
  start_refusal_before digest (BadListing name line) x = (stored_before digest x.0, bad_before (Some (name, line)) x.1)
  start_refusal_before digest (NeedResync NoBase) x = (readable_before digest x.0, base_before f g changes limits.listing None x.1)
  start_refusal_before digest (NeedResync NotRecovering) x = (readable_before digest x.0, (x.1.0, x.1.1, in_before x.1.0 x.1.1 x.1.2, x.1.3))
  start_refusal_before digest (NeedResync (FieldsChanged stored)) x = (readable_before digest x.0, (x.1.0, x.1.1, in_before x.1.0 x.1.1 x.1.2, x.1.3, x.1.4, x.1.5))
  start_refusal_before digest end x = absurd x

  -- # Its course

  module _ (s : Sides) (digest : Option (List ℕ)) where
    abbrev pub course_before : Course opts limits g s digest → Course opts limits f s digest
    course_before x = record {
      pair = x.pair;
      base = x.base;
      starts = starts_before digest x.pair x.base x.starts;
      plans = x.plans;
      names = x.names;
      are = x.are;
      stamp = x.stamp;
      new = stamp_before f g changes limits.listing x.stamp x.new;
      fits1 = x.fits1;
      fits2 = x.fits2;
      agree = x.agree;
    }

    pub in_sync_before : IsInSync opts limits g s digest → IsInSync opts limits f s digest
    in_sync_before x = record { pair = x.pair; base = x.base; starts = starts_before digest x.pair x.base x.starts; only = x.only; agree = x.agree }

    pub unrefused_before : HasNoOrdinaryRefusal opts limits g s digest → HasNoOrdinaryRefusal opts limits f s digest
    unrefused_before x = ⊎_elim (λ course. inl (course_before course)) (λ same. inr (in_sync_before same)) x

    -- # Its refusals

    unplanned_before : {base : Base} {fault : PlanFault} → IsUnplanned opts limits g s base fault → IsUnplanned opts limits f s base fault
    unplanned_before x = record { plans = x.plans; stamp = x.stamp; new = stamp_before f g changes limits.listing x.stamp x.new; why = x.why }

    course_refusal_before : (base : Base) (end : End) → IsCourseRefusal opts limits g s base end → IsCourseRefusal opts limits f s base end
    course_refusal_before base (ListingsDiffer p one two) x = x
    course_refusal_before base (EmptyPrior One) x = x
    course_refusal_before base (EmptyPrior Two) x = x
    course_refusal_before base (TooMany One files bytes) x = x
    course_refusal_before base (TooMany Two files bytes) x = x
    course_refusal_before base (CheckAccess side path) x = x
    course_refusal_before base (EmptyCurrent side) x = x
    course_refusal_before base (TooManyDeletes side gone all) x = x
    course_refusal_before base (AllChanged side all) x = x
    course_refusal_before base (NameTooLong side path) x = unplanned_before x
    course_refusal_before base (ListingTooLong side bytes) x = unplanned_before x
    course_refusal_before base (OutOfSync p one two) x = unplanned_before x
    course_refusal_before base end x = absurd x

    pub refusal_before : (end : End) → IsOrdinaryRefusal opts limits g s digest end → IsOrdinaryRefusal opts limits f s digest end
    refusal_before end x =
        ⊎_elim
        (λ start. inl (start_refusal_before digest end start))
        (λ later. inr (later.0, later.1, starts_before digest later.0 later.1 later.2, course_refusal_before later.1 end later.3))
        x

    pub run_answers_before : (end : End) → AnswersOrdinary opts limits g s digest end → AnswersOrdinary opts limits f s digest end
    run_answers_before WorkFault x = tt
    run_answers_before (RemoteFault One) x = tt
    run_answers_before (RemoteFault Two) x = x
    run_answers_before OutOfMemory x = tt
    run_answers_before (SinkFault false) x = course_before x
    run_answers_before (SinkFault true) x = unrefused_before x
    run_answers_before LockLeft x = unrefused_before x
    run_answers_before (Done one two) x = course_before x
    run_answers_before DryRun x = course_before x
    run_answers_before InSync x = in_sync_before x
    run_answers_before end x = refusal_before end x
