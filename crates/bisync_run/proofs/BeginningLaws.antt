-- What the work folder alone tells of an ordinary run's answer.
use Rattle.std.proofs.Common.{◌≡◌, ◌≢◌, ℕ, ℤ, [], List, Bool, true, Option, Result, Ok, Err, OnOk, sym, subst, inl, inr, ⊎_elim}
use Rattle.bisync_tree.specs.Rows.{PathBytes, Rows, passing}
use Rattle.bisync_tree.specs.Tree.{Tree}
use Rattle.bisync_tree.specs.declared.entries.Compare.{Compare}
use Rattle.bisync_tree.specs.declared.sides.Side.{Side}
use Rattle.bisync_tree.specs.declared.sides.Side.TheVariants.{One, Two}
use Rattle.bisync_tree.specs.declared.options.Limits.{Limits}
use Rattle.bisync_guard.specs.declared.guards.Guard.{Guard}
use Rattle.bisync_guard.specs.declared.guards.Guard.TheVariants as guard
use Rattle.bisync_plan.specs.declared.faults.PlanFault.{PlanFault}
use Rattle.bisync_plan.specs.declared.faults.PlanFault.TheVariants as unplanned
use Rattle.bisync_device.specs.WorkFolder.{WorkFolder}
use Rattle.bisync_opts.specs.declared.options.CheckSync.TheVariants.{Only}
use Rattle.bisync_opts.specs.declared.options.Opts.{Opts}
use Rattle.bisync_work.specs.Locks.{ChangesLock}
use Rattle.bisync_report.specs.declared.ends.End.{End}
use Rattle.bisync_report.specs.declared.ends.End.TheVariants.{InSync, WorkFault, FiltersChanged, BadListing, NeedResync, ListingsDiffer, EmptyPrior, RemoteFault, BadPath, TooMany, CheckAccess, EmptyCurrent, TooManyDeletes, AllChanged, NameTooLong, ListingTooLong, OutOfSync, Moved, SinkFault, LockLeft, OutOfMemory}
use Rattle.bisync_run.specs.Beginnings.{IsBegun, IsWellBegun, AnswersBeginning, AnswersBeginningOf, IsWellBegunOf}
use Rattle.bisync_run.specs.Closing.{ClosesWith, EndsWith}
use Rattle.bisync_run.specs.EndKinds.{is_after_good}
use Rattle.bisync_run.specs.HeldResyncs.{end_of}
use Rattle.bisync_run.specs.Looking.{IsWhyUnseen, IsWhyNotBoth, unplanned_end}
use Rattle.bisync_run.specs.OrdinaryEnds.{IsUnplannedOrdinaryEnd}
use Rattle.bisync_run.specs.OrdinaryLooks.{HasPrior, IsApartAnswer, IsPriorAnswer, IsPriorEnd, IsGuardEnd, guard_end}
use Rattle.bisync_run.specs.Sides.{Sides}
use Rattle.bisync_run.specs.Starting.{ComparesBase, IsStartAnswer}
use Rattle.bisync_run.specs.Starts.{IsStartOf}
use Rattle.bisync_run.specs.Stepping.{IsStepEnd}
use Rattle.bisync_run.specs.Untouched.{Remotes}
use Rattle.bisync_run.specs.declared.starting.Started.{Started}
use Rattle.bisync_run.proofs.CoursesBefore.{in_sync_before, refusal_before, starts_before}
use Rattle.bisync_run.proofs.EndCases.{good_is_after_good}

-- # The passing parts of the base

module _ (passes : PathBytes → Bool) (one two : Rows) where
  pub prior_answer : (end : End) → IsPriorEnd passes one two end → IsPriorAnswer passes one two end
  prior_answer OutOfMemory x = tt
  prior_answer (EmptyPrior One) x = x
  prior_answer (EmptyPrior Two) x = x
  prior_answer end x = absurd x

  module _ (has : HasPrior passes one two) where
    unseen_after : (tells : Bool) (tree : Tree) (compare : Compare) (p : PathBytes → Bool) (limits : Limits) (side : Side) (end : End)
        → IsWhyUnseen tells tree compare p limits side end → IsPriorAnswer passes one two end
    unseen_after tells tree compare p limits side (RemoteFault of) x = has
    unseen_after tells tree compare p limits side (BadPath of text) x = has
    unseen_after tells tree compare p limits side (TooMany of files bytes) x = has
    unseen_after tells tree compare p limits side (Moved of path listed read) x = has
    unseen_after tells tree compare p limits side OutOfMemory x = tt
    unseen_after tells tree compare p limits side end x = absurd x

    pub not_both_after : (tells : Side → Bool) (first second : Tree) (compare : Compare) (p : PathBytes → Bool) (limits : Limits) (end : End)
        → IsWhyNotBoth tells first second compare p limits end → IsPriorAnswer passes one two end
    not_both_after tells first second compare p limits end (inl x) = unseen_after (tells One) first compare p limits One end x
    not_both_after tells first second compare p limits end (inr x) = unseen_after (tells Two) second compare p limits Two end x.1

    guard_after : (g : Guard) → IsPriorAnswer passes one two (guard_end g)
    guard_after (guard.CheckAccess side path) = has
    guard_after (guard.EmptyCurrent side) = has
    guard_after (guard.TooManyDeletes side gone all) = has
    guard_after (guard.AllChanged side all) = has

    pub guarded_after : (first : Option Guard) (end : End) → IsGuardEnd first end → IsPriorAnswer passes one two end
    guarded_after first end (inl memory) = subst (IsPriorAnswer passes one two) (sym memory) tt
    guarded_after first end (inr x) = subst (IsPriorAnswer passes one two) (sym x.2) (guard_after x.0)

    of_fault : (fault : PlanFault) → IsPriorAnswer passes one two (unplanned_end fault)
    of_fault (unplanned.TooLong side path) = has
    of_fault (unplanned.ListingTooLong side bytes) = has
    of_fault (unplanned.OutOfSync path a b) = has
    of_fault unplanned.OutOfMemory = tt

    pub unplanned_after : (fault : PlanFault) (end : End) → end ≡ unplanned_end fault → IsPriorAnswer passes one two end
    unplanned_after fault end is = subst (IsPriorAnswer passes one two) (sym is) (of_fault fault)

-- # With the lock

module _ (opts : Opts) (limits : Limits) (f : WorkFolder) (s : Sides) (digest : Option (List ℕ)) where
  pub start_begins : (end : End) → IsStartAnswer opts limits f digest end → AnswersBeginning opts limits f s digest end
  start_begins WorkFault x = tt
  start_begins OutOfMemory x = tt
  start_begins (FiltersChanged now stored) x = inl x
  start_begins (BadListing name line) x = inl x
  start_begins (NeedResync need) x = inl x
  start_begins end x = absurd x

  module _ (started : Started) (start : IsStartOf opts limits f digest started) where
    module _ (only : opts.check_sync ≡ Only) where
      compares_found : (result : Result End End) → ComparesBase s.compare started.one started.two result → ComparesBase s.compare start.base.one start.base.two result
      compares_found result x =
          subst (λ (r : Rows). ComparesBase s.compare start.base.one r result) start.two (subst (λ (r : Rows). ComparesBase s.compare r started.two result) start.one x)

      comparing : (result : Result End End) → ComparesBase s.compare start.base.one start.base.two result → AnswersBeginning opts limits f s digest (end_of result)
      comparing (Ok InSync) x = record { pair = started.pair; base = start.base; starts = start.starts; only = only; agree = x }
      comparing (Err (ListingsDiffer p a b)) x = inr (started.pair, start.base, start.starts, (only, x))
      comparing (Err OutOfMemory) x = tt
      comparing result x = absurd x

      well_comparing : (result : Result End End) → ComparesBase s.compare start.base.one start.base.two result → OnOk result (IsWellBegun opts limits f s digest)
      well_comparing (Ok InSync) x = inr (record { pair = started.pair; base = start.base; starts = start.starts; only = only; agree = x })
      well_comparing (Ok end) x = absurd x
      well_comparing (Err end) x = tt

      pub compared_begins : (result : Result End End) → ComparesBase s.compare started.one started.two result → AnswersBeginning opts limits f s digest (end_of result)
      compared_begins result x = comparing result (compares_found result x)

      pub compared_begun : (result : Result End End) → ComparesBase s.compare started.one started.two result → OnOk result (IsWellBegun opts limits f s digest)
      compared_begun result x = well_comparing result (compares_found result x)

    module _ (more : opts.check_sync ≢ Only) where
      pub begun_by : HasPrior s.passes started.one started.two → IsBegun opts limits f s digest
      begun_by has = record {
        pair = started.pair;
        base = start.base;
        starts = start.starts;
        looks = record {
          more = more;
          prior1 = subst (λ (r : Rows). passing s.passes r ≢ []) start.one has.0;
          prior2 = subst (λ (r : Rows). passing s.passes r ≢ []) start.two has.1;
        };
      }

      pub look_begins : (compare : Compare) (end : End) → IsUnplannedOrdinaryEnd opts compare end → IsPriorAnswer s.passes started.one started.two end → IsApartAnswer s.compare s.passes started.one started.two end → AnswersBeginning opts limits f s digest end
      unfolding begun_by
      look_begins compare OutOfMemory kind x apart = tt
      look_begins compare (EmptyPrior One) kind x apart = inr (started.pair, start.base, start.starts, (more, subst (λ (r : Rows). passing s.passes r ≡ []) start.one x))
      look_begins compare (EmptyPrior Two) kind x apart =
          inr (
            started.pair,
            start.base,
            start.starts,
            (more, subst (λ (r : Rows). passing s.passes r ≢ []) start.one x.0, subst (λ (r : Rows). passing s.passes r ≡ []) start.two x.1),
          )
      look_begins compare (RemoteFault side) kind x apart = begun_by x
      look_begins compare (BadPath side text) kind x apart = begun_by x
      look_begins compare (TooMany side files bytes) kind x apart = begun_by x
      look_begins compare (CheckAccess side path) kind x apart = begun_by x
      look_begins compare (EmptyCurrent side) kind x apart = begun_by x
      look_begins compare (TooManyDeletes side gone all) kind x apart = begun_by x
      look_begins compare (AllChanged side all) kind x apart = begun_by x
      look_begins compare (NameTooLong side path) kind x apart = begun_by x
      look_begins compare (ListingTooLong side bytes) kind x apart = begun_by x
      look_begins compare (OutOfSync path one two) kind x apart = record { begun = begun_by x; apart = subst (λ (t : Rows × Rows). IsApartAnswer s.compare s.passes t.0 t.1 (OutOfSync path one two)) (λ i. (start.one i, start.two i)) apart }
      look_begins compare (Moved side path listed read) kind x apart = begun_by x
      look_begins compare end kind x apart = absurd kind

  pub step_begins : IsBegun opts limits f s digest → (end : End) → IsStepEnd end → AnswersBeginning opts limits f s digest end
  step_begins begun WorkFault x = tt
  step_begins begun (RemoteFault side) x = begun
  step_begins begun (Moved side path listed read) x = begun
  step_begins begun end x = absurd x

  -- # The lock is freed

  pub begins_closed : (ended : Result End End) (closed : End) → ClosesWith ended closed → AnswersBeginning opts limits f s digest (end_of ended) → OnOk ended (IsWellBegun opts limits f s digest)
      → AnswersBeginning opts limits f s digest closed
  begins_closed (Ok end) closed (inl same) begins begun = subst (AnswersBeginning opts limits f s digest) (sym same) begins
  begins_closed (Ok end) closed (inr left) begins begun = subst (AnswersBeginning opts limits f s digest) (sym left) begun
  begins_closed (Err end) closed same begins begun = subst (AnswersBeginning opts limits f s digest) (sym same) begins

-- # Said of the folder without the lock

module _ (opts : Opts) (limits : Limits) (f g : WorkFolder) (changes : ChangesLock f g) (s : Sides) (digest : Option (List ℕ)) where
  pub begun_before : IsBegun opts limits g s digest → IsBegun opts limits f s digest
  begun_before x = record { pair = x.pair; base = x.base; starts = starts_before opts limits f g changes digest x.pair x.base x.starts; looks = x.looks }

  pub well_before : IsWellBegun opts limits g s digest → IsWellBegun opts limits f s digest
  well_before x = ⊎_elim (λ begun. inl (begun_before begun)) (λ same. inr (in_sync_before opts limits f g changes s digest same)) x

  pub begins_before : (end : End) → AnswersBeginning opts limits g s digest end → AnswersBeginning opts limits f s digest end
  unfolding begun_before
  begins_before WorkFault x = tt
  begins_before OutOfMemory x = tt
  begins_before (FiltersChanged now stored) x = refusal_before opts limits f g changes s digest (FiltersChanged now stored) x
  begins_before (BadListing name line) x = refusal_before opts limits f g changes s digest (BadListing name line) x
  begins_before (NeedResync need) x = refusal_before opts limits f g changes s digest (NeedResync need) x
  begins_before (ListingsDiffer p one two) x = refusal_before opts limits f g changes s digest (ListingsDiffer p one two) x
  begins_before (EmptyPrior side) x = refusal_before opts limits f g changes s digest (EmptyPrior side) x
  begins_before (OutOfSync p one two) x = record { begun = begun_before x.begun; apart = x.apart }
  begins_before InSync x = in_sync_before opts limits f g changes s digest x
  begins_before (SinkFault true) x = well_before x
  begins_before LockLeft x = well_before x
  begins_before end x = begun_before x

-- # The last line is told

pub begins_told : (opts : Opts) (limits : Limits) (f : WorkFolder) (start : Remotes) (clock : Bool) (moment : ℤ) (end last : End)
    → AnswersBeginningOf opts limits f start clock moment end → (is_after_good end ≡ true → IsWellBegunOf opts limits f start clock moment) → EndsWith end last
    → AnswersBeginningOf opts limits f start clock moment last
begins_told opts limits f start clock moment end last begins begun (inl same) = subst (AnswersBeginningOf opts limits f start clock moment) (sym same) begins
begins_told opts limits f start clock moment end last begins begun (inr (good, failed)) =
    let well = begun (good_is_after_good end good) in
    subst (AnswersBeginningOf opts limits f start clock moment) (sym failed) (inr (well.0, well.1))
