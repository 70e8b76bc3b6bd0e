-- What a run does to the base of its work folder, made of what its parts do.
use Rattle.std.proofs.Common.{◌≡◌, ◌≢◌, ◌⊎◌, ◌∙◌, ◌<◌, ◌^◌, ◌&&◌, ap, refl, subst, sym, inl, inr, ⊎_elim, not, Bool, true, false, ℕ, List, Option, Some, None, Result, Ok, Err, OnOk}
use Rattle.bisync_tree.specs.declared.entries.Compare.{Compare}
use Rattle.bisync_tree.specs.declared.options.Limits.{Limits}
use Rattle.bisync_tree.specs.declared.options.Prefer.{Prefer}
use Rattle.bisync_plan.specs.Plans.{header_of}
use Rattle.bisync_device.specs.WorkFolder.{Held, WorkFolder, IsSettled, IsImage}
use Rattle.bisync_opts.specs.declared.options.CheckSync.{CheckSync}
use Rattle.bisync_opts.specs.declared.options.CheckSync.TheVariants.{Always, Never, Only}
use Rattle.bisync_opts.specs.declared.options.Opts.{Opts}
use Rattle.bisync_report.specs.Status.{falls_of}
use Rattle.bisync_report.specs.declared.ends.End.{End}
use Rattle.bisync_work.specs.declared.bases.Pair.TheVariants.{Current}
use Rattle.bisync_work.specs.Base.{Base, ArePair, HasBaseIn, IsBase, HasNoBase}
use Rattle.bisync_work.specs.Locks.{ChangesLock}
use Rattle.bisync_work.specs.Moves.{SameListings}
use Rattle.bisync_work.specs.Stamps.{IsNewStamp, IsUnused}
use Rattle.bisync_work.proofs.BaseLaws.{same_in_pair, same_keeps}
use Rattle.bisync_run.specs.Beginnings.{IsBegun}
use Rattle.bisync_run.specs.CarryingOut.{AreCarriedOut, AreWithin, LosesOrNext}
use Rattle.bisync_run.specs.Closing.{Closes, ClosesWith, EndsWith, Unlocks}
use Rattle.bisync_run.specs.EndKinds.{falls_at_close, may_have_switched}
use Rattle.bisync_run.specs.Entering.{HasSomeRules}
use Rattle.bisync_run.specs.FolderBases.{IsNextOf, TakesNext, compared, Writes, MayLose, MayTake, LeavesFolderBase, LeavesHeldBase, HasNextInPlace, IsSetBackTo, LeavesNextInPlace}
use Rattle.bisync_run.specs.HeldResyncs.{end_of}
use Rattle.bisync_run.specs.OrdinaryChanges.{IsNextSet, IsPrepared, KeepsOrNext}
use Rattle.bisync_run.specs.ResyncRuns.{Matter, sides_in}
use Rattle.bisync_run.specs.ResyncWriting.{next_base}
use Rattle.bisync_run.specs.Sides.{Sides}
use Rattle.bisync_run.specs.Starts.{IsStartOf}
use Rattle.bisync_run.specs.Untouched.{Remotes}
use Rattle.bisync_run.specs.declared.looks.Look.{Look}
use Rattle.bisync_run.specs.declared.prepared.Prepared.{Prepared}
use Rattle.bisync_run.specs.declared.starting.Started.{Started}
use Rattle.bisync_run.proofs.BeginningLaws.{begun_before}
use Rattle.bisync_run.proofs.CloseLaws.{same_listings as unlocked_listings}
use Rattle.bisync_run.proofs.EndCases.{false_true}
use Rattle.bisync_run.proofs.LockedFolders.{base_past, same_listings, stamp_before}
use Rattle.bisync_run.proofs.OrdinaryHeld.{prepared_of}
use Rattle.bisync_run.proofs.ToldEnds.{image_keeps}

-- the listings of a plan are a new base
pub next_of : (limits : Limits) (compare : Compare) (f : WorkFolder) (prepared : Prepared) → prepared.compare ≡ compare → IsNewStamp limits.listing f prepared.stamp
    → IsNextOf limits compare f (next_base prepared)
next_of limits compare f prepared fields new = record { stamp = prepared.stamp; new = new; header = ap (header_of prepared.stamp) fields }

-- # An ordinary run that holds the lock

module _ (opts : Opts) (limits : Limits) (compare : Compare) (digest : Option (List ℕ)) (f f2 : WorkFolder) (same : f2 ≡ f) (started : Started) (start : IsStartOf opts limits f digest started)
    (made : Look) (fields : made.compare ≡ compare) where
  -- it is ready to be carried out
  pub ready_to : limits.listing < 2 ^ 64 → AreWithin limits.listing (prepared_of started.stamp made) → IsPrepared limits.listing f2 started.pair start.base (prepared_of started.stamp made)
  ready_to small fits = record {
    small = small;
    is = subst (λ (x : WorkFolder). HasBaseIn limits.listing x started.pair start.base) (sym same) start.starts.is;
    unused = subst (λ (x : WorkFolder). IsUnused limits.listing x started.stamp) (sym same) start.new.unused;
    fits = fits;
  }

  next : IsNextOf limits compare f (next_base (prepared_of started.stamp made))
  next = next_of limits compare f (prepared_of started.stamp made) fields start.new

  module _ (g : WorkFolder) where
    pub kept_or_next : (may : Bool) (s : Sides) → IsBegun opts limits f s digest → KeepsOrNext limits.listing (prepared_of started.stamp made) may f2 g
        → (base : Option Base) → IsBase limits.listing f base → IsBase limits.listing g base ⊎ ((may ≡ true) × IsBegun opts limits f s digest × TakesNext limits compare f g)
    kept_or_next may s begun leaves base is =
        ⊎_elim
        (λ kept. inl kept)
        (λ taken. inr (taken.0, begun, (next_base (prepared_of started.stamp made), next, taken.1)))
        (leaves base (subst (λ (x : WorkFolder). IsBase limits.listing x base) (sym same) is))

    pub next_in_place : IsNextSet limits.listing start.base (prepared_of started.stamp made) g → HasNextInPlace limits compare f g × IsSetBackTo limits f g
    next_in_place out = (
      record { next = next_base (prepared_of started.stamp made); is = next; base = out.base; one_new = out.one_new; two_new = out.two_new },
      (started.pair, start.base, start.starts.is, out.old),
    )

-- # A resync that holds the lock

module _ (limits : Limits) (compare : Compare) (f f2 : WorkFolder) (same : f2 ≡ f) (prepared : Prepared) (fields : prepared.compare ≡ compare) (new : IsNewStamp limits.listing f prepared.stamp) (g : WorkFolder) where
  pub lost_or_next : (may : Bool) → LosesOrNext limits.listing prepared may f2 g
      → (base : Option Base) → IsBase limits.listing f base → IsBase limits.listing g base ⊎ (HasNoBase limits.listing g ⊎ ((may ≡ true) × TakesNext limits compare f g))
  lost_or_next may leaves base is =
      ⊎_elim
      (λ kept. inl kept)
      (λ other. inr (⊎_elim (λ none. inl none) (λ taken. inr (taken.0, (next_base prepared, next_of limits compare f prepared fields new, taken.1))) other))
      (leaves base (subst (λ (x : WorkFolder). IsBase limits.listing x base) (sym same) is))

  pub carried_in_place : (digest : Option (List ℕ)) → AreCarriedOut limits.listing prepared digest f2 g → HasNextInPlace limits compare f g
  carried_in_place digest out =
      record { next = next_base prepared; is = next_of limits compare f prepared fields new; base = out.base; one_new = out.one_new; two_new = out.two_new }

-- # Either, by its options

pub map_ok : {T E P Q : Type 0} (result : Result T E) → (P → Q) → OnOk result P → OnOk result Q
map_ok (Ok x) f p = f p
map_ok (Err e) f p = tt

module _ (opts : Opts) where
  is_some : (mode : Prefer) → opts.resync ≡ Some mode → opts.resync ≢ None
  is_some mode some none = let bad : Some mode ≡ None = sym some ∙ none in cc

  module _ (limits : Limits) (s : Sides) (digest : Option (List ℕ)) (end : End) (f g : WorkFolder) (dry : opts.dry_run ≡ true → g ≡ f) (base : Option Base) (is : IsBase limits.listing f base) where
    abbrev Left : Type 0
    Left =
        IsBase limits.listing g base
        ⊎ (((opts.dry_run ≡ false) × (opts.resync ≢ None) × HasNoBase limits.listing g)
        ⊎ (Writes opts × (may_have_switched end ≡ true) × (opts.resync ≡ None → IsBegun opts limits f s digest) × TakesNext limits s.compare f g))

    unchanged : g ≡ f → Left
    unchanged same = inl (subst (λ (x : WorkFolder). IsBase limits.listing x base) (sym same) is)

    by_dry : (opts.dry_run ≡ false → Left) → Left
    by_dry changed = by_case opts.dry_run refl
      where
        by_case : (d : Bool) → opts.dry_run ≡ d → Left
        by_case true is_dry = unchanged (dry is_dry)
        by_case false changing = changed changing

    pub ordinary_leaves : (opts.check_sync ≡ Only → g ≡ f)
        → IsBase limits.listing g base ⊎ ((may_have_switched end ≡ true) × IsBegun opts limits f s digest × TakesNext limits s.compare f g) → Left
    ordinary_leaves only leaves = by_dry (λ changing. by_sync opts.check_sync refl changing)
      where
        left : opts.dry_run ≡ false → opts.check_sync ≢ Only → Left
        left changing more = ⊎_elim (λ kept. inl kept) (λ taken. inr (inr ((changing, λ none. more), taken.0, (λ none. taken.1), taken.2))) leaves

        by_sync : (sync : CheckSync) → opts.check_sync ≡ sync → opts.dry_run ≡ false → Left
        by_sync Only is_only changing = unchanged (only is_only)
        by_sync Always always changing = left changing (λ is_only. let bad : Always ≡ Only = sym always ∙ is_only in cc)
        by_sync Never never changing = left changing (λ is_only. let bad : Never ≡ Only = sym never ∙ is_only in cc)

    pub resync_leaves : (mode : Prefer) → opts.resync ≡ Some mode
        → IsBase limits.listing g base ⊎ (HasNoBase limits.listing g ⊎ ((may_have_switched end ≡ true) × TakesNext limits s.compare f g)) → Left
    resync_leaves mode some leaves =
        by_dry
        (λ changing. ⊎_elim
        (λ kept. inl kept)
        (λ other. inr (⊎_elim
        (λ none. inl (changing, is_some mode some, none))
        (λ taken. inr ((changing, λ no_mode. absurd (is_some mode some no_mode)), taken.0, (λ no_mode. absurd (is_some mode some no_mode)), taken.1))
        other))
        leaves)

  pub resync_in_place : (limits : Limits) (start : Remotes) (f g : WorkFolder) (mode : Prefer) → opts.resync ≡ Some mode
      → HasNextInPlace limits (compared opts start) f g → LeavesNextInPlace opts limits f start g
  resync_in_place limits start f g mode some out = (out, λ no_mode. absurd (is_some mode some no_mode))

-- # The close, said of the folder without the lock

falls_where : (resilient dry_run : Bool) (ended : Result End End) → falls_at_close resilient dry_run ended ≡ true → (dry_run ≡ false) × (resilient ≡ false)
falls_where resilient dry_run (Ok end) falls = false_true falls
falls_where resilient dry_run (Err end) falls = by_both resilient dry_run (falls_of end) falls
  where
    by_both : (r d b : Bool) → (b && not r && not d) ≡ true → (d ≡ false) × (r ≡ false)
    by_both false false b is = (refl, refl)
    by_both false true true is = false_true is
    by_both false true false is = false_true is
    by_both true d true is = false_true is
    by_both true d false is = false_true is

switched_closed : (ended : Result End End) (closed : End) → ClosesWith ended closed → may_have_switched (end_of ended) ≡ true → may_have_switched closed ≡ true
switched_closed (Ok end) closed (inl same) may = ap may_have_switched same ∙ may
switched_closed (Ok end) closed (inr stays) may = ap may_have_switched stays
switched_closed (Err end) closed same may = ap may_have_switched same ∙ may

module _ (opts : Opts) (limits : Limits) (start : Remotes) (f f2 g h : WorkFolder) (changes : ChangesLock f f2) where
  next_before : (next : Base) → IsNextOf limits (compared opts start) f2 next → IsNextOf limits (compared opts start) f next
  next_before next x = record { stamp = x.stamp; new = stamp_before f f2 changes limits.listing x.stamp x.new; header = x.header }

  module _ (m : Matter opts f start) (ended : Result End End) (closed : End) (closes_with : ClosesWith ended closed) where
    -- before the close
    abbrev Lost : Type 0
    Lost = (opts.dry_run ≡ false) × (opts.resync ≢ None) × HasNoBase limits.listing g

    abbrev Taken : Type 0
    Taken =
        Writes opts × (may_have_switched (end_of ended) ≡ true) × (opts.resync ≡ None → IsBegun opts limits f2 (sides_in m) m.digest)
        × TakesNext limits (sides_in m).compare f2 g

    -- and after it
    abbrev LeftClosed : Option Base → Type 0
    LeftClosed base = IsBase limits.listing h base ⊎ ((MayLose opts f × HasNoBase limits.listing h) ⊎ (MayTake opts limits f start closed × TakesNext limits (compared opts start) f h))

    rules : HasSomeRules opts.filters f
    rules = (m.rules, m.digest, m.are)

    may_take : Taken → MayTake opts limits f start closed
    may_take taken = record {
      writes = taken.0;
      switched = switched_closed ended closed closes_with taken.1;
      matter = m;
      begun = λ none. begun_before opts limits f f2 changes (sides_in m) m.digest (taken.2 none);
    }

    takes : (taken : Taken) → IsBase limits.listing h (Some taken.3.0) → TakesNext limits (compared opts start) f h
    takes taken stands = (taken.3.0, next_before taken.3.0 taken.3.1, stands)

    -- where nothing fell
    stays : ((b : Option Base) → IsBase limits.listing g b → IsBase limits.listing h b)
        → (base : Option Base) → IsBase limits.listing g base ⊎ (Lost ⊎ Taken) → LeftClosed base
    stays keeps base was =
        ⊎_elim
        (λ same. inl (keeps base same))
        (λ other. inr (⊎_elim
        (λ lost. inl ((rules, lost.0, inl lost.1), keeps None lost.2))
        (λ taken. inr (may_take taken, takes taken (keeps (Some taken.3.0) taken.3.2)))
        other))
        was

    -- where it may have
    lose : Closes g h → MayLose opts f → (base : Option Base) → IsBase limits.listing g base ⊎ (Lost ⊎ Taken) → LeftClosed base
    lose closes may base was =
        ⊎_elim
        (λ same. ⊎_elim (λ kept. inl kept) (λ none. inr (inl (may, none))) (closes.base limits.listing base same))
        (λ other. ⊎_elim
        (λ lost. inr (inl (may, ⊎_elim (λ none. none) (λ none. none) (closes.base limits.listing None lost.2))))
        (λ taken. ⊎_elim
        (λ kept. inr (inr (may_take taken, takes taken kept)))
        (λ none. inr (inl (may, none)))
        (closes.base limits.listing (Some taken.3.0) taken.3.2))
        other)
        was

    pub folder_base_closed : LeavesHeldBase opts limits (sides_in m) m.digest (end_of ended) f2 g
        → Closes g h → (falls_at_close opts.resilient opts.dry_run ended ≡ false → Unlocks g h) → LeavesFolderBase opts limits f start closed h
    folder_base_closed leaves closes kept base is = by_fall (falls_at_close opts.resilient opts.dry_run ended) refl
      where
        was : IsBase limits.listing g base ⊎ (Lost ⊎ Taken)
        was = leaves base (base_past f f2 changes limits.listing base is)

        by_fall : (b : Bool) → falls_at_close opts.resilient opts.dry_run ended ≡ b → LeftClosed base
        by_fall true falls = let where_it = falls_where opts.resilient opts.dry_run ended falls in lose closes (rules, where_it.0, inr where_it.1) base was
        by_fall false stay = stays (same_keeps limits.listing g h (unlocked_listings g h (kept stay))).base base was

  module _ (unlocks : Unlocks g h) where
    same : SameListings g h
    same = unlocked_listings g h unlocks

    in_place_closed : HasNextInPlace limits (compared opts start) f2 g → HasNextInPlace limits (compared opts start) f h
    in_place_closed x = record {
      next = x.next;
      is = next_before x.next x.is;
      base = same_in_pair limits.listing g h same Current x.next x.base;
      one_new = ap (λ (w : WorkFolder). w.one_new) unlocks.rest ∙ x.one_new;
      two_new = ap (λ (w : WorkFolder). w.two_new) unlocks.rest ∙ x.two_new;
    }

    set_back_closed : IsSetBackTo limits f2 g → IsSetBackTo limits f h
    set_back_closed (pair, before, has, old) = (
      pair,
      before,
      same_in_pair limits.listing f2 f
          (record { one = sym (same_listings f f2 changes).one; two = sym (same_listings f f2 changes).two; one_old = sym (same_listings f f2 changes).one_old; two_old = sym (same_listings f f2 changes).two_old })
          pair before has,
      subst (λ (e : Held). ArePair limits.listing h.one_old e before) (sym same.two_old) (subst (λ (e : Held). ArePair limits.listing e g.two_old before) (sym same.one_old) old),
    )

    pub folder_next_closed : LeavesNextInPlace opts limits f2 start g → LeavesNextInPlace opts limits f start h
    folder_next_closed x = (in_place_closed x.0, λ none. set_back_closed (x.1 none))

-- the same without the lock, in which nothing changed
pub folder_base_unlocked : (opts : Opts) (limits : Limits) (start : Remotes) (end : End) (f f2 : WorkFolder) → ChangesLock f f2 → LeavesFolderBase opts limits f start end f2
folder_base_unlocked opts limits start end f f2 changes base is = inl (base_past f f2 changes limits.listing base is)

-- # The last line, and an image of the folder

switched_told : (end last : End) → EndsWith end last → may_have_switched end ≡ true → may_have_switched last ≡ true
switched_told end last (inl same) may = ap may_have_switched same ∙ may
switched_told end last (inr lost) may = ap may_have_switched lost.1

module _ (opts : Opts) (limits : Limits) (start : Remotes) (f g : WorkFolder) where
  pub folder_base_told : (end last : End) → EndsWith end last → LeavesFolderBase opts limits f start end g → LeavesFolderBase opts limits f start last g
  folder_base_told end last ends leaves base was =
      ⊎_elim
      (λ kept. inl kept)
      (λ other. inr (⊎_elim (λ lost. inl lost) (λ taken. inr (may_take taken.0, taken.1)) other))
      (leaves base was)
    where
      may_take : MayTake opts limits f start end → MayTake opts limits f start last
      may_take may = record { writes = may.writes; switched = switched_told end last ends may.switched; matter = may.matter; begun = may.begun }

  pub folder_images : (end : End) (image : WorkFolder) → LeavesFolderBase opts limits f start end g → IsSettled g → IsImage g image → LeavesFolderBase opts limits f start end image
  folder_images end image leaves settled is base was =
      let keeps = image_keeps limits.listing g image settled is in
      ⊎_elim
      (λ kept. inl (keeps.base base kept))
      (λ other. inr (⊎_elim
      (λ lost. inl (lost.0, keeps.base None lost.1))
      (λ taken. inr (taken.0, (taken.1.0, taken.1.1, keeps.base (Some taken.1.0) taken.1.2)))
      other))
      (leaves base was)
