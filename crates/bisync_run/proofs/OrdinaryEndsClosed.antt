-- What is known of the end that an ordinary run with the lock has when it is closed.
use Rattle.std.proofs.Common.{◌≡◌, ◌∙◌, ◌++◌, ◌||◌, [], ap, subst, sym, refl, inl, inr, ⊎_elim, ◌⊎◌, Bool, true, false, List, ℕ, Option, None, Some, Result, Ok, Err, OnOk}
use Rattle.std.specs.Prelude.{IfOk, IfErr}
use Rattle.std.proofs.lemmas.List.{append-nil}
use Rattle.bisync_tree.specs.declared.entries.Compare.{Compare}
use Rattle.bisync_tree.specs.declared.options.Limits.{Limits}
use Rattle.bisync_device.specs.WorkFolder.{WorkFolder}
use Rattle.bisync_opts.specs.declared.options.Opts.{Opts}
use Rattle.bisync_report.specs.declared.ends.End.{End}
use Rattle.bisync_report.specs.declared.ends.End.TheVariants.{Done, DryRun, InSync, WorkFault, NoFilters, BadRule, Locked, LockLeft, OutOfMemory}
use Rattle.bisync_work.specs.declared.bases.Pair.TheVariants.{Old}
use Rattle.bisync_work.specs.Base.{HasNoBase}
use Rattle.bisync_work.specs.Locks.{ChangesLock}
use Rattle.bisync_run.specs.Closing.{Closes, ClosesWith}
use Rattle.bisync_run.specs.Counts.{Counts, Stops}
use Rattle.bisync_run.specs.EndKinds.{is_good, is_after_good, is_sink_fault, lets_fall, may_have_changed, may_tell_plan}
use Rattle.bisync_run.specs.HeldResyncs.{end_of}
use Rattle.bisync_run.specs.KeptNames.{IsSideEnd, KeepsButFallen, StandsSetBack}
use Rattle.bisync_run.specs.Ordinary.{AreCourseLines, IsGoodOrdinaryEnd, TellsCourse}
use Rattle.bisync_run.specs.OrdinaryEnds.{IsOrdinaryEnd}
use Rattle.bisync_run.specs.OrdinaryRefusals.{AnswersOrdinary, HasNoOrdinaryRefusal}
use Rattle.bisync_run.specs.OrdinaryRuns.{TellsOrdinaryRun}
use Rattle.bisync_run.specs.ResyncEnds.{IsUnlockedEnd}
use Rattle.bisync_run.specs.ResyncRuns.{Matter, sides_in}
use Rattle.bisync_run.specs.Sides.{Sides}
use Rattle.bisync_run.specs.Untouched.{Remotes, AreUntouched}
use Rattle.bisync_run.proofs.ClosedEnds.{not_side}
use Rattle.bisync_run.proofs.CoursesBefore.{course_before}
use Rattle.bisync_run.proofs.EndCases.{false_true, good_is_after_good}
use Rattle.bisync_run.proofs.EndLaws.{stops_not_after_good}
use Rattle.bisync_run.proofs.LockedFolders.{base_past}

-- # The answer

pub unlocked_is_ordinary : (opts : Opts) (compare : Compare) (end : End) → IsUnlockedEnd opts.filters end → IsOrdinaryEnd opts compare end
unlocked_is_ordinary opts compare WorkFault x = tt
unlocked_is_ordinary opts compare OutOfMemory x = tt
unlocked_is_ordinary opts compare NoFilters x = x
unlocked_is_ordinary opts compare (BadRule line) x = x
unlocked_is_ordinary opts compare (Locked until) x = tt
unlocked_is_ordinary opts compare end x = absurd x

pub ordinary_closed : (opts : Opts) (compare : Compare) (ended : Result End End) (closed : End) → ClosesWith ended closed → IsOrdinaryEnd opts compare (end_of ended) → IsOrdinaryEnd opts compare closed
ordinary_closed opts compare (Ok end) closed (inl same) own = subst (IsOrdinaryEnd opts compare) (sym same) own
ordinary_closed opts compare (Ok end) closed (inr left) own = subst (IsOrdinaryEnd opts compare) (sym left) tt
ordinary_closed opts compare (Err end) closed same own = subst (IsOrdinaryEnd opts compare) (sym same) own

pub run_answers_closed : (opts : Opts) (limits : Limits) (f : WorkFolder) (s : Sides) (digest : Option (List ℕ)) (ended : Result End End) (closed : End)
    → ClosesWith ended closed → AnswersOrdinary opts limits f s digest (end_of ended) → OnOk ended (HasNoOrdinaryRefusal opts limits f s digest)
    → AnswersOrdinary opts limits f s digest closed
run_answers_closed opts limits f s digest (Ok end) closed (inl same) answers none = subst (AnswersOrdinary opts limits f s digest) (sym same) answers
run_answers_closed opts limits f s digest (Ok end) closed (inr left) answers none = subst (AnswersOrdinary opts limits f s digest) (sym left) none
run_answers_closed opts limits f s digest (Err end) closed same answers none = subst (AnswersOrdinary opts limits f s digest) (sym same) answers

module _ (opts : Opts) (limits : Limits) (f g : WorkFolder) (changes : ChangesLock f g) (s : Sides) (digest : Option (List ℕ)) where
  pub good_before : (end : End) → IsGoodOrdinaryEnd opts limits g s digest end → IsGoodOrdinaryEnd opts limits f s digest end
  good_before InSync x = x
  good_before DryRun x = x
  good_before (Done one two) x = (x.0, x.1, (course_before opts limits f g changes s digest x.2.0, x.2.1, x.2.2))
  good_before end x = absurd x

  lines_before : (lines : List ℕ) → AreCourseLines opts limits g s digest lines → AreCourseLines opts limits f s digest lines
  lines_before lines x = record { course = course_before opts limits f g changes s digest x.course; are = x.are }

or_true : (a b : Bool) → b ≡ true → (a || b) ≡ true
or_true true b is = refl
or_true false b is = is

or_first : (a b : Bool) → a ≡ true → (a || b) ≡ true
or_first a b is = ap (λ (x : Bool). x || b) is

-- # The base that was set back

module _ (limits : Limits) (f g mid h : WorkFolder) (changes : ChangesLock f g) (closes : Closes mid h) where
  none_closed : HasNoBase limits.listing mid → HasNoBase limits.listing h
  none_closed none = ⊎_elim (λ same. same) (λ same. same) (closes.base limits.listing None none)

  stands_closed : (end closed : End) → closed ≡ end → StandsSetBack limits end g mid → StandsSetBack limits closed f h
  stands_closed end closed same stands side base is =
      ⊎_elim (λ old. closes.pair limits.listing Old base old) (λ none. inr (none_closed none))
      (stands (subst IsSideEnd same side) base (base_past f g changes limits.listing (Some base) is))

  pub stands_by_close : (ended : Result End End) (closed : End) → ClosesWith ended closed → StandsSetBack limits (end_of ended) g mid → StandsSetBack limits closed f h
  stands_by_close (Ok end) closed (inl same) stands side base is = stands_closed end closed same stands side base is
  stands_by_close (Ok end) closed (inr left) stands side base is = absurd (subst IsSideEnd left side)
  stands_by_close (Err end) closed same stands side base is = stands_closed end closed same stands side base is

  good_stands : (end closed : End) → is_good end ≡ true → (closed ≡ end) ⊎ (closed ≡ LockLeft) → StandsSetBack limits closed f h
  good_stands end closed well (inl same) side base is = absurd (not_side end well (subst IsSideEnd same side))
  good_stands end closed well (inr left) side base is = absurd (subst IsSideEnd left side)

-- # What was told

module _ (opts : Opts) (limits : Limits) (f g mid h : WorkFolder) (changes : ChangesLock f g) (closes : Closes mid h) (start now : Remotes) (m : Matter opts f start) (before after : List ℕ) where
  abbrev Told : End → Type 0
  Told end = TellsOrdinaryRun opts limits f start h now before [] after end

  with_lines : (closed : End) (lines : List ℕ) → may_tell_plan closed ≡ true → (is_after_good closed ≡ false → opts.dry_run ≡ false) → StandsSetBack limits closed f h → AreCourseLines opts limits g (sides_in m) m.digest lines → after ≡ before ++ lines → Told closed
  with_lines closed lines may changing stands are is =
      inr (inr (may, changing, stands, (m, lines, lines_before opts limits f g changes (sides_in m) m.digest lines are, is ∙ sym (append-nil (before ++ lines)))))

  pub run_tells_closed : (old new : Counts) (ended : Result End End) (closed : End) → IfOk ended (λ end. is_good end ≡ true) → IfErr ended (Stops old new) → ClosesWith ended closed
      → (mid ≡ g → KeepsButFallen (lets_fall opts.resilient opts.dry_run closed) f h) → TellsCourse opts limits g (sides_in m) m.digest start mid now before after ended → Told closed
  run_tells_closed old new (Ok end) closed well stops is early (inl (only, quiet, untouched, same)) = inr (inl (λ good. only, quiet ∙ sym (append-nil before), untouched, early same))
  run_tells_closed old new (Ok end) closed well stops (inl same) early (inr (lines, are, told)) =
      with_lines closed lines (ap may_tell_plan same ∙ or_true (may_have_changed end) (is_good end) well) (λ bad. false_true (sym bad ∙ ap is_after_good same ∙ good_is_after_good end well)) (good_stands limits f g mid h changes closes end closed well (inl same)) are told
  run_tells_closed old new (Ok end) closed well stops (inr left) early (inr (lines, are, told)) = with_lines closed lines (ap may_tell_plan left) (λ bad. false_true (sym bad ∙ ap is_after_good left)) (good_stands limits f g mid h changes closes end closed well (inr left)) are told
  run_tells_closed old new (Err end) closed well stops same early (inl failed) = inl (ap is_sink_fault same ∙ failed)
  run_tells_closed old new (Err end) closed well stops same early (inr (inl (quiet, untouched, kept))) =
      inr (inl (λ good. absurd (stops_not_after_good old new end stops (ap is_after_good (sym same) ∙ good)), quiet ∙ sym (append-nil before), untouched, early kept))
  run_tells_closed old new (Err end) closed well stops same early (inr (inr (may, changing, stands, (lines, are, told)))) =
      with_lines closed lines (ap may_tell_plan same ∙ or_first (may_have_changed end) (is_good end) may) (λ bad. changing) (stands_closed limits f g mid h changes closes end closed same stands) are told

-- a run that didn't get the lock told nothing
pub tells_unlocked : (opts : Opts) (limits : Limits) (f : WorkFolder) (start : Remotes) (g : WorkFolder) (before : List ℕ) (end : End) → (is_after_good end ≡ true → ⊥) → AreUntouched start start
    → KeepsButFallen (lets_fall opts.resilient opts.dry_run end) f g → TellsOrdinaryRun opts limits f start g start before [] before end
tells_unlocked opts limits f start g before end never untouched kept = inr (inl (λ good. absurd (never good), sym (append-nil before), untouched, kept))
