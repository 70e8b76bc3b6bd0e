-- What is known of the end that a held course has when it is closed.
use Rattle.std.proofs.Common.{◌≡◌, ◌∙◌, ◌&&◌, ◌||◌, ◌++◌, [], ap, subst, sym, refl, inl, inr, Bool, IsTrue, true, false, not, List, ℕ, Result, Ok, Err, OnOk}
use Rattle.std.specs.Prelude.{IfOk, IfErr, IsOk}
use Rattle.std.proofs.lemmas.List.{append-nil}
use Rattle.bisync_tree.specs.declared.options.Limits.{Limits}
use Rattle.bisync_tree.specs.declared.options.Prefer.{Prefer}
use Rattle.bisync_device.specs.WorkFolder.{WorkFolder}
use Rattle.bisync_opts.specs.declared.options.Opts.{Opts}
use Rattle.bisync_report.specs.Status.{falls_of}
use Rattle.bisync_report.specs.declared.ends.End.{End}
use Rattle.bisync_report.specs.declared.ends.End.TheVariants.{RemoteFault, Moved}
use Rattle.bisync_work.specs.Locks.{ChangesLock}
use Rattle.bisync_run.specs.Closing.{ClosesWith, Unlocks}
use Rattle.bisync_run.specs.Counts.{Counts, Stops}
use Rattle.bisync_run.specs.EndKinds.{is_good, is_after_good, is_sink_fault, may_have_changed, may_tell_plan, falls_at_close}
use Rattle.bisync_run.specs.HeldResyncs.{end_of, IsGoodEndOf, TellsPlan}
use Rattle.bisync_run.specs.KeptNames.{FellBefore, IsSideEnd, KeepsOwn}
use Rattle.bisync_run.specs.ResyncRefusals.{AnswersResync, HasNoResyncRefusal}
use Rattle.bisync_run.specs.ResyncRuns.{Matter, sides_in, TellsRun}
use Rattle.bisync_run.specs.Resyncs.{resync_lines}
use Rattle.bisync_run.specs.Sides.{Sides}
use Rattle.bisync_run.specs.Untouched.{AreUntouched, Remotes}
use Rattle.bisync_run.proofs.EndCases.{good_answers, good_is_after_good, false_true}
use Rattle.bisync_run.proofs.EndLaws.{stops_not_good, stops_not_after_good}

pub on_ok : {T E P : Type 0} (r : Result T E) → IsOk r → OnOk r P → P
on_ok (Ok x) is p = p
on_ok (Err e) is p = false_true is

pub bool_cases : (b : Bool) → (b ≡ true → ⊥) → b ≡ false
bool_cases true never = absurd (never refl)
bool_cases false never = refl

pub falls_ok : (resilient dry_run : Bool) (ended : Result End End) → IsOk ended → falls_at_close resilient dry_run ended ≡ false
falls_ok resilient dry_run (Ok end) is = refl
falls_ok resilient dry_run (Err end) is = false_true is

and_false : (b : Bool) → (b && false) ≡ false
and_false true = refl
and_false false = refl

pub falls_dry : (resilient dry_run : Bool) (ended : Result End End) → dry_run ≡ true → falls_at_close resilient dry_run ended ≡ false
falls_dry resilient dry_run (Ok end) dry = refl
falls_dry resilient dry_run (Err end) dry =
    ap (λ (b : Bool). falls_of end && not resilient && not b) dry ∙ and_false (falls_of end && not resilient)

pub changes_closed : (f f2 g h : WorkFolder) → ChangesLock f f2 → g ≡ f2 → Unlocks g h → ChangesLock f h
changes_closed f f2 g h changes same unlocks = record {
  rest = ap (λ (w : WorkFolder). record w { lock_new = Rattle.bisync_device.specs.WorkFolder.Absent }) unlocks.rest
      ∙ ap (λ (w : WorkFolder). record w { lock = Rattle.bisync_device.specs.WorkFolder.Absent; lock_new = Rattle.bisync_device.specs.WorkFolder.Absent }) same
      ∙ changes.rest;
}

pub early_closed : (ended : Result End End) (closed : End) → ClosesWith ended closed → may_have_changed closed ≡ false → may_have_changed (end_of ended) ≡ false
early_closed (Ok end) closed (inl same) early = ap may_have_changed (sym same) ∙ early
early_closed (Ok end) closed (inr stays) early = false_true (sym early ∙ ap may_have_changed stays)
early_closed (Err end) closed same early = ap may_have_changed (sym same) ∙ early

pub answers_closed : (mode : Prefer) (limits : Limits) (f : WorkFolder) (s : Sides) (dry_run : Bool) (ended : Result End End) (closed : End)
    → ClosesWith ended closed → IfErr ended (AnswersResync mode limits f s) → OnOk ended (HasNoResyncRefusal mode limits f s) → IfOk ended (IsGoodEndOf dry_run mode s)
    → AnswersResync mode limits f s closed
answers_closed mode limits f s dry_run (Ok end) closed (inl same) refusal none good =
    subst (AnswersResync mode limits f s) (sym same) (good_answers mode limits f s dry_run end good none)
answers_closed mode limits f s dry_run (Ok end) closed (inr stays) refusal none good = subst (AnswersResync mode limits f s) (sym stays) none
answers_closed mode limits f s dry_run (Err end) closed same refusal none good = subst (AnswersResync mode limits f s) (sym same) refusal

pub numbers_closed : (P : End → Type 0) (old new : Counts) (ended : Result End End) (closed : End)
    → IfErr ended (Stops old new) → ClosesWith ended closed → IfOk ended P → is_good closed ≡ true → P closed
numbers_closed P old new (Ok end) closed stops (inl same) good is = subst P (sym same) good
numbers_closed P old new (Ok end) closed stops (inr stays) good is = false_true (sym (ap is_good stays) ∙ is)
numbers_closed P old new (Err end) closed stops same good is = absurd (stops_not_good old new end stops (ap is_good (sym same) ∙ is))

or_true : (a b : Bool) → b ≡ true → (a || b) ≡ true
or_true true b is = refl
or_true false b is = is

or_first : (a b : Bool) → a ≡ true → (a || b) ≡ true
or_first a b is = ap (λ (x : Bool). x || b) is

-- # What was told

-- no good end is a fault of a side
pub not_side : (end : End) → is_good end ≡ true → IsSideEnd end → ⊥
not_side (RemoteFault side) well is = false_true well
not_side (Moved side path listed read) well is = false_true well
not_side end well is = absurd is

module _ (mode : Prefer) (opts : Opts) (limits : Limits) (tells : Bool) (f h : WorkFolder) (start now : Remotes) (m : Matter opts f start) (IsKept IsAccepted : Type 0) (HasFallen : End → Type 0) (before after : List ℕ) where
  told : after ≡ before ++ resync_lines mode (sides_in m) → after ≡ (before ++ resync_lines mode (sides_in m)) ++ []
  told lines = lines ∙ sym (append-nil (before ++ resync_lines mode (sides_in m)))

  pub tells_closed : (old new : Counts) (ended : Result End End) (closed : End) → IfOk ended (λ end. is_good end ≡ true) → IfErr ended (Stops old new) → ClosesWith ended closed
      → (IsKept → IsTrue tells → KeepsOwn opts closed f h) → (IsAccepted → IsTrue tells → HasNoResyncRefusal mode limits f (sides_in m))
      → ((end : End) → closed ≡ end → HasFallen end → IsTrue tells → FellBefore opts closed f h) → TellsPlan mode opts.dry_run (sides_in m) start now IsKept IsAccepted HasFallen before after ended
      → TellsRun mode opts limits tells f start h now before [] after closed
  tells_closed old new (Ok end) closed well stops (inl same) early ok fell (accepted, lines) =
      inr (inr (ap may_tell_plan same ∙ or_true (may_have_changed end) (is_good end) well, λ bad. false_true (sym bad ∙ ap is_after_good same ∙ good_is_after_good end well), λ t side. absurd (not_side end well (subst IsSideEnd same side)), (m, ok accepted, told lines)))
  tells_closed old new (Ok end) closed well stops (inr stays) early ok fell (accepted, lines) = inr (inr (ap may_tell_plan stays, λ bad. false_true (sym bad ∙ ap is_after_good stays), λ t side. absurd (subst IsSideEnd stays side), (m, ok accepted, told lines)))
  tells_closed old new (Err end) closed well stops same early ok fell (inl failed) = inl (ap is_sink_fault same ∙ failed)
  tells_closed old new (Err end) closed well stops same early ok fell (inr (inl (quiet, untouched, kept))) =
      inr (inl (ap is_after_good same ∙ bool_cases (is_after_good end) (stops_not_after_good old new end stops), quiet ∙ sym (append-nil before), untouched, early kept))
  tells_closed old new (Err end) closed well stops same early ok fell (inr (inr (may, changing, fallen, accepted, lines))) =
      inr (inr (ap may_tell_plan same ∙ or_first (may_have_changed end) (is_good end) may, λ bad. changing, fell end same fallen, (m, ok accepted, told lines)))

-- a run that didn't get the lock told nothing
pub tells_unlocked : (mode : Prefer) (opts : Opts) (limits : Limits) (tells : Bool) (f : WorkFolder) (start : Remotes) (g : WorkFolder) (before : List ℕ) (end : End) → (is_after_good end ≡ true → ⊥) → AreUntouched start start
    → (IsTrue tells → KeepsOwn opts end f g) → TellsRun mode opts limits tells f start g start before [] before end
tells_unlocked mode opts limits tells f start g before end never untouched kept = inr (inl (bool_cases (is_after_good end) never, sym (append-nil before), untouched, kept))

-- the last line stands behind what was told before it
pub tells_last : (mode : Prefer) (opts : Opts) (limits : Limits) (tells : Bool) (f : WorkFolder) (start : Remotes) (g : WorkFolder) (now : Remotes) (before mid after last : List ℕ) (end : End)
    → TellsRun mode opts limits tells f start g now before [] mid end → after ≡ mid ++ last → TellsRun mode opts limits tells f start g now before last after end
tells_last mode opts limits tells f start g now before mid after last end (inl failed) added = inl failed
tells_last mode opts limits tells f start g now before mid after last end (inr (inl (bad, quiet, untouched, kept))) added =
    inr (inl (bad, added ∙ ap (λ (l : List ℕ). l ++ last) (quiet ∙ append-nil before), untouched, kept))
tells_last mode opts limits tells f start g now before mid after last end (inr (inr (may, changing, fell, (m, accepted, lines)))) added =
    inr (inr (may, changing, fell, (m, accepted, added ∙ ap (λ (l : List ℕ). l ++ last) (lines ∙ append-nil (before ++ resync_lines mode (sides_in m))))))
