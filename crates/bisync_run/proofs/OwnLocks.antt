-- The lock of a run, from one of its parts to the next.
use Rattle.std.proofs.Common.{◌≡◌, ◌∙◌, ℕ, ℤ, Bool, IsTrue, List, Option, Some, FitsSigned, to_z, of_z, refl, sym, ap, subst, inl, inr}
use Rattle.std.specs.Prelude.{◌⊎◌}
use Rattle.std.proofs.lemmas.Int.{to_z-of_z}
use Rattle.std.specs.Int.{w64}
use Rattle.bisync_filter.specs.declared.rule_lists.Rule.{Rule}
use Rattle.bisync_device.specs.WorkFolder.{Held, Absent, Kept, WorkFolder}
use Rattle.bisync_opts.specs.declared.options.Opts.{Opts}
use Rattle.bisync_work.specs.Locks.{MakesLock, ReplacesLock}
use Rattle.bisync_work.specs.LockTexts.{expiry_of, lock_text}
use Rattle.bisync_report.specs.declared.ends.End.{End}
use Rattle.bisync_run.specs.Closing.{EndsWith}
use Rattle.bisync_run.specs.Entering.{AtMoment, HasSomeRules}
use Rattle.bisync_run.specs.FilterRules.{AreRulesOf}
use Rattle.bisync_run.specs.LeftNames.{IsOwnLock, KeepsOwnLock, LeavesOwnLock}
use Rattle.bisync_run.proofs.ClosedKinds.{good_is_held}
use Rattle.bisync_run.proofs.EndCases.{false_true}

-- the text as the program makes it
text_of : (max_lock : Option ℤ) (lock now : ℤ) → FitsSigned w64 lock → FitsSigned w64 now → max_lock ≡ Some lock
    → Kept (lock_text (expiry_of (to_z w64 (of_z w64 now)) (Some (to_z w64 (of_z w64 lock))))) ≡ Kept (lock_text (expiry_of now max_lock))
text_of max_lock lock now lock_fits now_fits is =
    (λ i. Kept (lock_text (expiry_of (to_z-of_z w64 now now_fits i) (Some (to_z-of_z w64 lock lock_fits i))))) ∙ ap (λ (m : Option ℤ). Kept (lock_text (expiry_of now m))) (sym is)

-- it was written again, or the call failed
pub own_again : (max_lock : Option ℤ) (told : Bool) (moment lock now : ℤ) (old new : Held) → FitsSigned w64 lock → FitsSigned w64 now → max_lock ≡ Some lock → (IsTrue told → now ≡ moment)
    → ReplacesLock (lock_text (expiry_of (to_z w64 (of_z w64 now)) (Some (to_z w64 (of_z w64 lock))))) old new → KeepsOwnLock max_lock told moment old new
own_again max_lock told moment lock now old new lock_fits now_fits is clock (inl same) = inl same
own_again max_lock told moment lock now old new lock_fits now_fits is clock (inr again) = inr (now, clock, again ∙ text_of max_lock lock now lock_fits now_fits is)

module _ (max_lock : Option ℤ) (told : Bool) (moment : ℤ) where
  later : (next : ℤ) (held : Held) → (IsTrue told → next ≡ moment) → IsOwnLock max_lock told next held → IsOwnLock max_lock told moment held
  later next held same own = (own.0, (λ t. own.1 t ∙ same t), own.2)

  -- around the steps, and on a folder that was only looked at before
  pub own_around : (f g h k : Held) → g ≡ f → KeepsOwnLock max_lock told moment g h → k ≡ h → KeepsOwnLock max_lock told moment f k
  own_around f g h k before (inl same) after = inl (after ∙ same ∙ before)
  own_around f g h k before (inr own) after = inr (own.0, own.1, after ∙ own.2)

  -- between two steps
  pub own_next : (next : ℤ) (f g h : Held) → (IsTrue told → next ≡ moment) → KeepsOwnLock max_lock told moment f g → KeepsOwnLock max_lock told next g h → KeepsOwnLock max_lock told moment f h
  own_next next f g h same first (inl again) = own_around f f g h refl first again
  own_next next f g h same first (inr own) = inr (later next h same own)

-- # The whole run

-- rules that were read after the folder was attached
pub some_rules : (name : Option (List ℕ)) (f f2 : WorkFolder) → f2 ≡ f → (rules : List Rule) (digest : Option (List ℕ)) → AreRulesOf name f2.filters rules digest → HasSomeRules name f
some_rules name f f2 same rules digest are = (rules, digest, subst (λ (w : WorkFolder). AreRulesOf name w.filters rules digest) same are)

pub made_since : (max_lock : Option ℤ) (told : Bool) (moment now : ℤ) (f f2 g : WorkFolder) → f2 ≡ f → (IsTrue told → now ≡ moment) → MakesLock (lock_text (expiry_of now max_lock)) f2.lock g.lock
    → AtMoment told moment (λ now. MakesLock (lock_text (expiry_of now max_lock)) f.lock g.lock)
made_since max_lock told moment now f f2 g same clock makes = (now, clock, subst (λ (w : WorkFolder). MakesLock (lock_text (expiry_of now max_lock)) w.lock g.lock) same makes)

module _ (opts : Opts) (told : Bool) (moment : ℤ) (IsKept : Type 0) where
  -- of a run that was closed
  closed : (end : End) (f g h : WorkFolder) → HasSomeRules opts.filters f → IsOwnLock opts.max_lock told moment g.lock → (h.lock ≡ g.lock) ⊎ (h.lock ≡ Absent) → LeavesOwnLock opts told moment end f h IsKept
  closed end f g h rules own (inl same) = inr (inl (rules, (own.0, own.1, same ∙ own.2)))
  closed end f g h rules own (inr gone) = inl (rules, gone)

  pub own_closed : (next : ℤ) (end : End) (f f2 g h : WorkFolder) → HasSomeRules opts.filters f → (IsTrue told → next ≡ moment)
      → IsOwnLock opts.max_lock told moment f2.lock → KeepsOwnLock opts.max_lock told next f2.lock g.lock → (h.lock ≡ g.lock) ⊎ (h.lock ≡ Absent) → LeavesOwnLock opts told moment end f h IsKept
  own_closed next end f f2 g h rules same own (inl stays) closes = closed end f g h rules (own.0, own.1, stays ∙ own.2) closes
  own_closed next end f f2 g h rules same own (inr again) closes = closed end f g h rules (later opts.max_lock told moment next g.lock same again) closes

  -- a lock is left only where it isn't the run's own
  pub own_told : (end last : End) (f g : WorkFolder) → EndsWith end last → LeavesOwnLock opts told moment end f g IsKept → LeavesOwnLock opts told moment last f g IsKept
  own_told end last f g (inl same) own = subst (λ (e : End). LeavesOwnLock opts told moment e f g IsKept) (sym same) own
  own_told end last f g (inr lost) (inl gone) = inl gone
  own_told end last f g (inr lost) (inr (inl own)) = inr (inl own)
  own_told end last f g (inr lost) (inr (inr left)) = false_true (sym (good_is_held end lost.0) ∙ left.0)
