-- What the kind of an end tells of it, from a held course to the run.
use Rattle.std.proofs.Common.{◌≡◌, ◌≤◌, ◌∙◌, ap, subst, sym, refl, inl, inr, arith, Bool, true, false, List, ℕ, Option, None, Result, Ok, Err}
use Rattle.std.specs.Prelude.{IfOk, IfErr, IsOk}
use Rattle.std.proofs.lemmas.Bool.{false_from_ne_true}
use Rattle.bisync_device.specs.Faults.{Rose}
use Rattle.bisync_device.specs.WorkFolder.{Absent, WorkFolder, Held}
use Rattle.bisync_filter.specs.declared.rule_lists.Rule.{Rule}
use Rattle.bisync_opts.specs.declared.options.Opts.{Opts}
use Rattle.bisync_report.specs.declared.ends.End.{End}
use Rattle.bisync_report.specs.declared.ends.End.TheVariants.{WorkFault, NoFilters, BadRule, Locked, OutOfMemory}
use Rattle.bisync_work.specs.Locks.{ChangesLock}
use Rattle.bisync_work.specs.Moves.{moved_over}
use Rattle.bisync_work.specs.Renames.{AreBegun, fall_renames}
use Rattle.bisync_run.specs.CarryingOut.{AreSetAside}
use Rattle.bisync_run.specs.Closing.{ClosesFall, ClosesWith, Closes, EndsWith, Unlocks}
use Rattle.bisync_run.specs.Counts.{Counts, Stops}
use Rattle.bisync_run.specs.EndKinds.{is_good, is_after_good, has_freed, is_before_lock, is_unlocked, lets_fall, falls_at_close, may_have_changed, may_tell_plan}
use Rattle.bisync_run.specs.FilterRules.{AreRulesOf}
use Rattle.bisync_run.specs.HeldResyncs.{end_of}
use Rattle.bisync_run.specs.KeptNames.{BeginsFall, KeepsButFallen, KeepsOwn}
use Rattle.bisync_run.specs.LockNew.{KeepsLockNew}
use Rattle.bisync_run.specs.ResyncEnds.{IsResyncEnd}
use Rattle.bisync_run.specs.ResyncRuns.{AreSetAsideBy}
use Rattle.bisync_run.proofs.ClosedEnds.{changes_closed}
use Rattle.bisync_run.proofs.EndCases.{false_true}
use Rattle.bisync_run.proofs.EndKindLaws.{good_stays, good_has_freed, freed_is_after_good}
use Rattle.bisync_run.proofs.EndLaws.{rose_within, le_same, stops_not_after_good}

-- # Counts that didn't rise

pub no_rise_last : (a b c d : ℕ) → (Rose a d → ⊥) → a ≤ b → b ≤ c → Rose c d → ⊥
no_rise_last a b c d never first second rose = never (rose_within a c d d (omega arith) (le_same d) rose)

pub no_rise_mid : (a b c d : ℕ) → (Rose a d → ⊥) → a ≤ b → c ≤ d → Rose b c → ⊥
no_rise_mid a b c d never first last rose = never (rose_within a b c d first last rose)

pub no_rise_first : (a b c : ℕ) → (Rose a c → ⊥) → b ≤ c → Rose a b → ⊥
no_rise_first a b c never later rose = never (rose_within a a b c (le_same a) later rose)

-- # The close

pub falls_closed : (resilient dry_run : Bool) (ended : Result End End) (closed : End) → ClosesWith ended closed → lets_fall resilient dry_run closed ≡ false → falls_at_close resilient dry_run ended ≡ false
falls_closed resilient dry_run (Ok end) closed is stays = refl
falls_closed resilient dry_run (Err end) closed same stays = ap (lets_fall resilient dry_run) (sym same) ∙ stays

pub fell_closed : (resilient dry_run : Bool) (ended : Result End End) (closed : End) → IfOk ended (λ end. is_good end ≡ true) → ClosesWith ended closed → lets_fall resilient dry_run closed ≡ true
    → falls_at_close resilient dry_run ended ≡ true
fell_closed resilient dry_run (Ok end) closed well (inl same) fell = absurd (good_stays resilient dry_run end well (ap (lets_fall resilient dry_run) (sym same) ∙ fell))
fell_closed resilient dry_run (Ok end) closed well (inr left) fell = false_true (sym (ap (lets_fall resilient dry_run) left) ∙ fell)
fell_closed resilient dry_run (Err end) closed well same fell = ap (lets_fall resilient dry_run) (sym same) ∙ fell

pub quiet_closed : (ended : Result End End) (closed : End) → ClosesWith ended closed → may_tell_plan closed ≡ false → may_tell_plan (end_of ended) ≡ false
quiet_closed (Ok end) closed (inl same) quiet = ap may_tell_plan (sym same) ∙ quiet
quiet_closed (Ok end) closed (inr left) quiet = false_true (sym quiet ∙ ap may_tell_plan left)
quiet_closed (Err end) closed same quiet = ap may_tell_plan (sym same) ∙ quiet

pub own_closed : (opts : Opts) (ended : Result End End) (closed : End) → ClosesWith ended closed → IsResyncEnd opts (end_of ended) → IsResyncEnd opts closed
own_closed opts (Ok end) closed (inl same) own = subst (IsResyncEnd opts) (sym same) own
own_closed opts (Ok end) closed (inr left) own = subst (IsResyncEnd opts) (sym left) tt
own_closed opts (Err end) closed same own = subst (IsResyncEnd opts) (sym same) own

pub locked_closed : (ended : Result End End) (closed : End) → ClosesWith ended closed → is_unlocked (end_of ended) ≡ false → is_unlocked closed ≡ true → ⊥
locked_closed (Ok end) closed (inl same) locked un = false_true (sym locked ∙ ap is_unlocked (sym same) ∙ un)
locked_closed (Ok end) closed (inr left) locked un = false_true (sym (ap is_unlocked left) ∙ un)
locked_closed (Err end) closed same locked un = false_true (sym locked ∙ ap is_unlocked (sym same) ∙ un)

-- a lock that was removed in any case was removed after a good end
pub freed_was_good : (old mid : Counts) (ended : Result End End) (closed : End) → IfOk ended (λ end. is_good end ≡ true) → IfErr ended (Stops old mid) → ClosesWith ended closed → has_freed closed ≡ true
    → IsOk ended × (is_good closed ≡ true)
freed_was_good old mid (Ok end) closed well stops (inl same) freed = (refl, ap is_good same ∙ well)
freed_was_good old mid (Ok end) closed well stops (inr left) freed = false_true (sym (ap has_freed left) ∙ freed)
freed_was_good old mid (Err end) closed well stops same freed =
    absurd (stops_not_after_good old mid end stops (freed_is_after_good end (ap has_freed (sym same) ∙ freed)))

-- # The folder

-- where nothing but the lock changed before the close
falls_early : (f f2 g h : WorkFolder) → ChangesLock f f2 → ClosesFall g h → g ≡ f2 → BeginsFall f h
falls_early f f2 g h changes closes same = record {
  held = f2;
  fallen = closes.fallen;
  before = changes;
  begun = subst (λ (w : WorkFolder). AreBegun fall_renames w closes.fallen) same closes.begun;
  after = record { rest = ap (λ (w : WorkFolder). record w { lock_new = Absent }) closes.unlocks.rest };
}

kept_where : (falls : Bool) (f f2 g h : WorkFolder) → ChangesLock f f2 → ClosesFall g h → (falls ≡ false → Unlocks g h) → g ≡ f2 → KeepsButFallen falls f h
kept_where true f f2 g h changes closes kept same = inr (refl, falls_early f f2 g h changes closes same)
kept_where false f f2 g h changes closes kept same = inl (changes_closed f f2 g h changes same (kept refl))

pub kept_early : (resilient dry_run : Bool) (ended : Result End End) (closed : End) → ClosesWith ended closed → (f f2 g h : WorkFolder) → ChangesLock f f2 → ClosesFall g h
    → (falls_at_close resilient dry_run ended ≡ false → Unlocks g h) → g ≡ f2 → KeepsButFallen (lets_fall resilient dry_run closed) f h
kept_early resilient dry_run ended closed is f f2 g h changes closes kept same =
    kept_where (lets_fall resilient dry_run closed) f f2 g h changes closes (λ stays. kept (falls_closed resilient dry_run ended closed is stays)) same

pub kept_unlocked : (falls : Bool) (f g : WorkFolder) → ChangesLock f g → KeepsButFallen falls f g
kept_unlocked falls f g changes = inl changes

pub lock_new_closed : (g h : WorkFolder) → Closes g h → KeepsLockNew g h
lock_new_closed g h closes = record { kept = inl (ap (λ (w : WorkFolder). w.lock_new) closes.rest) }

no_digest_of : (name : Option (List ℕ)) (filters : Held) (rules : List Rule) (digest : Option (List ℕ)) → AreRulesOf name filters rules digest → name ≡ None → digest ≡ None
no_digest_of name filters rules digest are none = (subst (λ (n : Option (List ℕ)). AreRulesOf n filters rules digest) none are).1

pub no_digest_closed : (name : Option (List ℕ)) (rules : List Rule) (digest : Option (List ℕ)) (f f2 g h : WorkFolder) → AreRulesOf name f.filters rules digest → name ≡ None
    → ChangesLock f f2 → (digest ≡ None → g.filters_md5 ≡ f2.filters_md5) → Closes g h → h.filters_md5 ≡ f.filters_md5
no_digest_closed name rules digest f f2 g h are none changes kept closes =
    ap (λ (w : WorkFolder). w.filters_md5) closes.rest ∙ kept (no_digest_of name f.filters rules digest are none) ∙ ap (λ (w : WorkFolder). w.filters_md5) changes.rest

pub aside_closed : (opts : Opts) (rules : List Rule) (digest : Option (List ℕ)) (f f2 g h : WorkFolder) → AreRulesOf opts.filters f.filters rules digest
    → ChangesLock f f2 → AreSetAside digest f2 g → Unlocks g h → AreSetAsideBy opts f h
aside_closed opts rules digest f f2 g h are changes x unlocks = (
  rules,
  digest,
  are,
  record {
    one_old = ap (λ (w : WorkFolder). w.one_old) unlocks.rest ∙ x.one_old;
    two_old = ap (λ (w : WorkFolder). w.two_old) unlocks.rest ∙ x.two_old;
    one_new = ap (λ (w : WorkFolder). w.one_new) unlocks.rest ∙ x.one_new;
    two_new = ap (λ (w : WorkFolder). w.two_new) unlocks.rest ∙ x.two_new;
    one_err = ap (λ (w : WorkFolder). w.one_err) unlocks.rest ∙ x.one_err ∙ ap (λ (w : WorkFolder). moved_over w.one (moved_over w.one_old w.one_err)) changes.rest;
    two_err = ap (λ (w : WorkFolder). w.two_err) unlocks.rest ∙ x.two_err ∙ ap (λ (w : WorkFolder). moved_over w.two (moved_over w.two_old w.two_err)) changes.rest;
    stored = ap (λ (w : WorkFolder). w.filters_md5) unlocks.rest ∙ x.stored ∙ ap (λ (w : WorkFolder). Rattle.bisync_run.specs.ResyncWriting.stored digest w.filters_md5) changes.rest;
  },
)

-- # The last line

pub own_told : (opts : Opts) (end last : End) → EndsWith end last → IsResyncEnd opts end → IsResyncEnd opts last
own_told opts end last (inl same) own = subst (IsResyncEnd opts) (sym same) own
own_told opts end last (inr lost) own = subst (IsResyncEnd opts) (sym lost.1) tt

pub early_told : (end last : End) → EndsWith end last → may_have_changed last ≡ false → last ≡ end
early_told end last (inl same) early = same
early_told end last (inr lost) early = false_true (sym early ∙ ap may_have_changed lost.1)

pub fell_told : (resilient dry_run : Bool) (end last : End) → EndsWith end last → lets_fall resilient dry_run last ≡ true → last ≡ end
fell_told resilient dry_run end last (inl same) fell = same
fell_told resilient dry_run end last (inr lost) fell = false_true (sym (ap (lets_fall resilient dry_run) lost.1) ∙ fell)

pub unfallen_told : (resilient dry_run : Bool) (end last : End) → EndsWith end last → lets_fall resilient dry_run last ≡ false → lets_fall resilient dry_run end ≡ false
unfallen_told resilient dry_run end last (inl same) stays = ap (lets_fall resilient dry_run) (sym same) ∙ stays
unfallen_told resilient dry_run end last (inr lost) stays = false_from_ne_true (lets_fall resilient dry_run end) (good_stays resilient dry_run end lost.0)

pub kept_told : (opts : Opts) (end last : End) (f g : WorkFolder) → EndsWith end last → KeepsOwn opts end f g → KeepsOwn opts last f g
kept_told opts end last f g (inl same) kept = subst (λ (e : End). KeepsOwn opts e f g) (sym same) kept
kept_told opts end last f g (inr lost) (inl changes) = inl changes
kept_told opts end last f g (inr lost) (inr fell) = absurd (good_stays opts.resilient opts.dry_run end lost.0 fell.0)

pub freed_told : (end last : End) → EndsWith end last → has_freed last ≡ true → has_freed end ≡ true
freed_told end last (inl same) freed = ap has_freed (sym same) ∙ freed
freed_told end last (inr lost) freed = good_has_freed end lost.0

pub unlocked_told : (end last : End) → EndsWith end last → is_unlocked last ≡ true → last ≡ end
unlocked_told end last (inl same) un = same
unlocked_told end last (inr lost) un = false_true (sym (ap is_unlocked lost.1) ∙ un)

-- a good end comes of a run that got its lock
pub good_is_held : (end : End) → is_good end ≡ true → is_before_lock end ≡ false
good_is_held WorkFault good = false_true good
good_is_held OutOfMemory good = false_true good
good_is_held NoFilters good = false_true good
good_is_held (BadRule line) good = false_true good
good_is_held (Locked until) good = false_true good
good_is_held end good = refl

pub before_told : (end last : End) → EndsWith end last → is_before_lock end ≡ true → is_before_lock last ≡ true
before_told end last (inl same) before = ap is_before_lock same ∙ before
before_told end last (inr lost) before = false_true (sym (good_is_held end lost.0) ∙ before)

pub bad_same : (end last : End) → EndsWith end last → is_after_good last ≡ false → last ≡ end
bad_same end last (inl same) bad = same
bad_same end last (inr lost) bad = false_true (sym bad ∙ ap is_after_good lost.1)

pub bad_told : (end last : End) → EndsWith end last → is_after_good last ≡ false → is_after_good end ≡ false
bad_told end last (inl same) bad = ap is_after_good (sym same) ∙ bad
bad_told end last (inr lost) bad = false_true (sym bad ∙ ap is_after_good lost.1)
