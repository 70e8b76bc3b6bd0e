-- What a fall would leave under the -err names, past the moves of a run.
use Rattle.std.proofs.Common.{◌≡◌, ◌≤◌, ◌∙◌, ℕ, List, Option, Bool, true, false, refl, sym, ap, subst, inl, inr, ⊎_elim, Result, Ok, Err}
use Rattle.std.specs.Prelude.{◌⊎◌, IfErr, IfOk}
use Rattle.bisync_device.specs.Faults.{Rose}
use Rattle.bisync_device.specs.Remote.{KeepsTree, RemoteState}
use Rattle.bisync_device.specs.WorkFolder.{Held, Absent, Kept, Loose, WorkFolder}
use Rattle.bisync_device.specs.declared.works.WorkName.TheVariants as name
use Rattle.bisync_filter.specs.declared.rule_lists.Rule.{Rule}
use Rattle.bisync_opts.specs.declared.options.Opts.{Opts}
use Rattle.bisync_work.specs.declared.bases.Pair.{Pair}
use Rattle.bisync_work.specs.declared.bases.Pair.TheVariants.{Current, Mixed, Old}
use Rattle.bisync_work.specs.Locks.{ChangesLock}
use Rattle.bisync_work.specs.Moves.{IsFallen, moved_over}
use Rattle.bisync_work.specs.NewListings.{but_new}
use Rattle.bisync_work.specs.Renames.{after_renames, back_renames}
use Rattle.bisync_work.proofs.RenameLaws.{over, renamed_over}
use Rattle.bisync_report.specs.declared.ends.End.{End}
use Rattle.bisync_run.specs.Closing.{Closes, ClosesWith, Unlocks}
use Rattle.bisync_run.specs.EndKinds.{falls_at_close, is_after_good, is_good, lets_fall}
use Rattle.bisync_run.specs.FilterRules.{AreRulesOf}
use Rattle.bisync_run.specs.KeptNames.{FellBefore, IsSideEnd, StoresRules}
use Rattle.bisync_run.specs.LeftNames.{FallsAs, FellWith, StaysOrFell}
use Rattle.bisync_run.specs.ResyncWriting.{AreRewritten, stored}
use Rattle.bisync_run.proofs.CloseLaws.{fell_before, fell_past}
use Rattle.bisync_run.proofs.ClosedEnds.{changes_closed}
use Rattle.bisync_run.proofs.EndCases.{false_true, good_is_after_good}
use Rattle.bisync_run.proofs.EndLaws.{rose_since}

pub falls_as_same : (f g : WorkFolder) → g ≡ f → FallsAs f g
falls_as_same f g same = record {
  one = ap (λ (w : WorkFolder). moved_over w.one (moved_over w.one_old w.one_err)) same;
  two = ap (λ (w : WorkFolder). moved_over w.two (moved_over w.two_old w.two_err)) same;
}

pub falls_as_twice : {f g h : WorkFolder} → FallsAs f g → FallsAs g h → FallsAs f h
falls_as_twice first second = record { one = second.one ∙ first.one; two = second.two ∙ first.two }

pub lock_falls_as : (f g : WorkFolder) → ChangesLock f g → FallsAs f g
lock_falls_as f g changes = record {
  one = ap (λ (w : WorkFolder). moved_over w.one (moved_over w.one_old w.one_err)) changes.rest;
  two = ap (λ (w : WorkFolder). moved_over w.two (moved_over w.two_old w.two_err)) changes.rest;
}

-- # An ordinary run

new_falls_as : (f g : WorkFolder) → but_new g ≡ but_new f → FallsAs f g
new_falls_as f g rest = record {
  one = ap (λ (w : WorkFolder). moved_over w.one (moved_over w.one_old w.one_err)) rest;
  two = ap (λ (w : WorkFolder). moved_over w.two (moved_over w.two_old w.two_err)) rest;
}

over_again : (a b c : Held) → moved_over (moved_over a b) c ≡ moved_over a (moved_over b c)
over_again Absent b c = refl
over_again (Kept bytes) b c = refl
over_again (Loose bytes) b c = refl

one_back : (f : WorkFolder) → FallsAs f (over name.One name.OneOld f)
one_back f = record { one = over_again f.one f.one_old f.one_err; two = refl }

two_back : (f : WorkFolder) → FallsAs f (over name.Two name.TwoOld f)
two_back f = record { one = refl; two = over_again f.two f.two_old f.two_err }

set_back_falls_as : (pair : Pair) (f : WorkFolder) → FallsAs f (after_renames (back_renames pair) f)
set_back_falls_as Current f =
    subst (FallsAs f) (sym (renamed_over name.Two name.TwoOld _ ∙ ap (over name.Two name.TwoOld) (renamed_over name.One name.OneOld f)))
    (falls_as_twice (one_back f) (two_back (over name.One name.OneOld f)))
set_back_falls_as Mixed f = subst (FallsAs f) (sym (renamed_over name.Two name.TwoOld f)) (two_back f)
set_back_falls_as Old f = falls_as_same f f refl

pub written_falls_as : (pair : Pair) (f g h : WorkFolder) → but_new g ≡ but_new f → h ≡ after_renames (back_renames pair) g → FallsAs f h
written_falls_as pair f g h rest done = falls_as_twice (new_falls_as f g rest) (subst (FallsAs g) (sym done) (set_back_falls_as pair g))

-- # A resync

moved_nothing : (a b c d : Held) → a ≡ Absent → b ≡ Absent → c ≡ d → moved_over a (moved_over b c) ≡ d
moved_nothing a b c d first second same = ap (λ (x : Held). moved_over x (moved_over b c)) first ∙ ap (λ (x : Held). moved_over x c) second ∙ same

pub rewritten_falls_as : {digest : Option (List ℕ)} (f g : WorkFolder) → AreRewritten digest f g → FallsAs f g
rewritten_falls_as f g is = record {
  one = moved_nothing g.one g.one_old g.one_err _ is.one is.one_old is.one_err;
  two = moved_nothing g.two g.two_old g.two_err _ is.two is.two_old is.two_err;
}

pub rewritten_fell : {digest : Option (List ℕ)} (f g h : WorkFolder) → AreRewritten digest f g → ChangesLock g h → FellWith digest f h
rewritten_fell f g h is lock = (
  record {
    one = ap (λ (w : WorkFolder). w.one) lock.rest ∙ is.one;
    two = ap (λ (w : WorkFolder). w.two) lock.rest ∙ is.two;
    one_old = ap (λ (w : WorkFolder). w.one_old) lock.rest ∙ is.one_old;
    two_old = ap (λ (w : WorkFolder). w.two_old) lock.rest ∙ is.two_old;
    one_err = ap (λ (w : WorkFolder). w.one_err) lock.rest ∙ is.one_err;
    two_err = ap (λ (w : WorkFolder). w.two_err) lock.rest ∙ is.two_err;
  },
  ap (λ (w : WorkFolder). w.filters_md5) lock.rest ∙ is.stored,
)

fallen_falls_as : (f g : WorkFolder) → IsFallen f g → FallsAs f g
fallen_falls_as f g is = record {
  one = moved_nothing g.one g.one_old g.one_err _ is.one is.one_old is.one_err;
  two = moved_nothing g.two g.two_old g.two_err _ is.two is.two_old is.two_err;
}

-- of a resync that failed and was closed, the listings fell or nothing but the lock changed
pub resync_fell : (opts : Opts) (rules : List Rule) (digest : Option (List ℕ)) (IsKept : Type 0) (ended : Result End End) (end : End) (f f2 g h : WorkFolder) → AreRulesOf opts.filters f.filters rules digest
    → IfOk ended (λ e. is_good e ≡ true) → ClosesWith ended end → is_after_good end ≡ false → ChangesLock f f2 → Closes g h → IfErr ended (λ e. ((g ≡ f2) × IsKept) ⊎ FellWith digest f2 g)
    → (falls_at_close opts.resilient opts.dry_run ended ≡ false → Unlocks g h) → (falls_at_close opts.resilient opts.dry_run ended ≡ true → IsFallen g h) → StaysOrFell opts end f h IsKept
resync_fell opts rules digest IsKept (Ok good) end f f2 g h are well (inl same) bad lock closes left kept fell = false_true (sym bad ∙ ap is_after_good same ∙ good_is_after_good good well)
resync_fell opts rules digest IsKept (Ok good) end f f2 g h are well (inr stays) bad lock closes left kept fell = false_true (sym bad ∙ ap is_after_good stays)
resync_fell opts rules digest IsKept (Err e) end f f2 g h are well same bad lock closes left kept fell = by_fall (falls_at_close opts.resilient opts.dry_run (Err e)) refl
  where
    locked : f2.filters_md5 ≡ f.filters_md5
    locked = ap (λ (w : WorkFolder). w.filters_md5) lock.rest

    closed : h.filters_md5 ≡ g.filters_md5
    closed = ap (λ (w : WorkFolder). w.filters_md5) closes.rest

    falls_so : ((g ≡ f2) × IsKept) ⊎ FellWith digest f2 g → FallsAs f2 g
    falls_so (inl stays) = falls_as_same f2 g stays.0
    falls_so (inr fallen) = fallen_falls_as f2 g fallen.0

    digest_same : g ≡ f2 → h.filters_md5 ≡ f.filters_md5
    digest_same stays = closed ∙ ap (λ (w : WorkFolder). w.filters_md5) stays ∙ locked

    stores : FellWith digest f2 g → StoresRules opts f h
    stores fallen = (rules, digest, are, closed ∙ fallen.1 ∙ ap (stored digest) locked)

    unlocked : ((g ≡ f2) × IsKept) ⊎ FellWith digest f2 g → Unlocks g h → StaysOrFell opts end f h IsKept
    unlocked (inl stays) only = inl (stays.1, inl (changes_closed f f2 g h lock stays.0 only))
    unlocked (inr fallen) only = inr (fell_before f f2 f2 h lock (falls_as_same f2 f2 refl) (fell_past f2 g h fallen.0 only), stores fallen)

    fell_now : lets_fall opts.resilient opts.dry_run end ≡ true → ((g ≡ f2) × IsKept) ⊎ FellWith digest f2 g → IsFallen f h → StaysOrFell opts end f h IsKept
    fell_now falls (inl stays) is = inl (stays.1, inr (falls, is, digest_same stays.0))
    fell_now falls (inr fallen) is = inr (is, stores fallen)

    by_fall : (b : Bool) → falls_at_close opts.resilient opts.dry_run (Err e) ≡ b → StaysOrFell opts end f h IsKept
    by_fall true falls = fell_now (ap (lets_fall opts.resilient opts.dry_run) same ∙ falls) left (fell_before f f2 g h lock (falls_so left) (fell falls))
    by_fall false stays = unlocked left (kept stays)

-- and when its last line is told
pub resync_fell_told : {IsKept : Type 0} (opts : Opts) (end last : End) (f h : WorkFolder) → last ≡ end → StaysOrFell opts end f h IsKept → StaysOrFell opts last f h IsKept
resync_fell_told opts end last f h same fell = ⊎_elim (λ early. inl (early.0, ⊎_elim inl (λ fallen. inr (ap (lets_fall opts.resilient opts.dry_run) same ∙ fallen.0, fallen.1, fallen.2)) early.1)) inr fell

-- what fell before the steps still has, when the run is closed
pub fell_late : (opts : Opts) (rules : List Rule) (digest : Option (List ℕ)) (end closed : End) (f f2 g h : WorkFolder) → AreRulesOf opts.filters f.filters rules digest → ChangesLock f f2 → Closes g h
    → closed ≡ end → (IsSideEnd end → FellWith digest f2 g) → ((k : WorkFolder) → IsFallen k g → IsFallen k h) → FellBefore opts closed f h
fell_late opts rules digest end closed f f2 g h are lock closes same fell stays side =
    let was = fell (subst IsSideEnd same side) in (
      fell_before f f2 f2 h lock (falls_as_same f2 f2 refl) (stays f2 was.0),
      (rules, digest, are, ap (λ (w : WorkFolder). w.filters_md5) closes.rest ∙ was.1 ∙ ap (λ (w : WorkFolder). stored digest w.filters_md5) lock.rest),
    )

-- # From one part of a run to the next

pub falls_as_held : (f f2 g : WorkFolder) (w w2 w3 : ℕ) → f2 ≡ f → w2 ≡ w → ((Rose w2 w3 → ⊥) → FallsAs f2 g) → (Rose w w3 → ⊥) → FallsAs f g
falls_as_held f f2 g w w2 w3 same steady falls never =
    subst (λ (h : WorkFolder). FallsAs h g) same (falls (λ rose. never (subst (λ (n : ℕ). Rose n w3) steady rose)))

pub fell_held : (P : WorkFolder → Type 0) (f f2 : WorkFolder) (w w2 w3 : ℕ) → f2 ≡ f → w2 ≡ w → ((Rose w2 w3 → ⊥) → P f2) → (Rose w w3 → ⊥) → P f
fell_held P f f2 w w2 w3 same steady fell never = subst P same (fell (λ rose. never (subst (λ (n : ℕ). Rose n w3) steady rose)))

-- a call that failed rose the count
pub never_rose : {P : Type 0} (a b c : ℕ) → a ≤ b → Rose b c → (Rose a c → ⊥) → P
never_rose a b c later rose never = absurd (never (rose_since a b c rose later))

-- what holds of an end that isn't good holds where listings fall
pub where_it_falls : {P : Type 0} (resilient dry_run : Bool) (ended : Result End End) → falls_at_close resilient dry_run ended ≡ true → IfErr ended (λ end. P) → P
where_it_falls resilient dry_run (Ok end) falls p = false_true falls
where_it_falls resilient dry_run (Err end) falls p = p

-- a side that nothing was done to
pub keeps_tree_same : (tells : Bool) (a : RemoteState) → KeepsTree tells a a
keeps_tree_same tells a t = record { tree = refl; changes = refl; folders = refl }

pub keeps_tree_twice : (tells : Bool) (a b c : RemoteState) → KeepsTree tells a b → KeepsTree tells b c → KeepsTree tells a c
keeps_tree_twice tells a b c first second t = record {
  tree = (second t).tree ∙ (first t).tree;
  changes = (second t).changes ∙ (first t).changes;
  folders = (second t).folders ∙ (first t).folders;
}
