-- The first guard that holds, among all that hold.
use Rattle.std.proofs.Common.{◌≡◌, ℕ, zero, suc, ◌+◌, ◌≤◌, ◌↔◌, List, [], ◌∷◌, Option, Some, None, refl, sym, ◌∙◌, ap, subst, arith}
use Rattle.std.specs.Prelude.{slice_get}
use Rattle.bisync_tree.specs.declared.entries.Compare.{Compare}
use Rattle.bisync_tree.specs.declared.options.GuardRule.{GuardRule}
use Rattle.bisync_tree.specs.declared.sides.Side.TheVariants.{One, Two}
use Rattle.bisync_tree.specs.declared.views.View.{View}
use Rattle.bisync_guard.specs.declared.guards.Guard.{Guard}
use Rattle.bisync_guard.specs.declared.guards.Guard.TheVariants.{CheckAccess, EmptyCurrent, TooManyDeletes, AllChanged}
use Rattle.bisync_guard.specs.Order.{empty_current, guards_in_order, first_of, first_guard}
use Rattle.bisync_guard.specs.Conditions.{IsGuard, place}
use Rattle.bisync_guard.proofs.CheckFileGuard.{IsAccess, access_sound, missing_found, nowhere_found}
use Rattle.bisync_guard.proofs.CountGuards.{empty_sound, deletes_sound, deletes_complete, changes_sound, changes_complete}
use Rattle.bisync_guard.proofs.Values.{guard_is}

-- a guard that a test gives is one of this place, whose condition holds
abbrev Sound : GuardRule → Compare → View → ℕ → Option Guard → Type 0
Sound guards c view k test = (g : Guard) → test ≡ Some g → IsGuard guards c view g × (place g ≡ k)

abbrev AreSound : GuardRule → Compare → View → ℕ → List (Option Guard) → Type 0
AreSound guards c view k [] = Unit {0}
AreSound guards c view k (test ∷ tests) = Sound guards c view k test × AreSound guards c view (suc k) tests

got : {a b : Option Guard} → ◌≡◌ {A = Option (Option Guard)} (Some a) (Some b) → a ≡ b
got e = cc

first_holds : (guards : GuardRule) (c : Compare) (view : View) (k : ℕ) (tests : List (Option Guard)) (g : Guard) → AreSound guards c view k tests → first_of tests ≡ Some g → IsGuard guards c view g
first_holds guards c view k [] g sound e = cc
first_holds guards c view k (None ∷ tests) g sound e = first_holds guards c view (suc k) tests g sound.1 e
first_holds guards c view k (Some h ∷ tests) g sound e = (sound.0 g e).0

first_is_least : (guards : GuardRule) (c : Compare) (view : View) (k i : ℕ) (tests : List (Option Guard)) (g h : Guard) → AreSound guards c view k tests → first_of tests ≡ Some g
    → slice_get tests i ≡ Some (Some h) → place g ≤ k + i
first_is_least guards c view k i [] g h sound e at = cc
first_is_least guards c view k zero (None ∷ tests) g h sound e at = let f = got at in cc
first_is_least guards c view k (suc i) (None ∷ tests) g h sound e at = omega (arith, first_is_least guards c view (suc k) i tests g h sound.1 e at)
first_is_least guards c view k i (Some f ∷ tests) g h sound e at = omega (arith, (sound.0 g e).1)

none_is_none : (i : ℕ) (tests : List (Option Guard)) (h : Guard) → first_of tests ≡ None → slice_get tests i ≡ Some (Some h) → ⊥
none_is_none i [] h e at = cc
none_is_none zero (None ∷ tests) h e at = let f = got at in cc
none_is_none (suc i) (None ∷ tests) h e at = none_is_none i tests h e at
none_is_none i (Some f ∷ tests) h e at = cc

access_at : (guards : GuardRule) (c : Compare) (view : View) (g : Guard) → IsAccess guards.check view g → IsGuard guards c view g × (place g ≡ 0)
access_at guards c view (CheckAccess One None) h = (h, refl)
access_at guards c view (CheckAccess Two None) h = absurd h
access_at guards c view (CheckAccess side (Some p)) h = (h, refl)
access_at guards c view (EmptyCurrent side) h = absurd h
access_at guards c view (TooManyDeletes side gone n) h = absurd h
access_at guards c view (AllChanged side n) h = absurd h

-- a guard is the one that a test gives
is_given : (guards : GuardRule) (c : Compare) (view : View) (k : ℕ) (g h : Guard) → g ≡ h → IsGuard guards c view h × (place h ≡ k) → IsGuard guards c view g × (place g ≡ k)
is_given guards c view k g h is given = subst (λ x. IsGuard guards c view x × (place x ≡ k)) (sym is) given

all_sound : (guards : GuardRule) (c : Compare) (view : View) → AreSound guards c view 0 (guards_in_order guards c view)
all_sound guards c view = (
  λ g e. access_at guards c view g (access_sound guards.check view g e),
  (
    λ g e. let h = empty_sound One view.now1 g e in is_given guards c view 1 g _ h.0 (h.1, refl),
    (
      λ g e. let h = empty_sound Two view.now2 g e in is_given guards c view 2 g _ h.0 (h.1, refl),
      (
        λ g e. let h = deletes_sound guards c One view.base1 view.now1 g e in is_given guards c view 3 g _ h.0 (h.1, refl),
        (
          λ g e. let h = deletes_sound guards c Two view.base2 view.now2 g e in is_given guards c view 4 g _ h.0 (h.1, refl),
          (
            λ g e. let h = changes_sound guards c One view.base1 view.now1 g e in is_given guards c view 5 g _ h.0 (h.1, refl),
            (
              λ g e. let h = changes_sound guards c Two view.base2 view.now2 g e in is_given guards c view 6 g _ h.0 (h.1, refl),
              tt,
            ),
          ),
        ),
      ),
    ),
  ),
)

-- a guard whose condition holds stands at its place
at_place : (guards : GuardRule) (c : Compare) (view : View) (g : Guard) → IsGuard guards c view g → slice_get (guards_in_order guards c view) (place g) ≡ Some (Some g)
at_place guards c view (CheckAccess One None) h = ap Some (nowhere_found guards.check view h)
at_place guards c view (CheckAccess Two None) h = absurd h
at_place guards c view (CheckAccess side (Some p)) h = ap Some (missing_found guards.check view side p h)
at_place guards c view (EmptyCurrent One) h = ap (λ rows. Some (empty_current One rows)) h
at_place guards c view (EmptyCurrent Two) h = ap (λ rows. Some (empty_current Two rows)) h
at_place guards c view (TooManyDeletes One gone n) h = ap Some (deletes_complete guards c One view.base1 view.now1 gone n h)
at_place guards c view (TooManyDeletes Two gone n) h = ap Some (deletes_complete guards c Two view.base2 view.now2 gone n h)
at_place guards c view (AllChanged One n) h = ap Some (changes_complete guards c One view.base1 view.now1 n h)
at_place guards c view (AllChanged Two n) h = ap Some (changes_complete guards c Two view.base2 view.now2 n h)

pub answer_holds : (guards : GuardRule) (c : Compare) (view : View) (g : Guard) → first_guard guards c view ≡ Some g → IsGuard guards c view g
answer_holds guards c view g e = first_holds guards c view 0 (guards_in_order guards c view) g (all_sound guards c view) e

pub nothing_before : (guards : GuardRule) (c : Compare) (view : View) (g h : Guard) → first_guard guards c view ≡ Some g → IsGuard guards c view h → place g ≤ place h
nothing_before guards c view g h e holds =
    omega (arith, first_is_least guards c view 0 (place h) (guards_in_order guards c view) g h (all_sound guards c view) e (at_place guards c view h holds))

pub none_exactly : (guards : GuardRule) (c : Compare) (view : View) → (first_guard guards c view ≡ None) ↔ ((g : Guard) → IsGuard guards c view g → ⊥)
none_exactly guards c view = (
  λ e g holds. none_is_none (place g) (guards_in_order guards c view) g e (at_place guards c view g holds),
  λ none. by none (first_guard guards c view) refl,
)
  where
    by : ((g : Guard) → IsGuard guards c view g → ⊥) → (v : Option Guard) → first_guard guards c view ≡ v → v ≡ None
    by none None e = refl
    by none (Some g) e = absurd (none g (answer_holds guards c view g e))

pub one_at_a_place : (guards : GuardRule) (c : Compare) (view : View) (g h : Guard) → IsGuard guards c view g → IsGuard guards c view h → place g ≡ place h → g ≡ h
one_at_a_place guards c view g h a b same =
    guard_is (got (sym (at_place guards c view g a) ∙ ap (slice_get (guards_in_order guards c view)) same ∙ at_place guards c view h b))

pub first_is_answer : (guards : GuardRule) (c : Compare) (view : View) (g : Guard) → IsGuard guards c view g
    → ((h : Guard) → IsGuard guards c view h → place g ≤ place h) → first_guard guards c view ≡ Some g
first_is_answer guards c view g holds first = by (first_guard guards c view) refl
  where
    by : (v : Option Guard) → first_guard guards c view ≡ v → v ≡ Some g
    by None e = absurd ((none_exactly guards c view).0 e g holds)
    by (Some h) e =
        let given : IsGuard guards c view h = answer_holds guards c view h e in
        let before : place h ≤ place g = nothing_before guards c view h g e holds in
        let behind : place g ≤ place h = first h given in
        ap Some (one_at_a_place guards c view h g given holds (omega arith))
