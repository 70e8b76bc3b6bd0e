-- The guards that count, and their conditions.
use Rattle.std.proofs.Common.{◌≡◌, ℕ, ◌*◌, ◌<◌, ◌≤◌, Bool, true, false, cond, ◌&&◌, ◌||◌, List, [], ◌∷◌, length, Some, None, refl, sym, ◌∙◌, ap, arith}
use Rattle.std.specs.Prelude.{bytes_eq, is_some, not, nat_lt, nat_le}
use Rattle.std.specs.List.{list_all}
use Rattle.std.proofs.lemmas.Bool.Decides.{nat_tests}
use Rattle.bisync_tree.specs.Rows.{PathBytes, Rows, keys, look, is_among}
use Rattle.bisync_tree.specs.declared.classes.Class.{Class}
use Rattle.bisync_tree.specs.declared.classes.Class.TheVariants.{Quiet, Fresh, Gone}
use Rattle.bisync_tree.specs.declared.entries.Compare.{Compare}
use Rattle.bisync_tree.specs.declared.options.GuardRule.{GuardRule}
use Rattle.bisync_tree.specs.declared.sides.Side.{Side}
use Rattle.bisync_tree.proofs.LookLemmas.{look_is_some}
use Rattle.bisync_tree.proofs.PathOrder.{same_path}
use Rattle.bisync_tree.proofs.RisingLemmas.{here}
use Rattle.bisync_guard.specs.declared.guards.Guard.{Guard}
use Rattle.bisync_guard.specs.declared.guards.Guard.TheVariants.{EmptyCurrent, TooManyDeletes, AllChanged}
use Rattle.bisync_guard.specs.BasePaths.{is_fresh, class_at, gone_paths, kept_paths, all_are_fresh}
use Rattle.bisync_guard.specs.Order.{empty_current, too_many_deletes, all_changed}
use Rattle.bisync_guard.specs.Conditions.{AreTooMany, AreAllChanged}
use Rattle.bisync_guard.proofs.Picks.{among-filter, among_later}
use Rattle.bisync_guard.proofs.Values.{both_of, guard_is}

-- a guard that a test lets through
passed : (b : Bool) (x g : Guard) → cond b (Some x) None ≡ Some g → (b ≡ true) × (x ≡ g)
passed true x g e = (refl, guard_is e)
passed false x g e = cc

unforced : (f : Bool) → not f ≡ true → f ≡ false
unforced false e = refl
unforced true e = cc

-- nothing is there now
pub empty_sound : (side : Side) (rows : Rows) (g : Guard) → empty_current side rows ≡ Some g → (g ≡ EmptyCurrent side) × (rows ≡ [])
empty_sound side [] g e = (sym (guard_is e), refl)
empty_sound side (r ∷ rs) g e = cc

-- more than the limit are gone
pub deletes_sound : (guards : GuardRule) (c : Compare) (side : Side) (base now : Rows) (g : Guard) → too_many_deletes guards c side base now ≡ Some g
    → (g ≡ TooManyDeletes side (length (gone_paths c base now)) (length base)) × AreTooMany guards c base now (length (gone_paths c base now)) (length base)
deletes_sound guards c side base now g e =
    let p = passed _ _ g e in
    let q = both_of _ _ p.0 in
    (sym p.1, record { unforced = unforced guards.force q.0; gone_are = refl; base_are = refl; over = less _ _ q.1 })
  where
    less : (m n : ℕ) → nat_lt m n ≡ true → m < n
    less m n e = grind (arith, nat_tests)

pub deletes_complete : (guards : GuardRule) (c : Compare) (side : Side) (base now : Rows) (gone n : ℕ) → AreTooMany guards c base now gone n
    → too_many_deletes guards c side base now ≡ Some (TooManyDeletes side gone n)
deletes_complete guards c side base now gone n h =
    (λ i. cond (not (h.unforced i) && nat_lt (guards.max_delete * sym h.base_are i) (sym h.gone_are i * 100)) (Some (TooManyDeletes side (sym h.gone_are i) (sym h.base_are i))) None)
    ∙ ap (λ b. cond b (Some (TooManyDeletes side gone n)) None) (test (guards.max_delete * n) (gone * 100) h.over)
  where
    test : (a b : ℕ) → a < b → nat_lt a b ≡ true
    test a b less = grind (arith, nat_tests)

-- all that are still there are Fresh
among_all : (f : PathBytes → Bool) (ps : List PathBytes) (p : PathBytes) → list_all f ps ≡ true → is_among p ps ≡ true → f p ≡ true
among_all f [] p all among = cc
among_all f (q ∷ qs) p all among = by (bytes_eq p q) refl (λ m. among_all f qs p (both_of _ _ all).1 m) among
  where
    by : (b : Bool) → bytes_eq p q ≡ b → (is_among p qs ≡ true → f p ≡ true) → (b || is_among p qs) ≡ true → f p ≡ true
    by true t rest among = ap f (same_path p q t) ∙ (both_of _ _ all).0
    by false t rest among = rest among

all_among : (f : PathBytes → Bool) (ps : List PathBytes) → ((p : PathBytes) → is_among p ps ≡ true → f p ≡ true) → list_all f ps ≡ true
all_among f [] h = refl
all_among f (q ∷ qs) h = λ i. h q (here q qs) i && all_among f qs (λ p among. h p (among_later p q qs among)) i

fresh_is : (class : Class) → is_fresh class ≡ true → class ≡ Fresh
fresh_is Quiet e = cc
fresh_is Fresh e = refl
fresh_is Gone e = cc

kept_among : (base now : Rows) (p : PathBytes) → is_among p (kept_paths base now) ≡ (is_some (look base p) && is_some (look now p))
kept_among base now p = among-filter (λ p. is_some (look now p)) (keys base) p ∙ ap (λ b. b && is_some (look now p)) (sym (look_is_some base p))

pub changes_sound : (guards : GuardRule) (c : Compare) (side : Side) (base now : Rows) (g : Guard) → all_changed guards c side base now ≡ Some g
    → (g ≡ AllChanged side (length (kept_paths base now))) × AreAllChanged guards c base now (length (kept_paths base now))
changes_sound guards c side base now g e =
    let p = passed _ _ g e in
    let q = both_of _ _ p.0 in
    let r = both_of _ _ q.0 in (
      sym p.1,
      record {
        unforced = unforced guards.force r.0;
        kept_are = refl;
        some = at_least _ r.1;
        fresh = λ path listed there. fresh_is _ (among_all (λ p. is_fresh (class_at c base now p)) (kept_paths base now) path q.1 (kept_among base now path ∙ (λ i. listed i && there i)));
      },
    )
  where
    at_least : (n : ℕ) → nat_le 1 n ≡ true → 1 ≤ n
    at_least n e = grind (arith, nat_tests)

pub changes_complete : (guards : GuardRule) (c : Compare) (side : Side) (base now : Rows) (n : ℕ) → AreAllChanged guards c base now n
    → all_changed guards c side base now ≡ Some (AllChanged side n)
changes_complete guards c side base now n h =
    (λ i. cond (not (h.unforced i) && nat_le 1 (sym h.kept_are i) && fresh i) (Some (AllChanged side (sym h.kept_are i))) None)
    ∙ ap (λ b. cond (b && true) (Some (AllChanged side n)) None) (test n h.some)
  where
    test : (n : ℕ) → 1 ≤ n → nat_le 1 n ≡ true
    test n some = grind (arith, nat_tests)

    fresh : all_are_fresh c base now ≡ true
    fresh = all_among (λ p. is_fresh (class_at c base now p)) (kept_paths base now) (λ p among.
        let both = both_of _ _ (sym (kept_among base now p) ∙ among) in
        ap is_fresh (h.fresh p both.0 both.1))
