-- The first path in byte order that one side lacks.
use Rattle.std.proofs.Common.{◌≡◌, Bool, true, false, ◌||◌, List, [], ◌∷◌, Option, Some, None, refl, sym, ◌∙◌, ap, subst}
use Rattle.std.specs.Prelude.{bytes_eq, option_map}
use Rattle.std.specs.Option.{option_or}
use Rattle.std.specs.declared.cmp.Ordering.TheVariants.{Less}
use Rattle.bisync_tree.specs.Rows.{PathBytes, Rows, look, is_among, AreAbove, AreRising}
use Rattle.bisync_tree.specs.declared.sides.Side.{Side}
use Rattle.bisync_tree.proofs.PathOrder.{order, same_path}
use Rattle.bisync_tree.proofs.RisingLemmas.{above_trans, absent_below, here}
use Rattle.bisync_guard.specs.declared.guards.Guard.{Guard}
use Rattle.bisync_guard.specs.declared.guards.Guard.TheVariants.{CheckAccess}
use Rattle.bisync_guard.specs.CheckFiles.{lacking_side, first_missing}
use Rattle.bisync_guard.proofs.Picks.{among_later}
use Rattle.bisync_guard.proofs.Values.{guard_is}

abbrev pub lacking_at : Rows → Rows → PathBytes → Option Side
lacking_at now1 now2 p = lacking_side (look now1 p) (look now2 p)

-- of these paths this is the first that a side lacks
pub record IsFirstLacking (now1 now2 : Rows) (ps : List PathBytes) (side : Side) (p : PathBytes) : Type 0 where
  pub among : is_among p ps ≡ true
  pub lacks : lacking_at now1 now2 p ≡ Some side
  pub first : (q : PathBytes) → order q p ≡ Less → is_among q ps ≡ true → lacking_at now1 now2 q ≡ None

above_among : (q p : PathBytes) (qs : List PathBytes) → AreAbove q qs → is_among p qs ≡ true → order q p ≡ Less
above_among q p [] h e = cc
above_among q p (r ∷ rs) h e = by (bytes_eq p r) refl (λ m. above_among q p rs h.1 m) e
  where
    by : (b : Bool) → bytes_eq p r ≡ b → (is_among p rs ≡ true → order q p ≡ Less) → (b || is_among p rs) ≡ true → order q p ≡ Less
    by true t rest e = subst (λ x. order q x ≡ Less) (sym (same_path p r t)) h.0
    by false t rest e = rest e

-- what first_missing finds
pub record Finds (now1 now2 : Rows) (ps : List PathBytes) (guard : Guard) : Type 0 where
  pub side : Side
  pub path : PathBytes
  pub is : guard ≡ CheckAccess side (Some path)
  pub lacking : IsFirstLacking now1 now2 ps side path

pub finds : (now1 now2 : Rows) (ps : List PathBytes) (guard : Guard) → AreRising ps → first_missing now1 now2 ps ≡ Some guard → Finds now1 now2 ps guard
finds now1 now2 [] guard rising e = cc
finds now1 now2 (q ∷ qs) guard rising e = by (lacking_at now1 now2 q) refl (λ h. finds now1 now2 qs guard rising.1 h) e
  where
    by : (v : Option Side) → lacking_at now1 now2 q ≡ v → (first_missing now1 now2 qs ≡ Some guard → Finds now1 now2 qs guard)
        → option_or (option_map (λ side. CheckAccess side (Some q)) v) (first_missing now1 now2 qs) ≡ Some guard → Finds now1 now2 (q ∷ qs) guard
    by (Some side) lacks rest e = record {
      side = side;
      path = q;
      is = sym (guard_is e);
      lacking = record {
        among = here q qs;
        lacks = lacks;
        first = λ r below among. let none = absent_below r (q ∷ qs) (below, above_trans r q qs below rising.0) in cc;
      };
    }
    by None lacks rest e = further (rest e)
      where
        further : Finds now1 now2 qs guard → Finds now1 now2 (q ∷ qs) guard
        further h = record {
          side = h.side;
          path = h.path;
          is = h.is;
          lacking = record {
            among = among_later h.path q qs h.lacking.among;
            lacks = h.lacking.lacks;
            first = λ r below among. at r (bytes_eq r q) refl below among;
          };
        }
          where
            at : (r : PathBytes) (b : Bool) → bytes_eq r q ≡ b → order r h.path ≡ Less → (b || is_among r qs) ≡ true → lacking_at now1 now2 r ≡ None
            at r true t below among = ap (lacking_at now1 now2) (same_path r q t) ∙ lacks
            at r false t below among = h.lacking.first r below among

-- and it finds the first one
pub found : (now1 now2 : Rows) (ps : List PathBytes) (side : Side) (p : PathBytes) → AreRising ps → IsFirstLacking now1 now2 ps side p
    → first_missing now1 now2 ps ≡ Some (CheckAccess side (Some p))
found now1 now2 [] side p rising h = let e = h.among in cc
found now1 now2 (q ∷ qs) side p rising h = by (bytes_eq p q) refl h.among (λ k. found now1 now2 qs side p rising.1 k)
  where
    by : (b : Bool) → bytes_eq p q ≡ b → (b || is_among p qs) ≡ true
        → (IsFirstLacking now1 now2 qs side p → first_missing now1 now2 qs ≡ Some (CheckAccess side (Some p)))
        → first_missing now1 now2 (q ∷ qs) ≡ Some (CheckAccess side (Some p))
    by true t among rest =
        let is : q ≡ p = sym (same_path p q t) in
        ap (λ v. option_or (option_map (λ side. CheckAccess side (Some q)) v) (first_missing now1 now2 qs)) (ap (lacking_at now1 now2) is ∙ h.lacks)
        ∙ ap (λ r. Some (CheckAccess side (Some r))) is
    by false t among rest =
        ap (λ v. option_or (option_map (λ side. CheckAccess side (Some q)) v) (first_missing now1 now2 qs))
        (h.first q (above_among q p qs rising.0 among) (here q qs))
        ∙ rest (record {
          among = among;
          lacks = h.lacks;
          first = λ r below is_in. h.first r below (among_later r q qs is_in);
        })
