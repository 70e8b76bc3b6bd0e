-- Paths by their places: what a push keeps, and what a search by halves finds.
use Rattle.std.proofs.Common.{◌≡◌, ◌⊎◌, inl, inr, ℕ, zero, suc, ◌+◌, ◌-◌, ◌<◌, ◌≤◌, ◌↔◌, IsTrue, Bool, true, false, ◌||◌, List, [], ◌∷◌, ◌++◌, length, get_or, Option, Some, refl, sym, ◌∙◌, ap, subst, arith}
use Rattle.std.proofs.lemmas.Bool.{cases_lt}
use Rattle.std.specs.Prelude.{bytes_eq, slice_get}
use Rattle.std.specs.Ordering.{is_lt}
use Rattle.std.specs.declared.cmp.Ordering.{Ordering}
use Rattle.std.specs.declared.cmp.Ordering.TheVariants.{Less, Equal, Greater}
use Rattle.bisync_tree.specs.Rows.{PathBytes, Rows, keys, is_among, AreAbove, AreRising, IsAboveLast}
use Rattle.bisync_tree.specs.declared.entries.Entry.{Entry}
use Rattle.bisync_tree.proofs.PathOrder.{order, path_is_itself, below_trans, order_back, below_differs, below_differs'}

first_below : (q : PathBytes) (qs : List PathBytes) (p : PathBytes) → AreRising (q ∷ qs) → IsAboveLast (q ∷ qs) p → order q p ≡ Less
first_below q [] p rising h = h
first_below q (r ∷ rs) p rising h = below_trans q r p rising.0.0 (first_below r rs p rising.1 h)

above_push : (q : PathBytes) (qs : List PathBytes) (p : PathBytes) → AreAbove q qs → order q p ≡ Less → AreAbove q (qs ++ p ∷ [])
above_push q [] p h k = (k, tt)
above_push q (r ∷ rs) p h k = (h.0, above_push q rs p h.1 k)

tail_above : (q : PathBytes) (qs : List PathBytes) (p : PathBytes) → IsAboveLast (q ∷ qs) p → IsAboveLast qs p
tail_above q [] p h = tt
tail_above q (r ∷ rs) p h = h

pub rising_push : (qs : List PathBytes) (p : PathBytes) → AreRising qs → IsAboveLast qs p → AreRising (qs ++ p ∷ [])
rising_push [] p rising h = (tt, tt)
rising_push (q ∷ qs) p rising h = (above_push q qs p rising.0 (first_below q qs p rising h), rising_push qs p rising.1 (tail_above q qs p h))

pub keys_push : (rows : Rows) (p : PathBytes) (e : Entry) → keys (rows ++ (p, e) ∷ []) ≡ keys rows ++ p ∷ []
keys_push [] p e = refl
keys_push (r ∷ rs) p e = ap (λ qs. r.0 ∷ qs) (keys_push rs p e)

pub rising_rows_push : (rows : Rows) (p : PathBytes) (e : Entry) → AreRising (keys rows) → IsAboveLast (keys rows) p → AreRising (keys (rows ++ (p, e) ∷ []))
rising_rows_push rows p e rising h = subst AreRising (sym (keys_push rows p e)) (rising_push (keys rows) p rising h)

-- what stands at a place
pub read_at : {X : Type 0} (xs : List X) (n : ℕ) (x : X) → n < length xs → x ≡ get_or xs n x → slice_get xs n ≡ Some x
read_at [] n x h e = absurd (omega arith)
read_at (y ∷ ys) zero x h e = ap (λ z. Some z) (sym e)
read_at (y ∷ ys) (suc n) x h e = read_at ys n x (omega arith) e

pub key_at : (rows : Rows) (n : ℕ) (x : PathBytes × Entry) → slice_get rows n ≡ Some x → slice_get (keys rows) n ≡ Some x.0
key_at [] n x e = cc
key_at (r ∷ rs) zero x e = let is : r ≡ x = cc in ap (λ y. Some y.0) is
key_at (r ∷ rs) (suc n) x e = key_at rs n x e

pub past_end : (qs : List PathBytes) (k : ℕ) (q : PathBytes) → length qs ≤ k → slice_get qs k ≡ Some q → ⊥
past_end [] k q h e = cc
past_end (r ∷ rs) zero q h e = omega arith
past_end (r ∷ rs) (suc k) q h e = past_end rs k q (omega arith) e

above_at : (p : PathBytes) (qs : List PathBytes) (n : ℕ) (q : PathBytes) → AreAbove p qs → slice_get qs n ≡ Some q → order p q ≡ Less
above_at p [] n q h e = cc
above_at p (r ∷ rs) zero q h e = let is : r ≡ q = cc in subst (λ y. order p y ≡ Less) is h.0
above_at p (r ∷ rs) (suc n) q h e = above_at p rs n q h.1 e

-- an earlier path is the lesser one
pub places_rising : (qs : List PathBytes) (m n : ℕ) (p q : PathBytes) → AreRising qs → m < n → slice_get qs m ≡ Some p → slice_get qs n ≡ Some q → order p q ≡ Less
places_rising [] m n p q rising h e f = cc
places_rising (r ∷ rs) zero zero p q rising h e f = absurd (omega arith)
places_rising (r ∷ rs) zero (suc n) p q rising h e f = let is : r ≡ p = cc in subst (λ z. order z q ≡ Less) is (above_at r rs n q rising.0 f)
places_rising (r ∷ rs) (suc m) zero p q rising h e f = absurd (omega arith)
places_rising (r ∷ rs) (suc m) (suc n) p q rising h e f = places_rising rs m n p q rising.1 (omega arith) e f

-- all paths before a place are less than p
pub record AreBelow (qs : List PathBytes) (low : ℕ) (p : PathBytes) : Type 0 where
  pub each : (k : ℕ) (q : PathBytes) → k < low → slice_get qs k ≡ Some q → order q p ≡ Less

-- all paths from a place on are greater than p
pub record AreBeyond (qs : List PathBytes) (high : ℕ) (p : PathBytes) : Type 0 where
  pub each : (k : ℕ) (q : PathBytes) → high ≤ k → slice_get qs k ≡ Some q → order p q ≡ Less

same_value : {a b : PathBytes} → ◌≡◌ {A = Option PathBytes} (Some a) (Some b) → a ≡ b
same_value e = cc

pub below_step : (qs : List PathBytes) (m : ℕ) (x p : PathBytes) → AreRising qs → slice_get qs m ≡ Some x → order x p ≡ Less → AreBelow qs (m + 1) p
below_step qs m x p rising e o = record { each = λ k y h f. go k y h f (cases_lt k m) }
  where
    go : (k : ℕ) (y : PathBytes) → k < m + 1 → slice_get qs k ≡ Some y → (k < m) ⊎ (m ≤ k) → order y p ≡ Less
    go k y h f (inl l) = below_trans y x p (places_rising qs k m y x rising l f e) o
    go k y h f (inr l) =
        let is : k ≡ m = omega arith in
        subst (λ z. order z p ≡ Less) (same_value (sym e ∙ ap (slice_get qs) (sym is) ∙ f)) o

pub above_step : (qs : List PathBytes) (m : ℕ) (x p : PathBytes) → AreRising qs → slice_get qs m ≡ Some x → order x p ≡ Greater → AreBeyond qs m p
above_step qs m x p rising e o = record { each = λ k y h f. go k y h f (cases_lt m k) }
  where
    go : (k : ℕ) (y : PathBytes) → m ≤ k → slice_get qs k ≡ Some y → (m < k) ⊎ (k ≤ m) → order p y ≡ Less
    go k y h f (inl l) = below_trans p x y (order_back x p o) (places_rising qs m k x y rising l e f)
    go k y h f (inr l) =
        let is : k ≡ m = omega arith in
        subst (λ z. order p z ≡ Less) (same_value (sym e ∙ ap (slice_get qs) (sym is) ∙ f)) (order_back x p o)

absent : (qs : List PathBytes) (p : PathBytes) → ((n : ℕ) (q : PathBytes) → slice_get qs n ≡ Some q → bytes_eq p q ≡ false) → is_among p qs ≡ false
absent [] p h = refl
absent (r ∷ rs) p h = ap (λ b. b || is_among p rs) (h zero r refl) ∙ absent rs p (λ n q e. h (suc n) q e)

-- where the two ends meet the path isn't there
pub searched : (qs : List PathBytes) (p : PathBytes) (low high : ℕ) → high ≤ low → AreBelow qs low p → AreBeyond qs high p → is_among p qs ≡ false
searched qs p low high h below above = absent qs p (λ n q e. go n q e (cases_lt n low))
  where
    go : (n : ℕ) (q : PathBytes) → slice_get qs n ≡ Some q → (n < low) ⊎ (low ≤ n) → bytes_eq p q ≡ false
    go n q e (inl l) = below_differs' q p (below.each n q l e)
    go n q e (inr l) = below_differs p q (above.each n q (omega arith) e)

or_true : (a : Bool) → (a || true) ≡ true
or_true true = refl
or_true false = refl

pub found : (qs : List PathBytes) (n : ℕ) (q p : PathBytes) → slice_get qs n ≡ Some q → q ≡ p → is_among p qs ≡ true
found [] n q p e is = cc
found (r ∷ rs) zero q p e is =
    let t : bytes_eq p r ≡ true = subst (λ x. bytes_eq p x ≡ true) (sym (same_value e ∙ is)) (path_is_itself p) in
    ap (λ b. b || is_among p rs) t
found (r ∷ rs) (suc n) q p e is = ap (λ b. bytes_eq p r || b) (found rs n q p e is) ∙ or_true (bytes_eq p r)

-- the test of the last path
less_test : (o : Ordering) → (o ≡ Less) ↔ IsTrue (is_lt o)
less_test Less = (λ e. refl, λ t. refl)
less_test Equal = (λ e. cc, λ t. cc)
less_test Greater = (λ e. cc, λ t. cc)

pub last_decides : (qs : List PathBytes) (q p : PathBytes) → slice_get qs (length qs - 1) ≡ Some q → IsTrue (is_lt (order q p)) ↔ IsAboveLast qs p
last_decides [] q p e = cc
last_decides (r ∷ []) q p e =
    let is : r ≡ q = same_value e in
    subst (λ x. IsTrue (is_lt (order x p)) ↔ (order r p ≡ Less)) is (flip (less_test (order r p)))
  where
    flip : {A B : Type 0} → A ↔ B → B ↔ A
    flip f = (f.1, f.0)
last_decides (r ∷ s ∷ ss) q p e = last_decides (s ∷ ss) q p (sym (ap (slice_get (r ∷ s ∷ ss)) (shorter (length ss))) ∙ e)
  where
    shorter : (n : ℕ) → suc (suc n) - 1 ≡ suc (suc n - 1)
    shorter n = omega arith

length-keys : (rows : Rows) → length (keys rows) ≡ length rows
length-keys [] = refl
length-keys (r ∷ rs) = ap suc (length-keys rs)

pub last_row_decides : (rows : Rows) (x : PathBytes × Entry) (p : PathBytes) → slice_get rows (length rows - 1) ≡ Some x → IsTrue (is_lt (order x.0 p)) ↔ IsAboveLast (keys rows) p
last_row_decides rows x p e =
    last_decides (keys rows) x.0 p (ap (λ n. slice_get (keys rows) (n - 1)) (length-keys rows) ∙ key_at rows (length rows - 1) x e)
