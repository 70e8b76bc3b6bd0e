-- The passing part of a listing, row by row.
use Rattle.std.proofs.Common.{◌≡◌, ℕ, zero, suc, ◌+◌, ◌<◌, Bool, true, false, cond, List, [], ◌∷◌, ◌++◌, take, length, get_or, Some, refl, ◌∙◌, ap, subst, arith}
use Rattle.std.specs.Prelude.{slice_get}
use Rattle.std.proofs.lemmas.List.Elements.{filter_more}
use Rattle.bisync_tree.specs.Rows.{PathBytes, Rows, keys, values, AreAbove, AreRising, IsAboveLast, passing}
use Rattle.bisync_tree.specs.declared.entries.Entry.{Entry}
use Rattle.bisync_tree.proofs.PassingLemmas.{passing_rising}
use Rattle.bisync_tree.proofs.SearchLemmas.{keys_push}

pub rising_last : (ps : List PathBytes) (p : PathBytes) → AreRising (ps ++ p ∷ []) → IsAboveLast ps p
rising_last [] p h = tt
rising_last (q ∷ []) p h = h.0.0
rising_last (q ∷ r ∷ rs) p h = rising_last (r ∷ rs) p h.1

above_front : (p : PathBytes) (n : ℕ) (rows : Rows) → AreAbove p (keys rows) → AreAbove p (keys (take n rows))
above_front p zero rows h = tt
above_front p (suc n) [] h = tt
above_front p (suc n) (r ∷ rs) h = (h.0, above_front p n rs h.1)

rising_front : (n : ℕ) (rows : Rows) → AreRising (keys rows) → AreRising (keys (take n rows))
rising_front zero rows h = tt
rising_front (suc n) [] h = tt
rising_front (suc n) (r ∷ rs) h = (above_front r.0 n rs h.0, rising_front n rs h.1)

-- the row at a place, by its path and its entry there
row_at : (rows : Rows) (i : ℕ) (p : PathBytes) (e : Entry) → slice_get (keys rows) i ≡ Some p → slice_get (values rows) i ≡ Some e → get_or rows i (p, e) ≡ (p, e)
row_at [] i p e k v = refl
row_at (r ∷ rs) zero p e k v =
    let path : r.0 ≡ p = cc in let entry : r.1 ≡ e = cc in λ j. (path j, entry j)
row_at (r ∷ rs) (suc i) p e k v = row_at rs i p e k v

pub passing_one : (passes : PathBytes → Bool) (rows : Rows) (i : ℕ) (p : PathBytes) (e : Entry) → i < length rows
    → slice_get (keys rows) i ≡ Some p → slice_get (values rows) i ≡ Some e → passes p ≡ true
    → passing passes (take (i + 1) rows) ≡ passing passes (take i rows) ++ (p, e) ∷ []
passing_one passes rows i p e less k v t =
    filter_more (λ (r : PathBytes × Entry). passes r.0) rows i (p, e) less
    ∙ ap (λ (r : PathBytes × Entry). passing passes (take i rows) ++ cond (passes r.0) (r ∷ []) []) (row_at rows i p e k v)
    ∙ ap (λ b. passing passes (take i rows) ++ cond b ((p, e) ∷ []) []) t

key_at : (rows : Rows) (i : ℕ) (p : PathBytes) (r : PathBytes × Entry) → i < length rows → slice_get (keys rows) i ≡ Some p → (get_or rows i r).0 ≡ p
key_at [] i p r less k = absurd (omega arith)
key_at (x ∷ xs) zero p r less k = cc
key_at (x ∷ xs) (suc i) p r less k = key_at xs i p r (omega arith) k

none_more : (passes : PathBytes → Bool) (rows : Rows) (i : ℕ) (p : PathBytes) (r : PathBytes × Entry) → i < length rows
    → slice_get (keys rows) i ≡ Some p → passes p ≡ false
    → passing passes (take (i + 1) rows) ≡ passing passes (take i rows)
none_more passes rows i p r less k f =
    filter_more (λ (r : PathBytes × Entry). passes r.0) rows i r less
    ∙ ap (λ b. passing passes (take i rows) ++ cond b (get_or rows i r ∷ []) []) (ap passes (key_at rows i p r less k) ∙ f)
    ∙ append_nil (passing passes (take i rows))
  where
    append_nil : (xs : Rows) → xs ++ [] ≡ xs
    append_nil [] = refl
    append_nil (x ∷ xs) = ap (λ ys. x ∷ ys) (append_nil xs)

pub passing_none : (passes : PathBytes → Bool) (rows : Rows) (i : ℕ) (p : PathBytes) → i < length rows
    → slice_get (keys rows) i ≡ Some p → passes p ≡ false
    → passing passes (take (i + 1) rows) ≡ passing passes (take i rows)
passing_none passes [] i p less k f = absurd (omega arith)
passing_none passes (r ∷ rs) i p less k f = none_more passes (r ∷ rs) i p r less k f

-- a passing row comes after those that passed before it
pub passing_above : (passes : PathBytes → Bool) (rows : Rows) (i : ℕ) (p : PathBytes) (e : Entry) → AreRising (keys rows) → i < length rows
    → slice_get (keys rows) i ≡ Some p → slice_get (values rows) i ≡ Some e → passes p ≡ true
    → IsAboveLast (keys (passing passes (take i rows))) p
passing_above passes rows i p e rising less k v t =
    let whole : AreRising (keys (passing passes (take (i + 1) rows))) = passing_rising passes (take (i + 1) rows) (rising_front (i + 1) rows rising) in
    let split : keys (passing passes (take (i + 1) rows)) ≡ keys (passing passes (take i rows)) ++ p ∷ [] =
    ap (λ (rs : Rows). keys rs) (passing_one passes rows i p e less k v t) ∙ keys_push (passing passes (take i rows)) p e in
    rising_last (keys (passing passes (take i rows))) p (subst AreRising split whole)
