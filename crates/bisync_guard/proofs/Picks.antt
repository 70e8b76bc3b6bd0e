-- Paths picked out of rising paths.
use Rattle.std.proofs.Common.{◌≡◌, Bool, true, false, cond, ◌&&◌, ◌||◌, not, List, [], ◌∷◌, refl, sym, ◌∙◌, ap}
use Rattle.std.specs.Prelude.{bytes_eq, filter}
use Rattle.std.specs.List.{list_all}
use Rattle.bisync_tree.specs.Rows.{PathBytes, is_among, AreAbove, AreRising}
use Rattle.bisync_tree.proofs.PathOrder.{same_path}
use Rattle.bisync_tree.proofs.RisingLemmas.{rising_same}
use Rattle.bisync_guard.proofs.Values.{and_false, or_true}

above-filter : (f : PathBytes → Bool) (p : PathBytes) (ps : List PathBytes) → AreAbove p ps → AreAbove p (filter f ps)
above-filter f p [] h = tt
above-filter f p (q ∷ qs) h = by (f q) (above-filter f p qs h.1)
  where
    by : (b : Bool) → AreAbove p (filter f qs) → AreAbove p (cond b (q ∷ filter f qs) (filter f qs))
    by true rest = (h.0, rest)
    by false rest = rest

pub rising-filter : (f : PathBytes → Bool) (ps : List PathBytes) → AreRising ps → AreRising (filter f ps)
rising-filter f [] h = tt
rising-filter f (q ∷ qs) h = by (f q) (rising-filter f qs h.1)
  where
    by : (b : Bool) → AreRising (filter f qs) → AreRising (cond b (q ∷ filter f qs) (filter f qs))
    by true rest = (above-filter f q qs h.0, rest)
    by false rest = rest

pub among-filter : (f : PathBytes → Bool) (ps : List PathBytes) (p : PathBytes) → is_among p (filter f ps) ≡ (is_among p ps && f p)
among-filter f [] p = refl
among-filter f (q ∷ qs) p = by (f q) (bytes_eq p q) refl refl (among-filter f qs p)
  where
    by : (b e : Bool) → f q ≡ b → bytes_eq p q ≡ e → is_among p (filter f qs) ≡ (is_among p qs && f p)
        → is_among p (cond b (q ∷ filter f qs) (filter f qs)) ≡ ((e || is_among p qs) && f p)
    by true true picked e rest = ap (λ x. x || is_among p (filter f qs)) e ∙ sym (ap f (same_path p q e) ∙ picked)
    by true false picked e rest = ap (λ x. x || is_among p (filter f qs)) e ∙ rest
    by false true picked e rest =
        let left : f p ≡ false = ap f (same_path p q e) ∙ picked in
        rest ∙ ap (λ x. is_among p qs && x) left ∙ and_false (is_among p qs) ∙ sym left
    by false false picked e rest = rest

pub among_later : (p q : PathBytes) (qs : List PathBytes) → is_among p qs ≡ true → is_among p (q ∷ qs) ≡ true
among_later p q qs e = ap (λ b. bytes_eq p q || b) e ∙ or_true (bytes_eq p q)

-- rising paths from which the same is picked
pub same_picks : (f g : PathBytes → Bool) (ps qs : List PathBytes) → AreRising ps → AreRising qs
    → ((p : PathBytes) → (is_among p ps && f p) ≡ (is_among p qs && g p)) → filter f ps ≡ filter g qs
same_picks f g ps qs a b same =
    rising_same (filter f ps) (filter g qs) (rising-filter f ps a) (rising-filter g qs b)
    (λ p. among-filter f ps p ∙ same p ∙ sym (among-filter g qs p))

pub list_all-filter : (f g : PathBytes → Bool) (ps : List PathBytes) → list_all (λ p. not (g p) || f p) ps ≡ list_all f (filter g ps)
list_all-filter f g [] = refl
list_all-filter f g (p ∷ ps) = by (g p) (list_all-filter f g ps)
  where
    by : (b : Bool) → list_all (λ p. not (g p) || f p) ps ≡ list_all f (filter g ps)
        → ((not b || f p) && list_all (λ p. not (g p) || f p) ps) ≡ list_all f (cond b (p ∷ filter g ps) (filter g ps))
    by true rest = ap (λ x. f p && x) rest
    by false rest = rest
