-- From a table for a test to the table with one more part before it.
use Rattle.std.proofs.Common.{◌≡◌, ◌⊎◌, ℕ, suc, ◌+◌, ◌<◌, ◌≤◌, ◌&&◌, ◌||◌, Bool, true, false, List, [], ◌∷◌, length, get_or, set, ◌-◌, drop, refl, sym, ◌∙◌, ap, arith, add-one, inl, inr, ◌++◌}
use Rattle.std.proofs.Math.Seq.{drop-cons, drop-length}
use Rattle.std.proofs.lemmas.List.{get_or-set_same, get_or-set_other, length-set}
use Rattle.bisync_glob.specs.declared.parts.Simple.{Simple}
use Rattle.std.specs.Prelude.{Option, Some, None, MatchOption, unwrap_or}
use Rattle.bisync_glob.specs.Deciding.{IsTable, IsBlank, one_then, run_then, is_nil, any_then, alternative_then}

-- what is left from i on, by whether a character stands at i
below_or_at : (i n : ℕ) → i ≤ n → (i < n) ⊎ (i ≡ n)
below_or_at i n h = grind arith

pub one_table : (p : ℕ → Bool) (q : List ℕ → Bool) (text : List ℕ) (old new : List Bool) → length new ≡ length text + 1 → ((k : ℕ) → k < length text → get_or new k false ≡ (get_or old (k + 1) false && p (get_or text k 0))) → get_or new (length text) false ≡ false → IsTable q text old → IsTable (one_then p q) text new
one_table p q text old new len each end table = record {
  len = len;
  at = λ i h. elim (below_or_at i (length text) h) [
    | inl below ↦ each i below ∙ rw (drop-cons text i 0 below) (rw (← add-one i) (ap (λ b. b && p (get_or text i 0)) (table.at (i + 1) (omega arith))))
    | inr here ↦ rw here (rw (drop-length text) end)
  ];
}

-- one more entry of a run, at i
pub run_more : (p : ℕ → Bool) (q : List ℕ → Bool) (text : List ℕ) (i : ℕ) (here next now : Bool) → i < length text → here ≡ q (drop i text) → next ≡ run_then p q (drop (i + 1) text) → now ≡ (here || (next && p (get_or text i 0))) → now ≡ run_then p q (drop i text)
run_more p q text i here next now below is_here is_next is_now =
    let opened : drop i text ≡ get_or text i 0 ∷ drop (i + 1) text = drop-cons text i 0 below ∙ rw (add-one i) refl in
    rw opened (is_now ∙ rw is_here (rw is_next (rw opened refl)))

-- the loop's step: the entries from i on are done, and those below are as at first
abbrev pub RunsFrom : (ℕ → Bool) → List ℕ → List Bool → List Bool → ℕ → Type 0
RunsFrom p text old new i = (q : List ℕ → Bool) → IsTable q text old → (k : ℕ) → i ≤ k → k ≤ length text → get_or new k false ≡ run_then p q (drop k text)

pub run_end : (p : ℕ → Bool) (q : List ℕ → Bool) (text : List ℕ) → q (drop (length text) text) ≡ run_then p q (drop (length text) text)
run_end p q text = rw (drop-length text) refl

pub runs_step : (p : ℕ → Bool) (text : List ℕ) (old new : List Bool) (i : ℕ) (v : Bool) → i < length text → length new ≡ length text + 1 → get_or new i false ≡ get_or old i false → v ≡ (get_or new i false || (get_or new (i + 1) false && p (get_or text i 0))) → RunsFrom p text old new (i + 1) → RunsFrom p text old (set new i v) i
runs_step p text old new i v below len kept is done q table k low high =
    elim (below_or_at i k low) [
      | inl above ↦ get_or-set_other new i k v false (omega arith) ∙ done q table k (omega arith) high
      | inr here ↦
          let value : v ≡ run_then p q (drop i text) = run_more p q text i (get_or new i false) (get_or new (i + 1) false) v below (kept ∙ table.at i (omega arith)) (done q table (i + 1) (omega arith) (omega arith)) is in
          rw (← here) (get_or-set_same new i v false (omega arith) ∙ value)
    ]

pub runs_start : (p : ℕ → Bool) (text : List ℕ) (old : List Bool) → RunsFrom p text old old (length text)
runs_start p text old q table k low high =
    let here : k ≡ length text = omega arith in
    table.at k high ∙ rw here (run_end p q text)

pub drop_open : {A : Type 0} (xs : List A) (k : ℕ) (d : A) → 0 < k → k ≤ length xs → drop (k - 1) xs ≡ get_or xs (k - 1) d ∷ drop k xs
drop_open xs k d some low =
    let next : suc (k - 1) ≡ k = omega arith in
    drop-cons xs (k - 1) d (omega arith) ∙ ap (λ n. get_or xs (k - 1) d ∷ drop n xs) next

-- what is left from i on is empty at the end alone
nil_below : (text : List ℕ) (i : ℕ) → i < length text → is_nil (drop i text) ≡ false
nil_below text i below = rw (drop-cons text i 0 below) refl

pub end_table : (text : List ℕ) (filled : List Bool) → length filled ≡ length text + 1 → ((k : ℕ) → get_or filled k false ≡ false) → IsTable is_nil text (set filled (length text) true)
end_table text filled len none = record {
  len = rw (length-set filled (length text) true) len;
  at = λ i h. elim (below_or_at i (length text) h) [
    | inl below ↦ get_or-set_other filled (length text) i true false (omega arith) ∙ none i ∙ sym (nil_below text i below)
    | inr here ↦ rw here (get_or-set_same filled (length text) true false (omega arith) ∙ rw (drop-length text) refl)
  ];
}

pub none_table : (text : List ℕ) (filled : List Bool) → length filled ≡ length text + 1 → ((k : ℕ) → get_or filled k false ≡ false) → IsTable (λ t. false) text filled
none_table text filled len none = record { len = len; at = λ i h. none i }

pub unite_table : (q1 q2 q : List ℕ → Bool) (text : List ℕ) (before other after : List Bool) → ((t : List ℕ) → q t ≡ (q1 t || q2 t)) → IsTable q1 text before → IsTable q2 text other → length after ≡ length text + 1 → ((k : ℕ) → k < length other → get_or after k false ≡ (get_or before k false || get_or other k false)) → IsTable q text after
unite_table q1 q2 q text before other after both first second len each = record {
  len = len;
  at = λ i h. each i (omega (arith, second.len)) ∙ rw (first.at i h) (rw (second.at i h) (sym (both (drop i text))));
}

or_assoc : (x y z : Bool) → (x || (y || z)) ≡ ((x || y) || z)
or_assoc true y z = refl
or_assoc false y z = refl

or_false : (x : Bool) → (x || false) ≡ x
or_false true = refl
or_false false = refl

pub any_more : (alternatives : List (List Simple)) (last : List Simple) (q : List ℕ → Bool) (text : List ℕ) → any_then (alternatives ++ last ∷ []) q text ≡ (any_then alternatives q text || alternative_then last q text)
any_more [] last q text = or_false (alternative_then last q text)
any_more (alternative ∷ others) last q text =
    ap (λ b. alternative_then alternative q text || b) (any_more others last q text)
    ∙ or_assoc (alternative_then alternative q text) (any_then others q text) (alternative_then last q text)

pub and_true : (x : Bool) → (x && true) ≡ x
and_true true = refl
and_true false = refl

-- where nothing is set, nothing is below the end
pub low_or : (found : Option ℕ) (table : List Bool) (n low : ℕ) → low ≡ unwrap_or found n → MatchOption found (IsBlank table (n + 1)) (IsBlank table) → IsBlank table low
low_or None table n low is blank = λ k h. blank k (omega (arith, is))
low_or (Some next) table n low is blank = λ k h. blank k (omega (arith, is))
