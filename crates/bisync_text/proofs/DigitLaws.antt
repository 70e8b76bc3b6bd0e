-- Digits that are read are the digits of the number, and the digits of a number are read as it.
use Rattle.std.proofs.Common.{◌≡◌, ℕ, zero, suc, ◌+◌, ◌-◌, ◌*◌, ◌/◌, ◌%◌, ◌^◌, ◌<◌, ◌≤◌, ◌⊎◌, inl, inr, Bool, true, false, cond, leb, List, [], ◌∷◌, ◌++◌, length, get_or, take, drop, Option, Some, None, refl, sym, subst, ◌∙◌, append_assoc, arith, add-one, drop-cons}
use Rattle.std.proofs.Math.ListN.{drop_of_length-le}
use Rattle.std.proofs.Math.Nat.{pow-le-pow_right}
use Rattle.std.proofs.lemmas.Bool.{cases_lt, leb-true, le-leb, lt-leb, and_parts, and_from, ltb-false, le-ltb}
use Rattle.std.proofs.lemmas.List.{take_at, drop_at, take-append-drop, length-append, length-take, append-nil}
use Rattle.std.specs.List.{All}
use Rattle.std.proofs.lemmas.List.Elements.{All-nil, All-push}
use Rattle.bisync_text.specs.Digits.{IsDigit, ◌>>=◌, padded, is_digit, value_after, number_at, byte_at}

pub digit_yes : (c : ℕ) → 48 ≤ c → c ≤ 57 → is_digit c ≡ true
digit_yes c low high = and_from (leb 48 c) (leb c 57) (le-leb 48 c low) (le-leb c 57 high)

digit_no : (c : ℕ) → (c < 48) ⊎ (57 < c) → is_digit c ≡ false
digit_no c (inl h) = rw (lt-leb 48 c h) refl
digit_no c (inr h) = elim (cases_lt c 48) [ inl lt ↦ rw (lt-leb 48 c lt) refl | inr le ↦ rw (le-leb 48 c le, lt-leb c 57 h) refl ]

pub digit_is : (c : ℕ) → is_digit c ≡ true → (48 ≤ c) × (c ≤ 57)
digit_is c e = let p = and_parts (leb 48 c) (leb c 57) e in (leb-true 48 c p.0, leb-true c 57 p.1)

-- ---- the loop over digits

pub value_more : (n : ℕ) (ds : List ℕ) (i : ℕ) → i < length ds → 48 ≤ get_or ds i 0 → get_or ds i 0 ≤ 57
    → value_after n (drop i ds) ≡ value_after (10 * n + (get_or ds i 0 - 48)) (drop (i + 1) ds)
unfolding value_after
value_more n ds i lt low high = let d : is_digit (get_or ds i 0) ≡ true = digit_yes _ low high in rw (add-one, drop-cons ds i 0, d) refl

pub value_stops : (n : ℕ) (ds : List ℕ) (i : ℕ) → i < length ds → (get_or ds i 0 < 48) ⊎ (57 < get_or ds i 0) → value_after n (drop i ds) ≡ None
unfolding value_after
value_stops n ds i lt h = let d : is_digit (get_or ds i 0) ≡ false = digit_no _ h in rw (drop-cons ds i 0, d) refl

pub value_ends : (n : ℕ) (ds : List ℕ) (i : ℕ) → length ds ≤ i → value_after n (drop i ds) ≡ Some n
unfolding value_after
value_ends n ds i le = rw (drop_of_length-le ds le) refl

pub pow_next : (k : ℕ) → 10 ^ (suc k) ≡ 10 * 10 ^ k
pow_next k = grind arith

pub small_more : (n i c : ℕ) → n < 10 ^ i → c ≤ 57 → 10 * n + (c - 48) < 10 ^ (i + 1)
small_more n i c lt le = rw add-one (rw (pow_next i) (omega arith))

pub small_fits : (n i : ℕ) → n < 10 ^ i → i < 19 → n < 10 ^ 18
small_fits n i lt below = omega (arith, pow-le-pow_right {n = 10} (omega arith) {i = i} {j = 18} (omega arith))

-- ---- the two laws of a number of k digits

padded_push : (k n d : ℕ) → d < 10 → padded (suc k) (10 * n + d) ≡ padded k n ++ (48 + d) ∷ []
unfolding padded
padded_push k n d lt = let q : (10 * n + d) / 10 ≡ n = omega arith in let r : (10 * n + d) % 10 ≡ d = omega arith in rw (q, r) refl

pub length-padded : (k n : ℕ) → length (padded k n) ≡ k
unfolding padded
length-padded zero n = refl
length-padded (suc k) n = length-append (padded k (n / 10)) ((48 + n % 10) ∷ []) ∙ rw (length-padded k (n / 10)) (omega arith)

pub digits_padded : (k n : ℕ) → All IsDigit (padded k n)
unfolding padded
digits_padded zero n = All-nil IsDigit
digits_padded (suc k) n = All-push IsDigit (padded k (n / 10)) (48 + n % 10) (digits_padded k (n / 10)) (omega arith, omega arith)

pub some_is : {A : Type 0} (x y : A) → Some x ≡ Some y → x ≡ y
some_is x y e = cc

pub cases_digit : (c : ℕ) → (is_digit c ≡ true) ⊎ (is_digit c ≡ false)
cases_digit c = elim (is_digit c) as (λ b. (b ≡ true) ⊎ (b ≡ false)) [ true ↦ inl refl | false ↦ inr refl ]

value_takes_on : (front cs : List ℕ) (k n v : ℕ) → front ≡ padded k n → n < 10 ^ k → value_after n cs ≡ Some v → (front ++ cs ≡ padded (k + length cs) v) × (v < 10 ^ (k + length cs))
unfolding value_after
value_takes_on front [] k n v spelled lt e =
    let same : n ≡ v = some_is n v e in
    let len : k + 0 ≡ k = omega arith in
    rw (len, ← same) (append-nil front ∙ spelled, lt)
value_takes_on front (c ∷ cs) k n v spelled lt e =
    elim (cases_digit c) [
      | inl d ↦
          let b = digit_is c d in
          let here : value_after (10 * n + (c - 48)) cs ≡ Some v = sym (rw d refl) ∙ e in
          let char : 48 + (c - 48) ≡ c = omega arith in
          let push : front ++ c ∷ [] ≡ padded (suc k) (10 * n + (c - 48)) = rw spelled (sym (padded_push k n (c - 48) (omega arith) ∙ rw char refl)) in
          let rest = value_takes_on (front ++ c ∷ []) cs (suc k) (10 * n + (c - 48)) v push (rw (pow_next k) (omega arith)) here in
          let len : suc k + length cs ≡ k + suc (length cs) = omega arith in
          let P : ℕ → Type 0 = λ m. (front ++ (c ∷ cs) ≡ padded m v) × (v < 10 ^ m) in
          subst P len (sym (append_assoc front (c ∷ []) cs) ∙ rest.0, rest.1)
      | inr d ↦ let none : None ≡ Some v = sym (rw d refl) ∙ e in absurd (cc)
    ]

pub value_takes : (cs : List ℕ) (v : ℕ) → value_after 0 cs ≡ Some v → (cs ≡ padded (length cs) v) × (v < 10 ^ length cs)
unfolding padded
value_takes cs v e = let r = value_takes_on [] cs 0 0 v refl (omega arith) e in let len : 0 + length cs ≡ length cs = omega arith in rw len at r

pub value_last : (n c : ℕ) (cs : List ℕ) (v : ℕ) → value_after n cs ≡ Some v → 48 ≤ c → c ≤ 57 → value_after n (cs ++ c ∷ []) ≡ Some (10 * v + (c - 48))
unfolding value_after
value_last n c [] v e low high = let same : n ≡ v = some_is n v e in rw (digit_yes c low high, same) refl
value_last n c (x ∷ xs) v e low high =
    elim (cases_digit x) [
      | inl d ↦ let here : value_after (10 * n + (x - 48)) xs ≡ Some v = sym (rw d refl) ∙ e in rw d (value_last (10 * n + (x - 48)) c xs v here low high)
      | inr d ↦ let none : None ≡ Some v = sym (rw d refl) ∙ e in absurd (cc)
    ]

pub value_again : (k n : ℕ) → n < 10 ^ k → value_after 0 (padded k n) ≡ Some n
unfolding padded value_after
value_again zero n lt = let z : n ≡ 0 = omega arith in rw z refl
value_again (suc k) n lt =
    let small : n / 10 < 10 ^ k = let h : n < 10 * 10 ^ k = rw (← pow_next k) lt in omega arith in
    value_last 0 (48 + n % 10) (padded k (n / 10)) (n / 10) (value_again k (n / 10) small) (omega arith) (omega arith)
    ∙ let e : 10 * (n / 10) + (48 + n % 10 - 48) ≡ n = omega arith in rw e refl

pub bind_some : {A B : Type 0} (r : Option A) (f : A → Option B) (y : B) → (r >>= f) ≡ Some y → (x : A) × (r ≡ Some x) × (f x ≡ Some y)
bind_some (Some x) f y e = (x, refl, e)
bind_some None f y e = absurd cc

guard_some : {A : Type 0} (b : Bool) (x : Option A) (y : A) → cond b None x ≡ Some y → (b ≡ false) × (x ≡ Some y)
guard_some true x y e = absurd cc
guard_some false x y e = (refl, e)

pub number_takes : (k : ℕ) (bytes : List ℕ) (x : ℕ × List ℕ) → number_at k bytes ≡ Some x → (bytes ≡ padded k x.0 ++ x.1) × (x.0 < 10 ^ k)
unfolding number_at
number_takes k bytes x e =
    let g = guard_some _ _ x e in
    let long : k ≤ length bytes = ltb-false _ _ g.0 in
    let v = bind_some (value_after 0 (take k bytes)) (λ n. Some (n, drop k bytes)) x g.1 in
    let t = value_takes (take k bytes) v.0 v.1 in
    let len : length (take k bytes) ≡ k = omega (arith, length-take k bytes) in
    let t2 : (take k bytes ≡ padded k v.0) × (v.0 < 10 ^ k) = let P : ℕ → Type 0 = λ m. (take k bytes ≡ padded m v.0) × (v.0 < 10 ^ m) in subst P len t in
    let same : (v.0, drop k bytes) ≡ x = some_is _ x v.2 in
    subst (λ (y : ℕ × List ℕ). (bytes ≡ padded k y.0 ++ y.1) × (y.0 < 10 ^ k)) same (rw (← t2.0) (sym (take-append-drop k bytes)), t2.1)

pub number_again : (k n : ℕ) (rest : List ℕ) → n < 10 ^ k → number_at k (padded k n ++ rest) ≡ Some (n, rest)
unfolding number_at
number_again k n rest lt =
    let len = length-padded k n in
    let long = le-ltb (length (padded k n ++ rest)) k (omega (arith, length-append (padded k n) rest)) in
    rw (long, take_at (padded k n) rest k len, drop_at (padded k n) rest k len, value_again k n lt) refl

pub byte_takes : (b : ℕ) (bytes rest : List ℕ) → byte_at b bytes ≡ Some rest → bytes ≡ b ∷ rest
unfolding byte_at
byte_takes b [] rest e = absurd cc
byte_takes b (c ∷ cs) rest e =
    elim (cases_lt c b) [
      | inl lt ↦ let d : None ≡ Some rest = sym (rw (lt-leb b c lt) refl) ∙ e in absurd (cc)
      | inr le ↦ elim (cases_lt b c) [
        | inl lt ↦ let d : None ≡ Some rest = sym (rw (le-leb b c le, lt-leb c b lt) refl) ∙ e in absurd (cc)
        | inr le2 ↦
            let d : Some cs ≡ Some rest = sym (rw (le-leb b c le, le-leb c b le2) refl) ∙ e in
            let same : c ≡ b = omega arith in rw (same, some_is cs rest d) refl
      ]
    ]

pub byte_again : (b : ℕ) (rest : List ℕ) → byte_at b (b ∷ rest) ≡ Some rest
unfolding byte_at
byte_again b rest = rw (le-leb b b (omega arith)) refl
