-- How far a text may be the beginning of a quoted text.
use Rattle.std.proofs.Common.{◌≡◌, ℕ, ◌+◌, ◌/◌, ◌%◌, ◌<◌, ◌≤◌, ◌⊎◌, inl, inr, true, false, List, [], ◌∷◌, ◌++◌, length, get_or, take, drop, refl, sym, ap, ◌∙◌, append_assoc, arith}
use Rattle.std.proofs.lemmas.Bool.Decides.{nat_tests}
use Rattle.std.proofs.lemmas.Bool.{false≢true, cases_lt, cases_eq}
use Rattle.std.proofs.lemmas.List.{take-append-drop, take-append-le, length-take-le, take_all, append-nil}
use Rattle.bisync_text.specs.Quote.{hex_digit, is_escaped, quoted_byte, IsEscape}
use Rattle.bisync_text.specs.Unquote.{quoted_rest, is_first_digit, BeginsRest, IsBadRest, IsByte}
use Rattle.bisync_text.proofs.Quoting.{is_escaped-cases, quoted_byte-escaped, quoted_byte-plain, quoted_rest-cons}

head_same : (a b : ℕ) (x y : List ℕ) → a ∷ x ≡ b ∷ y → (a ≡ b) × (x ≡ y)
head_same a b x y e = (cc, cc)

-- an escape after its `\`, and what follows it
pub record IsEscapeText (text : List ℕ) : Type 0 where
  pub byte : ℕ
  pub high : ℕ
  pub low : ℕ
  pub after : List ℕ
  pub escape : IsEscape byte high low
  pub is : text ≡ 120 ∷ (high ∷ (low ∷ after))

-- what the rest of a quoted text is, by its first byte
data RestCase (x : ℕ) (xs : List ℕ) : Type 0 where
  closes : x ≡ 34 → xs ≡ [] → RestCase x xs
  plain : is_escaped x ≡ false → RestCase x xs
  escape : x ≡ 92 → IsEscapeText xs → RestCase x xs

rest_case : (bytes : List ℕ) (x : ℕ) (xs : List ℕ) → quoted_rest bytes ≡ x ∷ xs → RestCase x xs
rest_case [] x xs e = let h = head_same 34 x [] xs e in closes (sym h.0) (sym h.1)
rest_case (b ∷ bytes) x xs e =
    let h : quoted_byte b ++ quoted_rest bytes ≡ x ∷ xs = sym (quoted_rest-cons b bytes) ∙ e in
    elim (is_escaped-cases b) [
      | inl s ↦
          let k : 92 ∷ (120 ∷ (hex_digit (b / 16) ∷ (hex_digit (b % 16) ∷ quoted_rest bytes))) ≡ x ∷ xs = rw (quoted_byte-escaped b s) at h in
          let p = head_same _ _ _ _ k in
          escape (sym p.0) (record {
            byte = b;
            high = hex_digit (b / 16);
            low = hex_digit (b % 16);
            after = quoted_rest bytes;
            escape = record { escaped = s; first = refl; second = refl };
            is = sym p.1;
          })
      | inr s ↦
          let k : b ∷ quoted_rest bytes ≡ x ∷ xs = rw (quoted_byte-plain b s) at h in
          let p = head_same _ _ _ _ k in
          plain (rw (← p.0) s)
    ]

escape_case : (xs : List ℕ) → RestCase 92 xs → IsEscapeText xs
escape_case xs (closes e _) = absurd (omega arith)
escape_case xs (plain e) = absurd (false≢true (sym e))
escape_case xs (escape _ h) = h

begins_escape_text : (front : List ℕ) (h : BeginsRest (92 ∷ front)) → IsEscapeText (front ++ h.more)
begins_escape_text front h = escape_case (front ++ h.more) (rest_case h.bytes 92 (front ++ h.more) h.joined)

whole_escape_text : (e bytes : List ℕ) → 92 ∷ e ≡ quoted_rest bytes → IsEscapeText e
whole_escape_text e bytes h = escape_case e (rest_case bytes 92 e (sym h))

take-take : (xs : List ℕ) (n m : ℕ) → n ≤ m → m ≤ length xs → take n (take m xs) ≡ take n xs
take-take xs n m le inside =
    sym (take-append-le n (take m xs) (drop m xs) (omega (arith, length-take-le m xs inside))) ∙ ap (λ (l : List ℕ). take n l) (take-append-drop m xs)

-- what begins a rest has only beginnings of rests
BeginsRest-take : (rest : List ℕ) (n m : ℕ) → n ≤ m → m ≤ length rest → BeginsRest (take m rest) → BeginsRest (take n rest)
BeginsRest-take rest n m le inside h =
    let cut : take m rest ≡ take n rest ++ drop n (take m rest) = sym (take-append-drop n (take m rest)) ∙ ap (λ (l : List ℕ). l ++ drop n (take m rest)) (take-take rest n m le inside) in
    record {
      bytes = h.bytes;
      more = drop n (take m rest) ++ h.more;
      joined = h.joined ∙ ap (λ (l : List ℕ). l ++ h.more) cut ∙ append_assoc (take n rest) (drop n (take m rest)) h.more;
    }

bad_at : (rest : List ℕ) (n : ℕ) → n ≤ length rest → BeginsRest (take n rest) → (n < length rest → BeginsRest (take (n + 1) rest) → ⊥)
    → (n ≡ length rest → (bytes : List ℕ) → rest ≡ quoted_rest bytes → ⊥) → IsBadRest rest n
bad_at rest n within begins next whole = record {
  within = within;
  begins = begins;
  longest = λ m below inside h. next (omega arith) (BeginsRest-take rest (n + 1) m (omega arith) inside h);
  not_whole = λ bytes e. elim (cases_lt n (length rest)) [
    | inl lt ↦ next lt (BeginsRest-take rest (n + 1) (length rest) (omega arith) (omega arith) (record { bytes = bytes; more = []; joined = sym e ∙ sym (append-nil (take (length rest) rest) ∙ take_all (length rest) rest (omega arith)) }))
    | inr ge ↦ whole (omega arith) bytes e
  ];
}

begins_all : (front bytes more : List ℕ) → quoted_rest bytes ≡ front ++ more → BeginsRest front
begins_all front bytes more e = record { bytes = bytes; more = more; joined = e }

begins_nothing : BeginsRest []
begins_nothing = begins_all [] [] (34 ∷ []) refl

begins_backslash : BeginsRest (92 ∷ [])
unfolding quoted_byte
begins_backslash = begins_all (92 ∷ []) (0 ∷ []) (120 ∷ (48 ∷ (48 ∷ (34 ∷ [])))) refl

begins_x : BeginsRest (92 ∷ (120 ∷ []))
unfolding quoted_byte
begins_x = begins_all (92 ∷ (120 ∷ [])) (0 ∷ []) (48 ∷ (48 ∷ (34 ∷ []))) refl

begins_digit : (b high low : ℕ) → IsEscape b high low → BeginsRest (92 ∷ (120 ∷ (high ∷ [])))
begins_digit b high low e =
    begins_all (92 ∷ (120 ∷ (high ∷ []))) (b ∷ []) (low ∷ (34 ∷ []))
    (quoted_rest-cons b [] ∙ ap (λ (l : List ℕ). l ++ 34 ∷ []) (quoted_byte-escaped b e.escaped) ∙ rw (e.first, e.second) refl)

escaped_cases : (b : ℕ) → is_escaped b ≡ true → (b < 32) ⊎ ((b ≡ 34) ⊎ ((b ≡ 92) ⊎ (b ≡ 127)))
escaped_cases b e =
    elim (cases_lt b 32) [
      | inl low ↦ inl low
      | inr high ↦ elim (cases_eq b 34) [
        | inl is ↦ inr (inl is)
        | inr not_34 ↦ elim (cases_eq b 92) [
          | inl is ↦ inr (inr (inl is))
          | inr not_92 ↦ inr (inr (inr (grind (arith, nat_tests))))
        ]
      ]
    ]

pub no_first_digit : (digit : ℕ) → is_first_digit digit ≡ false → (b low : ℕ) → IsEscape b digit low → ⊥
no_first_digit digit none b low e =
    elim (escaped_cases b e.escaped) [
      | inl below ↦ elim (cases_lt b 16) [
        | inl less ↦ let q : b / 16 ≡ 0 = omega arith in absurd (false≢true (sym none ∙ ap is_first_digit (rw q at e.first)))
        | inr more ↦ let q : b / 16 ≡ 1 = omega arith in absurd (false≢true (sym none ∙ ap is_first_digit (rw q at e.first)))
      ]
      | inr other ↦ elim other [
        | inl is ↦ absurd (false≢true (sym none ∙ ap is_first_digit (rw is at e.first)))
        | inr other' ↦ elim other' [
          | inl is ↦ absurd (false≢true (sym none ∙ ap is_first_digit (rw is at e.first)))
          | inr is ↦ absurd (false≢true (sym none ∙ ap is_first_digit (rw is at e.first)))
        ]
      ]
    ]

first_digit : (digit : ℕ) → is_first_digit digit ≡ true → (b : ℕ) × (low : ℕ) × IsEscape b digit low
first_digit digit some =
    elim (cases_eq digit 48) [
      | inl is ↦ (0, 48, record { escaped = refl; first = is; second = refl })
      | inr not_48 ↦ elim (cases_eq digit 49) [
        | inl is ↦ (16, 48, record { escaped = refl; first = is; second = refl })
        | inr not_49 ↦ elim (cases_eq digit 50) [
          | inl is ↦ (34, 50, record { escaped = refl; first = is; second = refl })
          | inr not_50 ↦ elim (cases_eq digit 53) [
            | inl is ↦ (92, 99, record { escaped = refl; first = is; second = refl })
            | inr not_53 ↦ let is : digit ≡ 55 = grind (arith, nat_tests) in (127, 102, record { escaped = refl; first = is; second = refl })
          ]
        ]
      ]
    ]

begins_first_digit : (digit : ℕ) → is_first_digit digit ≡ true → BeginsRest (92 ∷ (120 ∷ (digit ∷ [])))
begins_first_digit digit some = let e = first_digit digit some in begins_digit e.0 digit e.1 e.2

no_escape_text : (e : List ℕ) → length e < 3 → IsEscapeText e → ⊥
no_escape_text e short h = omega (arith, ap length h.is)

-- after a `\` stands no `x`
pub bad_after_backslash : (e : List ℕ) → (0 < length e → get_or e 0 0 ≡ 120 → ⊥) → IsBadRest (92 ∷ e) 1
bad_after_backslash [] no_x =
    bad_at (92 ∷ []) 1 (omega arith) begins_backslash (λ lt h. absurd (omega arith)) (λ _ bytes e. no_escape_text [] (omega arith) (whole_escape_text [] bytes e))
bad_after_backslash (x ∷ e) no_x =
    bad_at (92 ∷ (x ∷ e)) 1 (omega arith) begins_backslash
    (λ lt h. let t = begins_escape_text (x ∷ []) h in no_x (omega arith) (cc (t.is)))
    (λ ends bytes h. absurd (omega arith))

-- after `\x` stands no first digit of an escape
pub bad_after_x : (e : List ℕ) → 0 < length e → get_or e 0 0 ≡ 120 → (1 < length e → is_first_digit (get_or e 1 0) ≡ false) → IsBadRest (92 ∷ e) 2
bad_after_x [] some is_x no_digit = absurd (omega arith)
bad_after_x (x ∷ []) some is_x no_digit =
    rw is_x (bad_at (92 ∷ (120 ∷ [])) 2 (omega arith) begins_x (λ lt h. absurd (omega arith)) (λ _ bytes e. no_escape_text (120 ∷ []) (omega arith) (whole_escape_text (120 ∷ []) bytes e)))
bad_after_x (x ∷ (y ∷ e)) some is_x no_digit =
    rw is_x (bad_at (92 ∷ (120 ∷ (y ∷ e))) 2 (omega arith) begins_x
    (λ lt h. let t = begins_escape_text (120 ∷ (y ∷ [])) h in let same : t.high ≡ y = cc (t.is) in no_first_digit y (no_digit (omega arith)) t.byte t.low (rw same at t.escape))
    (λ ends bytes h. absurd (omega arith)))

-- after `\x` and a first digit stands no second one that makes an escape of them
pub bad_after_digit : (e : List ℕ) → 1 < length e → get_or e 0 0 ≡ 120 → is_first_digit (get_or e 1 0) ≡ true
    → (2 < length e → (b : ℕ) → IsEscape b (get_or e 1 0) (get_or e 2 0) → ⊥) → IsBadRest (92 ∷ e) 3
bad_after_digit [] some is_x first no_digit = absurd (omega arith)
bad_after_digit (x ∷ []) some is_x first no_digit = absurd (omega arith)
bad_after_digit (x ∷ (y ∷ [])) some is_x first no_digit =
    rw is_x (bad_at (92 ∷ (120 ∷ (y ∷ []))) 3 (omega arith) (begins_first_digit y first) (λ lt h. absurd (omega arith)) (λ _ bytes e. no_escape_text (120 ∷ (y ∷ [])) (omega arith) (whole_escape_text (120 ∷ (y ∷ [])) bytes e)))
bad_after_digit (x ∷ (y ∷ (z ∷ e))) some is_x first no_digit =
    rw is_x (bad_at (92 ∷ (120 ∷ (y ∷ (z ∷ e)))) 3 (omega arith) (begins_first_digit y first)
    (λ lt h. let t = begins_escape_text (120 ∷ (y ∷ (z ∷ []))) h in let same : t.high ≡ y = cc (t.is) in let same' : t.low ≡ z = cc (t.is) in no_digit (omega arith) t.byte (rw (same, same') at t.escape))
    (λ ends bytes h. absurd (omega arith)))

-- an escape
pub escape_stands : (e : List ℕ) → 2 < length e → get_or e 0 0 ≡ 120 → (b : ℕ) → IsEscape b (get_or e 1 0) (get_or e 2 0) → IsByte (92 ∷ e) b 4
escape_stands [] some is_x b is = absurd (omega arith)
escape_stands (x ∷ []) some is_x b is = absurd (omega arith)
escape_stands (x ∷ (y ∷ [])) some is_x b is = absurd (omega arith)
escape_stands (x ∷ (y ∷ (z ∷ e))) some is_x b is = record {
  some = omega arith;
  within = omega arith;
  stands = rw (quoted_byte-escaped b is.escaped, is_x) (let first = is.first in let second = is.second in cc);
}

-- after the closing `"` stands a byte more
pub bad_after_end : (rest : List ℕ) → 1 < length rest → get_or rest 0 0 ≡ 34 → IsBadRest rest 1
bad_after_end [] some quote = absurd (omega arith)
bad_after_end (x ∷ []) some quote = absurd (omega arith)
bad_after_end (x ∷ (y ∷ e)) some quote =
    rw quote (bad_at (34 ∷ (y ∷ e)) 1 (omega arith) (begins_all (34 ∷ []) [] [] refl)
    (λ lt h. no_more y h.more (rest_case h.bytes 34 (y ∷ h.more) h.joined)) (λ ends bytes h. absurd (omega arith)))
  where
    no_more : (y : ℕ) (more : List ℕ) → RestCase 34 (y ∷ more) → ⊥
    no_more y more (closes _ e) = cc e
    no_more y more (plain e) = absurd (false≢true (sym e))
    no_more y more (escape e _) = absurd (omega arith)

-- a byte that stands only as an escape
pub bad_at_byte : (rest : List ℕ) → 0 < length rest → is_escaped (get_or rest 0 0) ≡ true → (get_or rest 0 0 ≡ 34 → ⊥) → (get_or rest 0 0 ≡ 92 → ⊥) → IsBadRest rest 0
bad_at_byte [] some is no_quote no_backslash = absurd (omega arith)
bad_at_byte (x ∷ e) some is no_quote no_backslash =
    bad_at (x ∷ e) 0 (omega arith) begins_nothing
    (λ lt h. no_case h.more (rest_case h.bytes x h.more h.joined)) (λ ends bytes h. absurd (omega arith))
  where
    no_case : (more : List ℕ) → RestCase x more → ⊥
    no_case more (closes e _) = no_quote e
    no_case more (plain e) = false≢true (sym e ∙ is)
    no_case more (escape e _) = no_backslash e

-- a byte that stands for itself
pub byte_stands : (rest : List ℕ) → 0 < length rest → is_escaped (get_or rest 0 0) ≡ false → IsByte rest (get_or rest 0 0) 1
byte_stands [] some is = absurd (omega arith)
byte_stands (x ∷ e) some is = record { some = omega arith; within = omega arith; stands = rw (quoted_byte-plain x is) refl }
