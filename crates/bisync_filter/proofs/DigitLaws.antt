-- Lower-case hexadecimal digits spell a digest, and the text of a digest has no others.
use Rattle.std.proofs.Common.{◌≡◌, ℕ, zero, suc, ◌+◌, ◌-◌, ◌*◌, ◌/◌, ◌%◌, ◌<◌, ◌==◌, ◌&&◌, ◌||◌, not, nat_le, nat_lt, Bool, true, false, if◌then◌else◌, List, [], ◌∷◌, ◌++◌, length, slice_index, refl, sym, ◌∙◌, ap, subst, inl, inr, arith}
use Rattle.std.specs.List.{AllPass}
use Rattle.std.proofs.lemmas.Bool.{and_parts, cases_lt, eqb-true}
use Rattle.std.proofs.lemmas.Bool.Decides.{nat_tests}
use Rattle.std.proofs.lemmas.List.Elements.{All-nil, All-cons, All-head, All-tail}
use Rattle.hex.specs.Hex.{encode_with, encode_lower, lower_digits, IsBytes}
use Rattle.hex.proofs.HexLemmas.{length-encode_with}
use Rattle.bisync_filter.specs.Digests.{IsDigest, IsDigestForm, AreDigits, SpellsDigest, is_lower_digit}

-- a test of each number below another, which computes
abbrev all_below : (ℕ → Bool) → ℕ → Bool
all_below test zero = true
all_below test (suc n) = test n && all_below test n

all_below-at : (test : ℕ → Bool) (n k : ℕ) → all_below test n ≡ true → k < n → test k ≡ true
all_below-at test zero k h lt = absurd (omega arith)
all_below-at test (suc n) k h lt =
    let parts = and_parts (test n) (all_below test n) h in
    elim (cases_lt k n) [
      | inl below ↦ all_below-at test n k parts.1 below
      | inr top ↦
          let e : k ≡ n = omega arith in
          rw e parts.0
    ]

-- the digit of a number below 16 is a lower-case one
digit_of : (n : ℕ) → n < 16 → is_lower_digit (slice_index lower_digits n) ≡ true
digit_of n lt = all_below-at (λ k. is_lower_digit (slice_index lower_digits k)) 16 n refl lt

abbrev value_of : ℕ → ℕ
value_of c = if nat_le c 57 then c - 48 else c - 87

-- a lower-case digit is the digit of its value, and the value is below 16
abbrev is_digit_back : ℕ → Bool
is_digit_back c = not (is_lower_digit c) || (slice_index lower_digits (value_of c) == c && nat_lt (value_of c) 16)

digit_below : (c : ℕ) → is_lower_digit c ≡ true → c < 103
digit_below c h = grind (arith, nat_tests)

digit_back : (c : ℕ) → is_lower_digit c ≡ true → (slice_index lower_digits (value_of c) ≡ c) × (value_of c < 16)
digit_back c h =
    let back : is_digit_back c ≡ true = all_below-at is_digit_back 103 c refl (digit_below c h) in
    let both : (slice_index lower_digits (value_of c) == c && nat_lt (value_of c) 16) ≡ true = chosen (is_lower_digit c) (slice_index lower_digits (value_of c) == c && nat_lt (value_of c) 16) h back in
    let parts = and_parts (slice_index lower_digits (value_of c) == c) (nat_lt (value_of c) 16) both in
    (eqb-true (slice_index lower_digits (value_of c)) c parts.0, below (value_of c) parts.1)
  where
    chosen : (b x : Bool) → b ≡ true → (not b || x) ≡ true → x ≡ true
    chosen true x h k = k
    chosen false x h k = cc h

    below : (n : ℕ) → nat_lt n 16 ≡ true → n < 16
    below n h = grind (arith, nat_tests)

-- the bytes of pairs of digits
abbrev bytes_of : List ℕ → List ℕ
bytes_of [] = []
bytes_of (high ∷ []) = []
bytes_of (high ∷ low ∷ rest) = (value_of high * 16 + value_of low) ∷ bytes_of rest

abbrev HoldsDigit : ℕ → Type 0
HoldsDigit c = is_lower_digit c ≡ true

encode_lower-bytes_of : (digits : List ℕ) → length digits % 2 ≡ 0 → AllPass is_lower_digit digits → encode_lower (bytes_of digits) ≡ digits
unfolding encode_with
encode_lower-bytes_of [] even h = refl
encode_lower-bytes_of (high ∷ []) even h = absurd (omega (arith, even))
encode_lower-bytes_of (high ∷ low ∷ rest) even h =
    let tail = All-tail HoldsDigit high (low ∷ rest) h in
    let front = digit_back high (All-head HoldsDigit high (low ∷ rest) h) in
    let back = digit_back low (All-head HoldsDigit low rest tail) in
    let ih = encode_lower-bytes_of rest (omega (arith, even)) (All-tail HoldsDigit low rest tail) in
    let over : (value_of high * 16 + value_of low) / 16 ≡ value_of high = omega (arith, back.1) in
    let under : (value_of high * 16 + value_of low) % 16 ≡ value_of low = omega (arith, back.1) in
    rw (over, under) (rw (front.0, back.0, ih) refl)

length-bytes_of : (digits : List ℕ) → length digits % 2 ≡ 0 → 2 * length (bytes_of digits) ≡ length digits
length-bytes_of [] even = refl
length-bytes_of (high ∷ []) even = absurd (omega (arith, even))
length-bytes_of (high ∷ low ∷ rest) even = let ih = length-bytes_of rest (omega (arith, even)) in omega (arith, ih)

IsBytes-cons : (b : ℕ) (rest : List ℕ) → b < 256 → IsBytes rest → IsBytes (b ∷ rest)
IsBytes-cons b rest h hs zero = h
IsBytes-cons b rest h hs (suc i) = hs i

IsBytes-bytes_of : (digits : List ℕ) → AllPass is_lower_digit digits → IsBytes (bytes_of digits)
IsBytes-bytes_of [] h = λ i. omega arith
IsBytes-bytes_of (high ∷ []) h = λ i. omega arith
IsBytes-bytes_of (high ∷ low ∷ rest) h =
    let tail = All-tail HoldsDigit high (low ∷ rest) h in
    let front = digit_back high (All-head HoldsDigit high (low ∷ rest) h) in
    let back = digit_back low (All-head HoldsDigit low rest tail) in
    IsBytes-cons (value_of high * 16 + value_of low) (bytes_of rest) (omega (arith, front.1, back.1)) (IsBytes-bytes_of rest (All-tail HoldsDigit low rest tail))

digest_of : (digits : List ℕ) → AreDigits digits → (digest : List ℕ) × IsDigest digest × (digits ≡ encode_lower digest)
digest_of digits (len, all) =
    let even : length digits % 2 ≡ 0 = omega (arith, len) in
    let half = length-bytes_of digits even in
    (bytes_of digits, (omega (arith, len, half), IsBytes-bytes_of digits all), sym (encode_lower-bytes_of digits even all))

-- what has the form spells a digest
pub digest_of-form : (text : List ℕ) → IsDigestForm text → (digest : List ℕ) × IsDigest digest × SpellsDigest digest text
digest_of-form text (inl d) = whole (digest_of text d)
  where
    whole : (digest : List ℕ) × IsDigest digest × (text ≡ encode_lower digest) → (digest : List ℕ) × IsDigest digest × SpellsDigest digest text
    whole (digest, is, e) = (digest, is, inl e)
digest_of-form text (inr (digits, f, d)) = front (digest_of digits d)
  where
    front : (digest : List ℕ) × IsDigest digest × (digits ≡ encode_lower digest) → (digest : List ℕ) × IsDigest digest × SpellsDigest digest text
    front (digest, is, e) = (digest, is, inr (f ∙ ap (λ x. x ++ 10 ∷ []) e))

AllPass-encode_lower : (bytes : List ℕ) → IsBytes bytes → AllPass is_lower_digit (encode_lower bytes)
unfolding encode_with
AllPass-encode_lower [] h = All-nil HoldsDigit
AllPass-encode_lower (b ∷ rest) h =
    let fits : b < 256 = h 0 in
    let high : b / 16 < 16 = omega arith in
    let low : b % 16 < 16 = omega arith in
    All-cons HoldsDigit (slice_index lower_digits (b / 16)) (slice_index lower_digits (b % 16) ∷ encode_lower rest) (digit_of (b / 16) high)
    (All-cons HoldsDigit (slice_index lower_digits (b % 16)) (encode_lower rest) (digit_of (b % 16) low) (AllPass-encode_lower rest (λ k. h (suc k))))

AreDigits-encode_lower : (digest : List ℕ) → IsDigest digest → AreDigits (encode_lower digest)
AreDigits-encode_lower digest (len, bytes) = let twice = length-encode_with lower_digits digest in (omega (arith, len, twice), AllPass-encode_lower digest bytes)

-- what spells a digest has the form
pub form-SpellsDigest : (digest text : List ℕ) → IsDigest digest → SpellsDigest digest text → IsDigestForm text
form-SpellsDigest digest text d (inl e) = inl (subst AreDigits (sym e) (AreDigits-encode_lower digest d))
form-SpellsDigest digest text d (inr e) = inr (encode_lower digest, e, AreDigits-encode_lower digest d)
