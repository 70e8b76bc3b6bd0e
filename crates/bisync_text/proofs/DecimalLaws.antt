-- What a caller may know of each decimal.
use Rattle.std.proofs.Common.{◌≡◌, ℕ, zero, suc, ◌+◌, ◌-◌, ◌*◌, ◌/◌, ◌%◌, ◌^◌, ◌<◌, ◌≤◌, inl, inr, List, [], ◌∷◌, length, get_or, None, Some, refl, sym, subst, ap, ◌∙◌, arith, rules}
use Rattle.std.specs.Str.Parse.{AllDigits}
use Rattle.std.proofs.lemmas.Str.Parse.{IsNumeralModel, numerals_by_fold, tells_digits}
use Rattle.std.specs.Fmt.{decimal}
use Rattle.std.specs.List.{All}
use Rattle.std.proofs.lemmas.List.Elements.{All-nil, All-cons, All-push, All-weaker}
use Rattle.std.proofs.lemmas.Fmt.{decimal_by_steps, decimal_injective, decimal_nonempty, length-decimal-le, first_decimal, decimal_digit, decimal-digits_value}
use Rattle.bisync_text.specs.Digits.{IsDigit, value_after}
use Rattle.bisync_text.specs.Decimal.{IsDecimalForm, HasOneDecimal, HasItsOwnDecimal, HasNoLeadingZero}
use Rattle.bisync_text.proofs.DigitLaws.{digit_is, cases_digit, some_is, value_last}

pub own_decimal : (n : ℕ) → n < 2 ^ 64 → HasItsOwnDecimal n
own_decimal n h other h₂ e = decimal_injective other n h₂ h e

pub decimal_some : (n : ℕ) → n < 2 ^ 64 → 0 < length (decimal n)
decimal_some n h = decimal_nonempty n h

pub decimal_short : (n : ℕ) → n < 2 ^ 64 → length (decimal n) ≤ 20
decimal_short n h = length-decimal-le 20 n (omega arith) (omega arith) h

pub decimal_digits : (n : ℕ) → n < 2 ^ 64 → All IsDigit (decimal n)
decimal_digits n h =
    decimal_by_steps (λ (k : ℕ) (ds : List ℕ). All IsDigit ds)
    (λ k lt. All-cons IsDigit (48 + k) [] (omega arith, omega arith) (All-nil IsDigit))
    (λ k ds le all. All-push IsDigit ds (48 + k % 10) all (omega arith, omega arith))
    n h

pub decimal_first : (n : ℕ) → n < 2 ^ 64 → HasNoLeadingZero n
decimal_first n h some = first_decimal n some h

-- a decimal has no newline and no space
pub decimal_plain : (n : ℕ) → n < 2 ^ 64 → All (λ b. (32 < b) × (b < 127)) (decimal n)
decimal_plain n h = All-weaker IsDigit (λ b. (32 < b) × (b < 127)) (λ b d. (omega arith, omega arith)) (decimal n) (decimal_digits n h)

-- ---- the form of a decimal

abbrev read_on : ℕ → List ℕ → ℕ
read_on n [] = n
read_on n (c ∷ cs) = read_on (10 * n + (c - 48)) cs

numerals : IsNumeralModel (AllDigits 10) (read_on 0)
numerals = numerals_by_fold _ tells_digits read_on (search rules)

-- where digits have a value, all are digits, and it is what std reads
value_reads : (n : ℕ) (ds : List ℕ) (v : ℕ) → value_after n ds ≡ Some v → AllDigits 10 ds × (read_on n ds ≡ v)
unfolding value_after
value_reads n [] v e = (tells_digits.empty, some_is n v e)
value_reads n (c ∷ cs) v e =
    elim (cases_digit c) [
      | inl d ↦
          let here : value_after (10 * n + (c - 48)) cs ≡ Some v = sym (rw d refl) ∙ e in
          let rest = value_reads (10 * n + (c - 48)) cs v here in
          (tells_digits.more c cs (digit_is c d) rest.0, rest.1)
      | inr d ↦ let none : None ≡ Some v = sym (rw d refl) ∙ e in absurd (cc)
    ]

value_decimal : (n : ℕ) → n < 2 ^ 64 → value_after 0 (decimal n) ≡ Some n
unfolding value_after
value_decimal n h =
    decimal_by_steps (λ (k : ℕ) (ds : List ℕ). value_after 0 ds ≡ Some k)
    (λ k lt. value_last 0 (48 + k) [] 0 refl (omega arith) (omega arith) ∙ let e : 10 * 0 + (48 + k - 48) ≡ k = omega arith in rw e refl)
    (λ k ds le read. value_last 0 (48 + k % 10) ds (k / 10) read (omega arith) (omega arith) ∙ let e : 10 * (k / 10) + (48 + k % 10 - 48) ≡ k = omega arith in rw e refl)
    n h

-- a decimal that begins with `0` is that of 0
zero_alone : (n : ℕ) → n < 2 ^ 64 → get_or (decimal n) 0 0 ≡ 48 → decimal n ≡ 48 ∷ []
zero_alone zero h e = decimal_digit 0 (omega arith)
zero_alone (suc n) h e = absurd (omega (arith, first_decimal (suc n) (omega arith) h))

decimal_form : (n : ℕ) → n < 2 ^ 64 → IsDecimalForm (decimal n) n
decimal_form n h = record { some = decimal_some n h; short = decimal_short n h; first = zero_alone n h; value = value_decimal n h }

form_decimal : (n : ℕ) → n < 2 ^ 64 → (text : List ℕ) → IsDecimalForm text n → text ≡ decimal n
form_decimal n h text form =
    let read = value_reads 0 text n form.value in
    let lone : get_or text 0 0 ≡ 48 → length text ≡ 1 = λ e. ap length (form.first e) in
    sym (decimal-digits_value numerals text read.0 form.some lone (omega (arith, read.1))) ∙ ap decimal read.1

pub one_decimal : (n : ℕ) → n < 2 ^ 64 → HasOneDecimal n
one_decimal n h text = (form_decimal n h text, λ e. subst (λ t. IsDecimalForm t n) (sym e) (decimal_form n h))
