-- What `parse` reads of one to six digits.
use Rattle.std.proofs.Common.{◌≡◌, ◌≤◌, ◌<◌, ◌^◌, ℕ, Bool, true, false, List, length, ◌&&◌, Some, None, Result, Ok, arith, rules, refl, leb, cond, lit<, IfSome}
use Rattle.std.proofs.lemmas.Bool.{and_parts}
use borrow.Author.Tests.{leb-true}
use Rattle.std.proofs.lemmas.Str.Parse.{IsDigitsTest, IsNumeralModel, numerals_by_value, parse_gives, digits_value_short}
use Rattle.std.specs.Char.{is_ascii_digit}
use Rattle.std.specs.List.{list_all}
use Rattle.std.specs.Result.{result_ok}
use Rattle.std.specs.Str.Parse.{ParsesUnsigned, digits_value}
use Rattle.bisync_opts.specs.Texts.{is_number, number}

tells_digits : IsDigitsTest (λ ds. list_all is_ascii_digit ds ≡ true)
tells_digits = search rules

own : IsNumeralModel (λ ds. list_all is_ascii_digit ds ≡ true) (digits_value 10)
own = numerals_by_value _ tells_digits

-- one to six digits are a number below 10 ^ 6
fits : (most : ℕ) (text : List ℕ) → list_all is_ascii_digit text ≡ true → length text ≤ most → most ≤ 6 → digits_value 10 text < 2 ^ 32
fits most text digits short few =
    let below : digits_value 10 text < 10 ^ 6 = digits_value_short own text 6 digits (omega arith) in
    let small : 10 ^ 6 < 2 ^ 32 = lit< tt in
    omega (arith, below, small)

pub parsed_number : {E : Type 0} (most : ℕ) (text : List ℕ) (r : Result ℕ E) → ParsesUnsigned 32 10 text r → is_number most text ≡ true
    → most ≤ 6 → result_ok r ≡ number most text
parsed_number most text r parses is few =
    let lengths_digits = and_parts (leb 1 (length text) && leb (length text) most) (list_all is_ascii_digit text) is in
    let lengths = and_parts (leb 1 (length text)) (leb (length text) most) lengths_digits.0 in
    let some : 1 ≤ length text = leb-true 1 (length text) lengths.0 in
    let short : length text ≤ most = leb-true (length text) most lengths.1 in
    let ok : r ≡ Ok (digits_value 10 text) = parse_gives own 32 text r parses lengths_digits.1 some (fits most text lengths_digits.1 short few) in
    rw (ok, is) refl

-- six digits are below a million
pub number_bound : (most : ℕ) (text : List ℕ) → most ≤ 6 → IfSome (number most text) (λ n. n < 1000000)
number_bound most text few = go (is_number most text) refl
  where
    go : (is : Bool) → is_number most text ≡ is → IfSome (cond is (Some (digits_value 10 text)) None) (λ n. n < 1000000)
    go false e = tt
    go true e =
        let lengths_digits = and_parts (leb 1 (length text) && leb (length text) most) (list_all is_ascii_digit text) e in
        let lengths = and_parts (leb 1 (length text)) (leb (length text) most) lengths_digits.0 in
        let short : length text ≤ most = leb-true (length text) most lengths.1 in
        let below : digits_value 10 text < 10 ^ 6 = digits_value_short own text 6 lengths_digits.1 (omega arith) in
        omega (arith, below)
