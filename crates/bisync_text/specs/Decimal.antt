-- Laws of decimals, which are std's `decimal`, and their form.
use Rattle.std.specs.Prelude.{◌≡◌, ◌↔◌, ◌<◌, ◌≤◌, ◌^◌, ℕ, List, length, codes, slice_index, Some}
use Rattle.std.specs.Fmt.{decimal}
use Rattle.bisync_text.specs.Digits.{value_after}

-- `0`, or one to twenty digits of which the first isn't `0`; n is their value
pub record IsDecimalForm (text : List ℕ) (n : ℕ) : Type 0 where
  pub some : 0 < length text
  pub short : length text ≤ 20
  pub first : slice_index text 0 ≡ 48 → text ≡ codes "0"
  pub value : value_after 0 text ≡ Some n

-- what has the form and this value is the number's decimal, and no other text
abbrev pub HasOneDecimal : ℕ → Type 0
HasOneDecimal n = (text : List ℕ) → IsDecimalForm text n ↔ (text ≡ decimal n)

-- no two numbers have one decimal
abbrev pub HasItsOwnDecimal : ℕ → Type 0
HasItsOwnDecimal n = (other : ℕ) → other < 2 ^ 64 → decimal other ≡ decimal n → other ≡ n

abbrev pub HasNoLeadingZero : ℕ → Type 0
HasNoLeadingZero n = 0 < n → 48 < slice_index (decimal n) 0
