-- Decimal digits: a number with a fixed count of digits, and the value of digits.
use Rattle.std.specs.Prelude.{ℕ, zero, suc, ◌+◌, ◌-◌, ◌*◌, ◌/◌, ◌%◌, ◌≤◌, Bool, ◌&&◌, nat_le, nat_lt, if◌then◌else◌, List, [], ◌∷◌, ◌++◌, length, take, drop, Option, Some, None}

infixl 10 ◌>>=◌
abbrev pub ◌>>=◌ : {A B : Type 0} → Option A → (A → Option B) → Option B
(Some x) >>= f = f x
None >>= f = None

-- the number with that many digits, with zeros in front
unfoldable pub padded : ℕ → ℕ → List ℕ
padded zero n = []
padded (suc k) n = padded k (n / 10) ++ (48 + n % 10) ∷ []

abbrev pub IsDigit : ℕ → Type 0
IsDigit b = (48 ≤ b) × (b ≤ 57)

abbrev pub is_digit : ℕ → Bool
is_digit c = nat_le 48 c && nat_le c 57

-- the number that goes on with these digits
unfoldable pub value_after : ℕ → List ℕ → Option ℕ
value_after n [] = Some n
value_after n (c ∷ cs) = if is_digit c then value_after (10 * n + (c - 48)) cs else None

-- the number that k digits at the front spell, and the bytes after them
unfoldable pub number_at : ℕ → List ℕ → Option (ℕ × List ℕ)
number_at k bytes =
    if nat_lt (length bytes) k then None
    else (value_after 0 (take k bytes) >>= λ n. Some (n, drop k bytes))

-- the bytes after that one byte
unfoldable pub byte_at : ℕ → List ℕ → Option (List ℕ)
byte_at b [] = None
byte_at b (c ∷ rest) = if nat_le b c && nat_le c b then Some rest else None
