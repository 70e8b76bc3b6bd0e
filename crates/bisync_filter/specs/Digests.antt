-- The text of a digest: lower-case hexadecimal digits. 10 is a newline.
use Rattle.std.specs.Prelude.{◌≡◌, ◌⊎◌, ◌==◌, ◌&&◌, ◌||◌, ℕ, Bool, nat_le, List, [], ◌∷◌, ◌++◌, length, slice_index, take, if◌then◌else◌}
use Rattle.std.specs.List.{AllPass}
use Rattle.hex.specs.Hex.{encode_lower, IsBytes}

-- sixteen bytes
abbrev pub IsDigest : List ℕ → Type 0
IsDigest digest = (length digest ≡ 16) × IsBytes digest

-- the digits of the digest, with at most one newline after them
abbrev pub SpellsDigest : List ℕ → List ℕ → Type 0
SpellsDigest digest text = (text ≡ encode_lower digest) ⊎ (text ≡ encode_lower digest ++ 10 ∷ [])

-- `0` to `9` are 48 to 57, and `a` to `f` are 97 to 102
abbrev pub is_lower_digit : ℕ → Bool
is_lower_digit c = (nat_le 48 c && nat_le c 57) || (nat_le 97 c && nat_le c 102)

abbrev pub AreDigits : List ℕ → Type 0
AreDigits text = (length text ≡ 32) × AllPass is_lower_digit text

-- 32 lower-case hexadecimal digits, with at most one newline after them
abbrev pub IsDigestForm : List ℕ → Type 0
IsDigestForm text = AreDigits text ⊎ ((digits : List ℕ) × (text ≡ digits ++ 10 ∷ []) × AreDigits digits)

-- a text without the newline behind 32 bytes
abbrev pub digits_of : List ℕ → List ℕ
digits_of text = if length text == 33 && slice_index text 32 == 10 then take 32 text else text
