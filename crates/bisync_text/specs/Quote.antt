-- Quoted texts: a `"`, then the bytes, then a `"`.
use Rattle.std.specs.Prelude.{◌≡◌, ℕ, ◌+◌, ◌/◌, ◌%◌, ◌<◌, ◌≤◌, Bool, true, ◌||◌, ◌==◌, nat_lt, if◌then◌else◌, List, [], ◌∷◌, ◌++◌, length, take}
use Rattle.std.specs.List.{flat_map}

-- a lower-case hexadecimal digit
abbrev pub hex_digit : ℕ → ℕ
hex_digit d = if nat_lt d 10 then 48 + d else 87 + d

-- whether a byte is written as an escape: `"`, `\`, a byte below 32, or 127
abbrev pub is_escaped : ℕ → Bool
is_escaped b = (b == 34) || (b == 92) || nat_lt b 32 || (b == 127)

-- a byte in a quoted text: itself, or `\x` and two digits
unfoldable pub quoted_byte : ℕ → List ℕ
quoted_byte b = if is_escaped b then 92 ∷ (120 ∷ (hex_digit (b / 16) ∷ (hex_digit (b % 16) ∷ []))) else b ∷ []

-- the byte is written as an escape with these two digits
pub record IsEscape (byte high low : ℕ) : Type 0 where
  pub escaped : is_escaped byte ≡ true
  pub first : high ≡ hex_digit (byte / 16)
  pub second : low ≡ hex_digit (byte % 16)

unfoldable pub quoted : List ℕ → List ℕ
quoted bytes = 34 ∷ (flat_map quoted_byte bytes ++ 34 ∷ [])

-- some quoted text begins with these bytes. Which numbers it quotes past them does not matter: one that is
-- no byte stands for itself, so it is not among them.
pub record BeginsQuoted (front : List ℕ) : Type 0 where
  pub bytes : List ℕ
  pub rest : List ℕ
  pub joined : quoted bytes ≡ front ++ rest

-- n is the length of the longest beginning of the text with which some quoted text begins
pub record IsQuotedLength (text : List ℕ) (n : ℕ) : Type 0 where
  pub within : n ≤ length text
  pub begins : BeginsQuoted (take n text)
  pub longest : (m : ℕ) → n < m → m ≤ length text → BeginsQuoted (take m text) → ⊥

pub record IsBadQuote (text : List ℕ) (n : ℕ) : Type 0 where
  pub not_quoted : (bytes : List ℕ) → text ≡ quoted bytes → ⊥
  pub right : IsQuotedLength text n
