-- A quoted text from some place after its opening `"` on, piece by piece.
use Rattle.std.specs.Prelude.{◌≡◌, ℕ, ◌<◌, ◌≤◌, Bool, ◌||◌, ◌==◌, List, [], ◌∷◌, ◌++◌, length, take, drop}
use Rattle.std.specs.List.{flat_map}
use Rattle.bisync_text.specs.Quote.{quoted_byte}
use Rattle.bisync_text.specs.declared.unquotes.Piece.{Piece}
use Rattle.bisync_text.specs.declared.unquotes.Piece.TheVariants.{Byte, End, Bad}

-- the bytes as they are quoted, and the closing `"`
abbrev pub quoted_rest : List ℕ → List ℕ
quoted_rest bytes = flat_map quoted_byte bytes ++ 34 ∷ []

-- the rest of some quoted text begins with these bytes
pub record BeginsRest (front : List ℕ) : Type 0 where
  pub bytes : List ℕ
  pub more : List ℕ
  pub joined : quoted_rest bytes ≡ front ++ more

-- the rest of no quoted text, and with its first n bytes, and no more, the rest of some begins
pub record IsBadRest (rest : List ℕ) (n : ℕ) : Type 0 where
  pub within : n ≤ length rest
  pub begins : BeginsRest (take n rest)
  pub longest : (m : ℕ) → n < m → m ≤ length rest → BeginsRest (take m rest) → ⊥
  pub not_whole : (bytes : List ℕ) → rest ≡ quoted_rest bytes → ⊥

-- the digits with which an escape may go on after `\x`: 0, 1, 2, 5 and 7
abbrev pub is_first_digit : ℕ → Bool
is_first_digit digit = (digit == 48) || (digit == 49) || (digit == 50) || (digit == 53) || (digit == 55)

-- n bytes of the rest stand for the byte
pub record IsByte (rest : List ℕ) (byte n : ℕ) : Type 0 where
  pub some : 0 < n
  pub within : n ≤ length rest
  pub stands : rest ≡ quoted_byte byte ++ drop n rest

abbrev pub IsPiece : Piece → List ℕ → Type 0
IsPiece (Byte byte n) rest = IsByte rest byte n
IsPiece End rest = rest ≡ 34 ∷ []
IsPiece (Bad n) rest = IsBadRest rest n
