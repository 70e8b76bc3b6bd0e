-- Which tokens of a pattern are at fault, and where they stand.
use Rattle.std.specs.Prelude.{◌≡◌, ◌≢◌, ◌⊎◌, ◌<◌, ℕ, List, length, get_or, take, map, sum_by}
use Rattle.std.specs.Char.{len_utf8}
use Rattle.bisync_glob.specs.declared.tokens.Piece.{Piece}
use Rattle.bisync_glob.specs.declared.tokens.Piece.TheVariants.{Open, Comma, Close, Bad}
use Rattle.bisync_glob.specs.declared.tokens.Token.{Token}
use Rattle.bisync_glob.specs.declared.faults.FaultKind.{FaultKind}
use Rattle.bisync_glob.specs.declared.faults.FaultKind.TheVariants.{Brace}

abbrev pub pieces : List Token → List Piece
pieces tokens = map (λ (token : Token). token.piece) tokens

-- past the last token there is no brace
abbrev pub piece_at : List Token → ℕ → Piece
piece_at tokens k = get_or (pieces tokens) k Comma

-- the token k stands inside braces: behind a `{`, with no `}` between them
abbrev pub IsInside : List Token → ℕ → Type 0
IsInside tokens k = (j : ℕ) × (j < k) × (piece_at tokens j ≡ Open) × ((i : ℕ) → j < i → i < k → piece_at tokens i ≢ Close)

-- no `}` stands behind the token k
abbrev pub IsUnclosed : List Token → ℕ → Type 0
IsUnclosed tokens k = (i : ℕ) → k < i → i < length tokens → piece_at tokens i ≢ Close

-- a `{` inside braces, a `{` that no `}` closes, or a `}` outside braces
abbrev pub IsBraceFault : List Token → ℕ → Type 0
IsBraceFault tokens k =
    ((piece_at tokens k ≡ Open) × (IsInside tokens k ⊎ IsUnclosed tokens k))
    ⊎ ((piece_at tokens k ≡ Close) × (IsInside tokens k → ⊥))

abbrev pub IsFault : List Token → ℕ → FaultKind → Type 0
IsFault tokens k kind = (piece_at tokens k ≡ Bad kind) ⊎ ((kind ≡ Brace) × IsBraceFault tokens k)

abbrev pub NoFaultBelow : List Token → ℕ → Type 0
NoFaultBelow tokens n = (k : ℕ) (kind : FaultKind) → k < n → IsFault tokens k kind → ⊥

-- the leftmost token at fault is the token k
abbrev pub IsLeftmostFault : List Token → ℕ → FaultKind → Type 0
IsLeftmostFault tokens k kind = (k < length tokens) × IsFault tokens k kind × NoFaultBelow tokens k

-- how many bytes stand before the token k
abbrev pub place_of : List Token → List ℕ → ℕ → ℕ
place_of tokens text k = sum_by len_utf8 (take (sum_by (λ (token : Token). token.len) (take k tokens)) text)
