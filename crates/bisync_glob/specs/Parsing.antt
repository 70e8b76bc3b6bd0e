-- The parts that tokens without fault are.
-- Codes of characters: 44 `,`, 47 `/`.
use Rattle.std.specs.Prelude.{◌≡◌, ◌⊎◌, ◌++◌, ℕ, List, [], ◌∷◌}
use Rattle.bisync_glob.specs.declared.parts.Simple.{Simple}
use Rattle.bisync_glob.specs.declared.parts.Simple.TheVariants.{Literal, Stars}
use Rattle.bisync_glob.specs.declared.parts.Part.{Part}
use Rattle.bisync_glob.specs.declared.parts.Part.TheVariants.{Plain, Choice}
use Rattle.bisync_glob.specs.declared.tokens.Piece.{Piece}
use Rattle.bisync_glob.specs.declared.tokens.Piece.TheVariants.{Single, Escaped, Open, Comma, Close}

-- `\c` is the character c
abbrev pub IsSimple : Simple → Piece → Type 0
IsSimple simple piece = (piece ≡ Single simple) ⊎ ((c : ℕ) × (piece ≡ Escaped c) × (simple ≡ Literal c))

-- a sequence inside braces
abbrev pub IsAlternative : List Simple → List Piece → Type 0
IsAlternative [] tokens = tokens ≡ []
IsAlternative (simple ∷ more) tokens = (piece : Piece) × (rest : List Piece) × (tokens ≡ piece ∷ rest) × IsSimple simple piece × IsAlternative more rest

-- one alternative; or one, a `,` and the others
abbrev pub AreAlternatives : List (List Simple) → List Piece → Type 0
AreAlternatives [] tokens = ⊥
AreAlternatives (alternative ∷ others) tokens =
    ((others ≡ []) × IsAlternative alternative tokens)
    ⊎ ((front : List Piece) × (back : List Piece) × (tokens ≡ front ++ Comma ∷ back) × IsAlternative alternative front × AreAlternatives others back)

-- outside braces a `,` stands for itself
abbrev pub IsPart : Part → List Piece → Type 0
IsPart (Plain simple) tokens = (piece : Piece) × (tokens ≡ piece ∷ []) × (IsSimple simple piece ⊎ ((piece ≡ Comma) × (simple ≡ Literal 44)))
IsPart (Choice alternatives) tokens = (body : List Piece) × (tokens ≡ Open ∷ body ++ Close ∷ []) × AreAlternatives alternatives body

abbrev pub AreParts : List Part → List Piece → Type 0
AreParts [] tokens = tokens ≡ []
AreParts (part ∷ more) tokens = (front : List Piece) × (back : List Piece) × (tokens ≡ front ++ back) × IsPart part front × AreParts more back

-- the last token is a `/`, which no `\` escapes
abbrev pub EndsInSlash : List Piece → Type 0
EndsInSlash tokens = (before : List Piece) × (tokens ≡ before ++ Single (Literal 47) ∷ [])

-- the parts of the tokens, and `**` behind a last `/`
abbrev pub AreAllParts : List Part → List Piece → Type 0
AreAllParts parts tokens =
    (AreParts parts tokens × (EndsInSlash tokens → ⊥))
    ⊎ ((front : List Part) × (parts ≡ front ++ Plain Stars ∷ []) × AreParts front tokens × EndsInSlash tokens)
