-- How the parts are built, token by token. Internal: the public contracts cite Parsing and Refusals.
use Rattle.std.specs.Prelude.{◌≡◌, ◌==◌, ◌+◌, ◌++◌, ⊤, ℕ, Bool, true, false, List, [], ◌∷◌, Option, Some, None}
use Rattle.bisync_glob.specs.declared.parts.Simple.{Simple}
use Rattle.bisync_glob.specs.declared.parts.Simple.TheVariants.{Literal, AnyChar, Class, Star, Stars}
use Rattle.bisync_glob.specs.declared.parts.Part.{Part}
use Rattle.bisync_glob.specs.declared.tokens.Piece.{Piece}
use Rattle.bisync_glob.specs.declared.tokens.Piece.TheVariants.{Single, Escaped, Open, Comma, Close, Bad}
use Rattle.bisync_glob.specs.declared.builders.Braces.{Braces}
use Rattle.bisync_glob.specs.declared.builders.Builder.{Builder}
use Rattle.bisync_glob.specs.declared.faults.PatternFault.{PatternFault}
use Rattle.bisync_glob.specs.declared.faults.PatternFault.TheVariants.{At, OutOfMemory}
use Rattle.bisync_glob.specs.Parsing.{IsAlternative, AreParts}
use Rattle.bisync_glob.specs.Refusals.{IsLeftmostAt}

-- whether what follows a token stands inside braces
abbrev pub inside_after : Piece → Bool → Bool
inside_after (Single simple) inside = inside
inside_after (Escaped c) inside = inside
inside_after Open inside = true
inside_after Comma inside = inside
inside_after Close inside = false
inside_after (Bad kind) inside = inside

-- the token is not at fault there
abbrev pub Fits : Bool → Piece → Type 0
Fits inside (Single simple) = ⊤
Fits inside (Escaped c) = ⊤
Fits inside Open = inside ≡ false
Fits inside Comma = ⊤
Fits inside Close = inside ≡ true
Fits inside (Bad kind) = ⊥

abbrev pub has_braces : Option Braces → Bool
has_braces None = false
has_braces (Some braces) = true

-- alternatives that are complete, and one that may go on
abbrev pub AreOpen : List (List Simple) → List Simple → List Piece → Type 0
AreOpen [] current tokens = IsAlternative current tokens
AreOpen (alternative ∷ more) current tokens = (front : List Piece) × (back : List Piece) × (tokens ≡ front ++ Comma ∷ back) × IsAlternative alternative front × AreOpen more current back

abbrev pub AreBuilt : List Part → Option Braces → List Piece → Type 0
AreBuilt parts None tokens = AreParts parts tokens
AreBuilt parts (Some braces) tokens = (before : List Piece) × (body : List Piece) × (tokens ≡ before ++ Open ∷ body) × AreParts parts before × AreOpen braces.complete.items braces.current.items body

abbrev pub IsBuilt : Builder → List Piece → Type 0
IsBuilt builder tokens = AreBuilt builder.parts.items builder.braces tokens

-- whether a token is a `/` that no `\` escapes
abbrev pub is_slash_itself : Simple → Bool
is_slash_itself (Literal c) = c == 47
is_slash_itself AnyChar = false
is_slash_itself (Class class) = false
is_slash_itself Star = false
is_slash_itself Stars = false

abbrev pub is_slash : Piece → Bool
is_slash (Single simple) = is_slash_itself simple
is_slash (Escaped c) = false
is_slash Open = false
is_slash Comma = false
is_slash Close = false
is_slash (Bad kind) = false

-- the fault of a text before which so many bytes were taken off
abbrev pub IsFaultBehind : ℕ → PatternFault → List ℕ → Type 0
IsFaultBehind skipped (At place kind) text = (from : ℕ) × IsLeftmostAt from kind text × (place ≡ skipped + from)
IsFaultBehind skipped OutOfMemory text = ⊤
