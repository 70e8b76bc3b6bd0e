-- A pattern text cut into tokens, from left to right.
-- Codes of characters: 42 `*`, 44 `,`, 63 `?`, 91 `[`, 92 `\`, 123 `{`, 125 `}`.
use Rattle.std.specs.Prelude.{◌≡◌, ◌≤◌, ◌==◌, ◌||◌, ◌++◌, ℕ, Bool, false, not, IsTrue, List, [], ◌∷◌, length, All}
use Rattle.bisync_glob.specs.declared.parts.Simple.{Simple}
use Rattle.bisync_glob.specs.declared.parts.Simple.TheVariants.{Literal, AnyChar, Class, Star, Stars}
use Rattle.bisync_glob.specs.declared.tokens.Piece.{Piece}
use Rattle.bisync_glob.specs.declared.tokens.Piece.TheVariants.{Single, Escaped, Open, Comma, Close, Bad}
use Rattle.bisync_glob.specs.declared.tokens.Token.{Token}
use Rattle.bisync_glob.specs.declared.faults.FaultKind.{FaultKind}
use Rattle.bisync_glob.specs.declared.faults.FaultKind.TheVariants.{Stars as TooManyStars, Class as BadClass, Brace, Backslash, Long, NotUtf8, Empty}
use Rattle.bisync_glob.specs.Spelling.{SpellsClass, NoClass, begins, is_escapable}

-- whether a character stands for itself: it is none of `*`, `?`, `[`, `\`, `{`, `,` and `}`
abbrev pub is_plain : ℕ → Bool
is_plain c = not (c == 42 || c == 63 || c == 91 || c == 92 || c == 123 || c == 44 || c == 125)

-- in each definition `after` is what follows the text
abbrev pub SpellsSimple : Simple → List ℕ → List ℕ → Type 0
SpellsSimple (Literal c) text after = (text ≡ c ∷ []) × IsTrue (is_plain c)
SpellsSimple AnyChar text after = text ≡ 63 ∷ []
SpellsSimple (Class class) text after = SpellsClass class text
SpellsSimple Star text after = (text ≡ 42 ∷ []) × (begins 42 after ≡ false)
SpellsSimple Stars text after = (text ≡ 42 ∷ 42 ∷ []) × (begins 42 after ≡ false)

abbrev pub begins_escapable : List ℕ → Bool
begins_escapable [] = false
begins_escapable (c ∷ text) = is_escapable c

-- what is at fault by itself: three or more stars in a row; a `[` that begins no class; a `\` at the end or before an ASCII letter or digit
abbrev pub SpellsBad : FaultKind → List ℕ → List ℕ → Type 0
SpellsBad TooManyStars text after = All (λ c. c ≡ 42) text × (3 ≤ length text) × (begins 42 after ≡ false)
SpellsBad BadClass text after = (text ≡ 91 ∷ []) × NoClass (91 ∷ after)
SpellsBad Backslash text after = (text ≡ 92 ∷ []) × (begins_escapable after ≡ false)
SpellsBad Brace text after = ⊥
SpellsBad Long text after = ⊥
SpellsBad NotUtf8 text after = ⊥
SpellsBad Empty text after = ⊥

abbrev pub SpellsPiece : Piece → List ℕ → List ℕ → Type 0
SpellsPiece (Single simple) text after = SpellsSimple simple text after
SpellsPiece (Escaped c) text after = (text ≡ 92 ∷ c ∷ []) × IsTrue (is_escapable c)
SpellsPiece Open text after = text ≡ 123 ∷ []
SpellsPiece Comma text after = text ≡ 44 ∷ []
SpellsPiece Close text after = text ≡ 125 ∷ []
SpellsPiece (Bad kind) text after = SpellsBad kind text after

-- the tokens of a text, each with the number of its characters
abbrev pub AreTokens : List Token → List ℕ → Type 0
AreTokens [] text = text ≡ []
AreTokens (token ∷ more) text = (front : List ℕ) × (back : List ℕ) × (text ≡ front ++ back) × (length front ≡ token.len) × SpellsPiece token.piece front back × AreTokens more back
