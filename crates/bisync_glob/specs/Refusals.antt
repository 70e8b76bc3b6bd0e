-- Which texts are patterns, and which fault every other text has: the first that holds. 47 is `/`.
use Rattle.std.specs.Prelude.{◌≡◌, ◌≢◌, ◌≤◌, ◌<◌, ◌==◌, ◌+◌, ⊤, ℕ, List, [], ◌∷◌, length, chars, IsUtf8, if◌then◌else◌}
use Rattle.bisync_glob.specs.declared.parts.Part.{Part}
use Rattle.bisync_glob.specs.declared.tokens.Token.{Token}
use Rattle.bisync_glob.specs.declared.faults.FaultKind.{FaultKind}
use Rattle.bisync_glob.specs.declared.faults.FaultKind.TheVariants.{Stars, Class, Brace, Backslash, Long, NotUtf8, Empty}
use Rattle.bisync_glob.specs.declared.faults.PatternFault.{PatternFault}
use Rattle.bisync_glob.specs.declared.faults.PatternFault.TheVariants.{At, OutOfMemory}
use Rattle.bisync_glob.specs.Matching.{Glob}
use Rattle.bisync_glob.specs.Spelling.{begins}
use Rattle.bisync_glob.specs.Tokens.{AreTokens}
use Rattle.bisync_glob.specs.Faults.{pieces, IsLeftmostFault, NoFaultBelow, place_of}
use Rattle.bisync_glob.specs.Parsing.{AreAllParts}

-- what is left after a leading `/` was taken off
abbrev pub unanchored : List ℕ → List ℕ
unanchored [] = []
unanchored (c ∷ text) = (if c == 47 then text else (c ∷ text))

-- the characters are cut into tokens, none is at fault, and these are their parts
abbrev pub SpellsParts : List Part → List ℕ → Type 0
SpellsParts parts text = (tokens : List Token) × AreTokens tokens text × NoFaultBelow tokens (length tokens) × AreAllParts parts (pieces tokens)

-- a leading `/` anchors the pattern, and what is left spells its parts
abbrev pub SpellsGlob : Glob → List ℕ → Type 0
SpellsGlob glob text = (glob.anchored ≡ begins 47 text) × (unanchored text ≢ []) × SpellsParts glob.parts (unanchored text)

-- the bytes are a text of the pattern
pub record IsPatternText (glob : Glob) (bytes : List ℕ) : Type 0 where
  pub short : length bytes ≤ 1024
  pub utf8 : IsUtf8 bytes
  pub spelled : SpellsGlob glob (chars bytes)

-- the place of the leftmost token at fault, in bytes
abbrev pub IsLeftmostAt : ℕ → FaultKind → List ℕ → Type 0
IsLeftmostAt place kind text = (tokens : List Token) × AreTokens tokens text × (k : ℕ) × IsLeftmostFault tokens k kind × (place ≡ place_of tokens text k)

-- the same in the whole text, where a leading `/` is one byte
abbrev pub HasLeftmostFault : ℕ → FaultKind → List ℕ → Type 0
HasLeftmostFault place kind text = (unanchored text ≢ []) × (from : ℕ) × IsLeftmostAt from kind (unanchored text) × (place ≡ (if begins 47 text then 1 else 0) + from)

-- short enough, and UTF-8
abbrev pub IsReadable : List ℕ → Type 0
IsReadable bytes = (length bytes ≤ 1024) × IsUtf8 bytes

abbrev pub IsFirstFaultAt : ℕ → FaultKind → List ℕ → Type 0
IsFirstFaultAt place Long bytes = (1024 < length bytes) × (place ≡ 1024)
IsFirstFaultAt place NotUtf8 bytes = (length bytes ≤ 1024) × (¬ (IsUtf8 bytes)) × (place ≡ 0)
IsFirstFaultAt place Empty bytes = IsReadable bytes × (unanchored (chars bytes) ≡ []) × (place ≡ 0)
IsFirstFaultAt place Stars bytes = IsReadable bytes × HasLeftmostFault place Stars (chars bytes)
IsFirstFaultAt place Class bytes = IsReadable bytes × HasLeftmostFault place Class (chars bytes)
IsFirstFaultAt place Brace bytes = IsReadable bytes × HasLeftmostFault place Brace (chars bytes)
IsFirstFaultAt place Backslash bytes = IsReadable bytes × HasLeftmostFault place Backslash (chars bytes)

-- want of memory may be answered for every text
abbrev pub IsFirstFault : PatternFault → List ℕ → Type 0
IsFirstFault (At place kind) bytes = IsFirstFaultAt place kind bytes
IsFirstFault OutOfMemory bytes = ⊤

-- ONE ANSWER

-- no other pattern has this text, and it has no fault
abbrev pub IsOnlyPattern : Glob → List ℕ → Type 0
IsOnlyPattern glob bytes = ((other : Glob) → IsPatternText other bytes → other ≡ glob) × ((place : ℕ) (kind : FaultKind) → IsFirstFaultAt place kind bytes → ⊥)

-- the text is no pattern, and no other fault is its first
abbrev pub IsOnlyFault : PatternFault → List ℕ → Type 0
IsOnlyFault (At place kind) bytes = ((glob : Glob) → IsPatternText glob bytes → ⊥) × ((other : ℕ) (other_kind : FaultKind) → IsFirstFaultAt other other_kind bytes → (other ≡ place) × (other_kind ≡ kind))
IsOnlyFault OutOfMemory bytes = ⊤
