-- The fault of the tokens as that of the whole text.
use Rattle.std.proofs.Common.{◌≡◌, ◌≢◌, inl, inr, ℕ, zero, suc, ◌+◌, ◌≤◌, ◌==◌, true, false, List, [], ◌∷◌, length, sum_by, chars, IsUtf8, if◌then◌else◌, refl, sym, ◌∙◌, ap, subst, arith, length-append}
use Rattle.std.proofs.lemmas.List.Sums.{sum_by-cons}
use Rattle.bisync_glob.specs.declared.tokens.Piece.{Piece}
use Rattle.bisync_glob.specs.declared.tokens.Piece.TheVariants.{Comma, Bad}
use Rattle.bisync_glob.specs.declared.tokens.Token.{Token}
use Rattle.bisync_glob.specs.declared.faults.FaultKind.{FaultKind}
use Rattle.bisync_glob.specs.declared.faults.FaultKind.TheVariants.{Stars, Class, Brace, Backslash, Long, NotUtf8, Empty}
use Rattle.bisync_glob.specs.declared.faults.PatternFault.{PatternFault}
use Rattle.bisync_glob.specs.declared.faults.PatternFault.TheVariants.{At, OutOfMemory}
use Rattle.bisync_glob.specs.Spelling.{begins}
use Rattle.bisync_glob.specs.Tokens.{AreTokens, SpellsPiece}
use Rattle.bisync_glob.specs.Faults.{piece_at, IsFault}
use Rattle.bisync_glob.specs.Refusals.{unanchored, IsLeftmostAt, IsFirstFault}
use Rattle.bisync_glob.specs.Building.{IsFaultBehind}

pub tokens_len : (tokens : List Token) (text : List ℕ) → AreTokens tokens text → sum_by (λ (token : Token). token.len) tokens ≡ length text
tokens_len [] text e = rw e refl
tokens_len (token ∷ more) text (front, back, e, len, spelled, rest) =
    let rec : sum_by (λ (token : Token). token.len) more ≡ length back = tokens_len more back rest in
    let size : length text ≡ length front + length back = rw e (length-append front back) in
    let sum : token.len + sum_by (λ (token : Token). token.len) more ≡ length text = omega arith in
    sum_by-cons (λ (token : Token). token.len) token more ∙ sum

-- the kinds that a token may have
abbrev pub IsTokenKind : FaultKind → Type 0
IsTokenKind Stars = Unit {0}
IsTokenKind Class = Unit {0}
IsTokenKind Brace = Unit {0}
IsTokenKind Backslash = Unit {0}
IsTokenKind Long = ⊥
IsTokenKind NotUtf8 = ⊥
IsTokenKind Empty = ⊥

spelled_kind : (kind : FaultKind) (text after : List ℕ) → SpellsPiece (Bad kind) text after → IsTokenKind kind
spelled_kind Stars text after h = tt
spelled_kind Class text after h = tt
spelled_kind Brace text after h = tt
spelled_kind Backslash text after h = tt
spelled_kind Long text after h = h
spelled_kind NotUtf8 text after h = h
spelled_kind Empty text after h = h

bad_kind : (tokens : List Token) (text : List ℕ) (k : ℕ) (kind : FaultKind) → AreTokens tokens text → piece_at tokens k ≡ Bad kind → IsTokenKind kind
bad_kind [] text k kind are is = absurd (let q : Comma ≡ Bad kind = is in cc)
bad_kind (token ∷ more) text zero kind (front, back, e, len, spelled, rest) is = spelled_kind kind front back (subst (λ (p : Piece). SpellsPiece p front back) is spelled)
bad_kind (token ∷ more) text (suc k) kind (front, back, e, len, spelled, rest) is = bad_kind more back k kind rest is

fault_kind : (tokens : List Token) (text : List ℕ) (k : ℕ) (kind : FaultKind) → AreTokens tokens text → IsFault tokens k kind → IsTokenKind kind
fault_kind tokens text k kind are (inl is) = bad_kind tokens text k kind are is
fault_kind tokens text k kind are (inr (is, w)) = subst IsTokenKind (sym is) tt

leftmost_kind : (place : ℕ) (kind : FaultKind) (text : List ℕ) → IsLeftmostAt place kind text → IsTokenKind kind
leftmost_kind place kind text (tokens, are, k, (below, fault, none), is) = fault_kind tokens text k kind are fault

pub fault_behind : (bytes : List ℕ) (skipped : ℕ) (fault : PatternFault) → length bytes ≤ 1024 → IsUtf8 bytes → unanchored (chars bytes) ≢ [] → skipped ≡ (if begins 47 (chars bytes) then 1 else 0) → IsFaultBehind skipped fault (unanchored (chars bytes)) → IsFirstFault fault bytes
fault_behind bytes skipped (At place Stars) short utf8 some is (from, left, at) = ((short, utf8), (some, from, left, at ∙ ap (λ n. n + from) is))
fault_behind bytes skipped (At place Class) short utf8 some is (from, left, at) = ((short, utf8), (some, from, left, at ∙ ap (λ n. n + from) is))
fault_behind bytes skipped (At place Brace) short utf8 some is (from, left, at) = ((short, utf8), (some, from, left, at ∙ ap (λ n. n + from) is))
fault_behind bytes skipped (At place Backslash) short utf8 some is (from, left, at) = ((short, utf8), (some, from, left, at ∙ ap (λ n. n + from) is))
fault_behind bytes skipped (At place Long) short utf8 some is (from, left, at) = absurd (leftmost_kind from Long (unanchored (chars bytes)) left)
fault_behind bytes skipped (At place NotUtf8) short utf8 some is (from, left, at) = absurd (leftmost_kind from NotUtf8 (unanchored (chars bytes)) left)
fault_behind bytes skipped (At place Empty) short utf8 some is (from, left, at) = absurd (leftmost_kind from Empty (unanchored (chars bytes)) left)
fault_behind bytes skipped OutOfMemory short utf8 some is h = tt

pub some_length : (xs : List ℕ) → (length xs == 0) ≡ false → xs ≢ []
some_length xs h e = absurd (let q : true ≡ false = sym (ap (λ (l : List ℕ). length l == 0) e) ∙ h in cc)
