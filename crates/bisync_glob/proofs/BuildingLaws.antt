-- What is built goes on over one more token.
use Rattle.std.proofs.Common.{◌≡◌, inl, inr, ℕ, ◌+◌, ◌-◌, ◌<◌, ◌==◌, arith, true, false, List, [], ◌∷◌, ◌++◌, length, take, get_or, refl, sym, ◌∙◌, ap, append_assoc, Option, Some, None}
use Rattle.std.proofs.lemmas.List.{append-nil, take_more, take_all, length-map, length_push}
use Rattle.std.proofs.Math.Seq.{get_or-append_seam}
use Rattle.std.proofs.lemmas.Bool.Decides.{Decides-eqb}
use Rattle.bisync_glob.specs.declared.parts.Simple.TheVariants.{Literal, AnyChar, Class, Star, Stars}
use Rattle.bisync_glob.specs.declared.tokens.Piece.TheVariants.{Single, Escaped, Bad}
use Rattle.bisync_glob.specs.declared.tokens.Token.{Token}
use Rattle.bisync_glob.specs.declared.builders.Builder.{Builder}
use Rattle.bisync_glob.specs.declared.builders.Braces.{Braces}
use Rattle.bisync_glob.specs.Faults.{pieces, piece_at}
use Rattle.bisync_glob.specs.declared.parts.Simple.{Simple}
use Rattle.bisync_glob.specs.declared.parts.Part.{Part}
use Rattle.bisync_glob.specs.declared.parts.Part.TheVariants.{Choice}
use Rattle.bisync_glob.specs.declared.tokens.Piece.{Piece}
use Rattle.bisync_glob.specs.declared.tokens.Piece.TheVariants.{Open, Comma, Close}
use Rattle.bisync_glob.specs.Parsing.{IsSimple, IsAlternative, AreAlternatives, IsPart, AreParts, EndsInSlash}
use Rattle.bisync_glob.specs.Building.{AreOpen, AreBuilt, IsBuilt, has_braces, is_slash, is_slash_itself}

-- OUTSIDE BRACES

pub parts_more : (parts : List Part) (part : Part) (tokens front : List Piece) → IsPart part front → AreParts parts tokens → AreParts (parts ++ part ∷ []) (tokens ++ front)
parts_more [] part tokens front is e = (front, [], rw e (sym (append-nil front)), is, refl)
parts_more (first ∷ more) part tokens front is (before, after, e, one, rest) =
    (before, after ++ front, rw e (append_assoc before after front), one, parts_more more part after front is rest)

-- INSIDE BRACES

alternative_more : (alternative : List Simple) (simple : Simple) (tokens : List Piece) (piece : Piece) → IsSimple simple piece → IsAlternative alternative tokens → IsAlternative (alternative ++ simple ∷ []) (tokens ++ piece ∷ [])
alternative_more [] simple tokens piece is e = (piece, [], rw e refl, is, refl)
alternative_more (first ∷ more) simple tokens piece is (head, rest, e, one, others) =
    (head, rest ++ piece ∷ [], rw e refl, one, alternative_more more simple rest piece is others)

pub open_more : (complete : List (List Simple)) (current : List Simple) (simple : Simple) (tokens : List Piece) (piece : Piece) → IsSimple simple piece → AreOpen complete current tokens → AreOpen complete (current ++ simple ∷ []) (tokens ++ piece ∷ [])
open_more [] current simple tokens piece is open' = alternative_more current simple tokens piece is open'
open_more (alternative ∷ more) current simple tokens piece is (front, back, e, one, rest) =
    (front, back ++ piece ∷ [], rw e (append_assoc front (Comma ∷ back) (piece ∷ [])), one, open_more more current simple back piece is rest)

pub open_comma : (complete : List (List Simple)) (current : List Simple) (tokens : List Piece) → AreOpen complete current tokens → AreOpen (complete ++ current ∷ []) [] (tokens ++ Comma ∷ [])
open_comma [] current tokens is = (tokens, [], refl, is, refl)
open_comma (alternative ∷ more) current tokens (front, back, e, one, rest) =
    (front, back ++ Comma ∷ [], rw e (append_assoc front (Comma ∷ back) (Comma ∷ [])), one, open_comma more current back rest)

pub open_close : (complete : List (List Simple)) (current : List Simple) (tokens : List Piece) → AreOpen complete current tokens → AreAlternatives (complete ++ current ∷ []) tokens
open_close [] current tokens is = inl (refl, is)
open_close (alternative ∷ more) current tokens (front, back, e, one, rest) = inr (front, back, e, one, open_close more current back rest)

-- a token behind an open brace
pub behind_open : (tokens before body : List Piece) (piece : Piece) → tokens ≡ before ++ Open ∷ body → tokens ++ piece ∷ [] ≡ before ++ Open ∷ (body ++ piece ∷ [])
behind_open tokens before body piece e = rw e (append_assoc before (Open ∷ body) (piece ∷ []))

pub parts_closed : (parts : List Part) (complete : List (List Simple)) (current : List Simple) (tokens before body : List Piece) → tokens ≡ before ++ Open ∷ body → AreParts parts before → AreOpen complete current body → AreParts (parts ++ Choice (complete ++ current ∷ []) ∷ []) (tokens ++ Close ∷ [])
parts_closed parts complete current tokens before body e built open' =
    rw (behind_open tokens before body Close e) (parts_more parts (Choice (complete ++ current ∷ [])) before (Open ∷ (body ++ Close ∷ [])) (body, refl, open_close complete current body open') built)

-- ALL TOKENS

pub take_pieces : (tokens : List Token) (n : ℕ) (piece : Piece) → n < length tokens → piece_at tokens n ≡ piece → take (n + 1) (pieces tokens) ≡ take n (pieces tokens) ++ piece ∷ []
take_pieces tokens n piece below is =
    take_more (pieces tokens) n Comma (rw (length-map tokens (λ (t : Token). t.piece)) below) ∙ ap (λ p. take n (pieces tokens) ++ p ∷ []) is

pub built_end : (builder : Builder) (tokens : List Piece) → has_braces builder.braces ≡ false → IsBuilt builder tokens → AreParts builder.parts.items tokens
built_end builder tokens none built = by_braces builder.braces none built
  where
    by_braces : (braces : Option Braces) → has_braces braces ≡ false → AreBuilt builder.parts.items braces tokens → AreParts builder.parts.items tokens
    by_braces None none built = built
    by_braces (Some braces) none built = absurd (let q : true ≡ false = none in cc)

-- A LAST SLASH

slash_simple : (simple : Simple) → is_slash_itself simple ≡ true → simple ≡ Literal 47
slash_simple (Literal c) h = ap (λ x. Literal x) ((Decides-eqb c 47).0 h)
slash_simple AnyChar h = absurd (let q : false ≡ true = h in cc)
slash_simple (Class class) h = absurd (let q : false ≡ true = h in cc)
slash_simple Star h = absurd (let q : false ≡ true = h in cc)
slash_simple Stars h = absurd (let q : false ≡ true = h in cc)

slash_piece : (piece : Piece) → is_slash piece ≡ true → piece ≡ Single (Literal 47)
slash_piece (Single simple) h = ap (λ s. Single s) (slash_simple simple h)
slash_piece (Escaped c) h = absurd (let q : false ≡ true = h in cc)
slash_piece Open h = absurd (let q : false ≡ true = h in cc)
slash_piece Comma h = absurd (let q : false ≡ true = h in cc)
slash_piece Close h = absurd (let q : false ≡ true = h in cc)
slash_piece (Bad kind) h = absurd (let q : false ≡ true = h in cc)

pub ends_so : (tokens : List Token) (piece : Piece) → 0 < length tokens → piece_at tokens (length tokens - 1) ≡ piece → is_slash piece ≡ true → EndsInSlash (pieces tokens)
ends_so tokens piece some is slash =
    let n : ℕ = length tokens - 1 in
    let next : n + 1 ≡ length tokens = omega arith in
    let all : take (n + 1) (pieces tokens) ≡ pieces tokens = take_all (n + 1) (pieces tokens) (omega (arith, length-map tokens (λ (t : Token). t.piece))) in
    (take n (pieces tokens), sym all ∙ take_pieces tokens n (Single (Literal 47)) (omega arith) (is ∙ slash_piece piece slash))

pub ends_not : (tokens : List Token) (piece : Piece) → piece_at tokens (length tokens - 1) ≡ piece → is_slash piece ≡ false → EndsInSlash (pieces tokens) → ⊥
ends_not tokens piece is other (before, e) =
    let len : length (pieces tokens) ≡ length before + 1 = rw e (length_push before (Single (Literal 47))) in
    let here : length tokens - 1 ≡ length before = omega (arith, length-map tokens (λ (t : Token). t.piece)) in
    let last : get_or (pieces tokens) (length before) Comma ≡ Single (Literal 47) = rw e (get_or-append_seam before (Single (Literal 47)) [] Comma) in
    let same : piece ≡ Single (Literal 47) = sym is ∙ ap (λ n. get_or (pieces tokens) n Comma) here ∙ last in
    absurd (let q : true ≡ false = sym (ap is_slash same) ∙ other in cc)

pub ends_none : (tokens : List Token) → length tokens ≡ 0 → EndsInSlash (pieces tokens) → ⊥
ends_none tokens none (before, e) =
    let len : length (pieces tokens) ≡ length before + 1 = rw e (length_push before (Single (Literal 47))) in
    omega (arith, length-map tokens (λ (t : Token). t.piece))

pub some_tokens : (tokens : List Token) → (length tokens == 0) ≡ false → 0 < length tokens
some_tokens [] h = absurd (let q : true ≡ false = h in cc)
some_tokens (token ∷ more) h = omega arith
