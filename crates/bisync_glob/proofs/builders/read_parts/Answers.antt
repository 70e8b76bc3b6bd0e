use Rattle.std.proofs.Common.{◌≡◌, ◌↔◌, ◌<◌, ◌+◌, ◌++◌, ◌∷◌, [], IsTrue, Bool, false, true, List, ℕ, length, get_or, take, refl, sym, ◌∙◌, ap, arith}
use Rattle.std.proofs.lemmas.List.{length_push, length-map, take_all}
use Rattle.std.proofs.lemmas.Iterator.Adapters.{YieldsList-from_vec}
use Rattle.std.proofs.lemmas.Iterator.Consumers.{YieldsList-turn, YieldsList-end}
use Rattle.bisync_glob.specs.declared.tokens.Token.{Token}
use Rattle.bisync_glob.specs.Faults.{pieces, piece_at, IsInside, NoFaultBelow}
use Rattle.bisync_glob.specs.Building.{Fits, IsBuilt, has_braces}
use Rattle.bisync_glob.proofs.BraceLaws.{fits_at, inside_goes, piece_of, outside_end}
use Rattle.bisync_glob.proofs.BuildingLaws.{take_pieces, built_end}
use Rattle.bisync_glob.proofs.builders.read_parts.Goals as goal

outside : (tokens : List Token) (n : ℕ) (inside : Bool) → NoFaultBelow tokens (length tokens) → n ≡ length tokens → (IsTrue inside ↔ IsInside tokens n) → inside ≡ false
outside tokens n false none e same = refl
outside tokens n true none e same = absurd (outside_end tokens none (rw e at (same.0 refl)))

pub loop-token-preserved : goal.loop-token-preserved
loop-token-preserved c =
    let tokens : List Token = c.args.tokens.items in
    let n : ℕ = length c.loop-token.yielded in
    let turn : (n < length tokens) × (c.in-Some.token ≡ get_or tokens n c.in-Some.token) = YieldsList-turn (YieldsList-from_vec {s = c.into_iter-token-iterator.result} tokens c.into_iter-token-iterator.ensures.into_iter_gives.0 (c.into_iter-token-iterator.ensures.into_iter_gives.1 ∙ c.args.tokens.ok.0)) c.loop-token.yielded c.loop-token.token-iterator c.loop-token.yielded_by c.next.result c.next.new.self c.in-Some.token c.in-Some.is c.next.ensures.steps in
    let piece : piece_at tokens n ≡ c.in-Some.token.piece = piece_of tokens n c.in-Some.token turn.0 ∙ ap (λ (t : Token). t.piece) (sym turn.1) in
    let next : length (c.loop-token.yielded ++ c.in-Some.token ∷ []) ≡ n + 1 = length_push c.loop-token.yielded c.in-Some.token in
    let fits : Fits (has_braces c.loop-token.builder.braces) c.in-Some.token.piece = fits_at tokens n c.in-Some.token.piece (has_braces c.loop-token.builder.braces) c.requires turn.0 piece c.loop-token.invariant.inside in
    record {
      built = rw (next, take_pieces tokens n c.in-Some.token.piece turn.0 piece) (c.in_ok-builder.ensures.built (take n (pieces tokens)) fits c.loop-token.invariant.built);
      inside = rw (next, c.in_ok-builder.ensures.inside) (inside_goes tokens n c.in-Some.token.piece (has_braces c.loop-token.builder.braces) piece c.loop-token.invariant.inside);
    }

pub returns : goal.returns
returns c =
    let tokens : List Token = c.args.tokens.items in
    let n : ℕ = length c.loop-token.yielded in
    let ended : n ≡ length tokens = (YieldsList-end (YieldsList-from_vec {s = c.into_iter-token-iterator.result} tokens c.into_iter-token-iterator.ensures.into_iter_gives.0 (c.into_iter-token-iterator.ensures.into_iter_gives.1 ∙ c.args.tokens.ok.0)) c.loop-token.yielded c.loop-token.token-iterator c.loop-token.yielded_by c.next.result c.next.new.self c.in-None.is c.next.ensures.steps).1 in
    let built : IsBuilt c.loop-token.builder (take n (pieces tokens)) = c.loop-token.invariant.built in
    let inside : IsTrue (has_braces c.loop-token.builder.braces) ↔ IsInside tokens n = c.loop-token.invariant.inside in
    let closed : has_braces c.loop-token.builder.braces ≡ false = outside tokens n (has_braces c.loop-token.builder.braces) c.requires ended inside in
    let whole : take n (pieces tokens) ≡ pieces tokens = take_all n (pieces tokens) (omega (arith, length-map tokens (λ (t : Token). t.piece))) in
    rw whole at (built_end c.loop-token.builder (take n (pieces tokens)) closed built)
