use Rattle.std.proofs.Common.{◌≡◌, ◌∙◌, ℕ, List, [], ◌∷◌, ◌++◌, ap, arith, sym}
use Rattle.std.proofs.lemmas.Bool.Decides.{nat_tests}
use Rattle.bisync_listing.proofs.PlainQuotes.{plain_quoted}
use Rattle.bisync_listing.proofs.paths.between_quotes.Goals as goal

pub returns : goal.returns
returns c =
    let last_is : c.in_ok-last.last.now ≡ 34 = grind (arith, nat_tests) in
    c.in_ok-rest.ensures.found
    ∙ (ap (λ (rest : List ℕ). 34 ∷ rest) (c.in_ok-last.ensures.cases.0 ∙ ap (λ (last : ℕ). c.in_ok-last.bytes.now ++ last ∷ []) last_is)
    ∙ plain_quoted c.in_ok-last.bytes.now (sym c.stand_for_themselves.ensures ∙ c.if-not-stand_for_themselves.false))
