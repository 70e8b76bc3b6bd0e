use Rattle.std.proofs.Common.{◌≡◌, take, sum_by}
use Rattle.bisync_glob.specs.declared.tokens.Token.{Token}
use Rattle.bisync_glob.proofs.places.place_of.Given as goal

abbrev pub invariant-loop-token : goal.invariant-loop-token
invariant-loop-token l = l.at ≡ sum_by (λ (token : Token). token.len) (take l.token-index l.token-items)
