use Rattle.std.proofs.Common.{◌≤◌, ◌-◌, ◌++◌, List, length, drop}
use Rattle.bisync_glob.specs.declared.tokens.Token.{Token}
use Rattle.bisync_glob.specs.Tokens.{AreTokens}
use Rattle.bisync_glob.proofs.tokens.read_tokens.Given as goal

abbrev pub invariant-loop-at : goal.invariant-loop-at
invariant-loop-at l = record {
  fits : l.at ≤ length l.text;
  read : (more : List Token) → AreTokens more (drop l.at l.text) → AreTokens (l.tokens.items ++ more) l.text;
}

abbrev pub decreases-loop-at : goal.decreases-loop-at
decreases-loop-at l = length l.text - l.at
