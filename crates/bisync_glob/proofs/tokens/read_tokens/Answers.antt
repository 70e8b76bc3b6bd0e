use Rattle.std.proofs.Common.{[], List, ℕ, arith, drop}
use Rattle.std.proofs.lemmas.List.{take_rest, length-drop, drop-drop, append-nil, drop_all}
use Rattle.bisync_glob.specs.Reading.{TokenRead}
use Rattle.bisync_glob.proofs.TokenRuns.{tokens_more}
use Rattle.bisync_glob.proofs.tokens.read_tokens.Goals as goal

pub loop-at-preserved : goal.loop-at-preserved
loop-at-preserved c =
    let left : List ℕ = drop c.loop-at.at c.args.text.now in
    let r : TokenRead c.in_ok-token.token left = rw (take_rest c.args.text.now c.loop-at.at) at (c.in_ok-token.ensures) in
    record {
      fits = omega (arith, r.fits, length-drop c.loop-at.at c.args.text.now);
      read = λ more after. rw c.in_ok-push.ensures.items
          (tokens_more c.loop-at.tokens.items c.in_ok-token.token more c.args.text.now left c.loop-at.invariant.read r (rw (drop-drop c.in_ok-token.token.len c.loop-at.at c.args.text.now) after));
    }

pub returns : goal.returns
returns c = rw (append-nil c.loop-at.tokens.items) at (c.loop-at.invariant.read [] (drop_all c.loop-at.at c.args.text.now (omega arith)))
