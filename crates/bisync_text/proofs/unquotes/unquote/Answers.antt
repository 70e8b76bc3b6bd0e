use Rattle.std.proofs.Common.{arith}
use Rattle.std.proofs.lemmas.Bool.Decides.{nat_tests}
use Rattle.bisync_text.proofs.UnquotingFronts.{bad_quote, bad_opening, all_read}
use Rattle.bisync_text.proofs.unquotes.unquote.Goals as goal
use Rattle.bisync_text.proofs.unquotes.unquote.Goals.{in_default-via-then-text-lt1, in_default-via-else-text-lt1+in_default-1}

pub returns-in_default-clause-err : goal.returns-in_default-clause-err
returns-in_default-clause-err c =
    bad_opening c.args.text.now
    (λ some quote. elim c.in_default.branch [
      | in_default-via-then-text-lt1 w ↦ grind (arith, nat_tests)
      | in_default-via-else-text-lt1+in_default-1 w ↦ grind (arith, nat_tests)
    ])

pub returns-in-End-clause-ok : goal.returns-in-End-clause-ok
returns-in-End-clause-ok c =
    rw c.from_vec.ensures (all_read c.loop-byte.bytes.items c.loop-byte.rest.now c.args.text.now c.loop-byte.invariant c.in-End.ensures)

pub returns-in-Bad-clause-err : goal.returns-in-Bad-clause-err
returns-in-Bad-clause-err c =
    bad_quote c.loop-byte.bytes.items c.loop-byte.rest.now c.args.text.now c.in-Bad.len c.loop-byte.invariant c.in-Bad.ensures
