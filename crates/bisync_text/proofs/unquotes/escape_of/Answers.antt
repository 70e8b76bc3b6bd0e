use Rattle.std.proofs.Common.{arith}
use Rattle.std.proofs.lemmas.Bool.Decides.{nat_tests}
use Rattle.bisync_text.proofs.Unquoting.{bad_after_backslash, bad_after_x, bad_after_digit, escape_stands}
use Rattle.bisync_text.proofs.unquotes.escape_of.Goals as goal
use Rattle.bisync_text.proofs.unquotes.escape_of.Goals.{then-is_empty-via-then-is_empty, then-is_empty-via-else-is_empty+then-escape-ne120, then-escape-lt2-via-then-escape-lt2, then-escape-lt2-via-else-escape-lt2+then-not-is_first_digit}

pub returns-then-is_empty : goal.returns-then-is_empty
returns-then-is_empty c =
    bad_after_backslash c.args.escape.now
    (λ some is_x. elim c.then-is_empty.branch [
      | then-is_empty-via-then-is_empty w ↦ grind (arith, nat_tests)
      | then-is_empty-via-else-is_empty+then-escape-ne120 w ↦ omega arith
    ])

pub returns-then-escape-lt2 : goal.returns-then-escape-lt2
returns-then-escape-lt2 c =
    bad_after_x c.args.escape.now (grind (arith, nat_tests)) (omega arith)
    (λ some. elim c.then-escape-lt2.branch [
      | then-escape-lt2-via-then-escape-lt2 w ↦ absurd (omega arith)
      | then-escape-lt2-via-else-escape-lt2+then-not-is_first_digit w ↦ (cc)
    ])

pub returns-then-escape-lt3 : goal.returns-then-escape-lt3
returns-then-escape-lt3 c = bad_after_digit c.args.escape.now (omega arith) (omega arith) (cc) (λ some b is. absurd (omega arith))

pub returns-in-Some : goal.returns-in-Some
returns-in-Some c = escape_stands c.args.escape.now (omega arith) (omega arith) c.in-Some.byte c.in-Some.ensures.found

pub returns-in-None : goal.returns-in-None
returns-in-None c = bad_after_digit c.args.escape.now (omega arith) (omega arith) (cc) (λ some. c.in-None.ensures.none)
