use Rattle.std.proofs.Common.{arith}
use Rattle.std.proofs.lemmas.Bool.Decides.{nat_tests}
use Rattle.bisync_text.proofs.Unquoting.{bad_after_end, bad_at_byte, byte_stands}
use Rattle.bisync_text.proofs.unquotes.piece_of.Goals as goal

pub returns-in-34-2 : goal.returns-in-34-2
returns-in-34-2 c = bad_after_end c.args.rest.now (grind (arith, nat_tests)) (omega arith)

pub returns-in_default : goal.returns-in_default
returns-in_default c = bad_at_byte c.args.rest.now (grind (arith, nat_tests)) (cc) (omega arith) (omega arith)

pub returns-in_default-2 : goal.returns-in_default-2
returns-in_default-2 c = byte_stands c.args.rest.now (grind (arith, nat_tests)) (cc)
