use Rattle.std.proofs.Common.{length, arith}
use Rattle.bisync_glob.specs.Faults.{NoFaultBelow}
use Rattle.bisync_glob.proofs.FaultLaws.{tokens_len}
use Rattle.bisync_glob.proofs.patterns.read_rest.Goals as goal

pub place_of-requires-clause-within : goal.place_of-requires-clause-within
place_of-requires-clause-within c = rw c.deref-in-Some.ensures.value (omega (arith, tokens_len c.in_ok-tokens.tokens.items c.args.text.now c.in_ok-tokens.ensures))

pub read_all_parts-requires : goal.read_all_parts-requires
read_all_parts-requires c =
    let none : NoFaultBelow c.deref.result.now (length c.deref.result.now) = c.in-None.ensures in
    rw c.deref.ensures.value at none

pub returns-in_ok-read_all_parts-in-None-clause-ok : goal.returns-in_ok-read_all_parts-in-None-clause-ok
returns-in_ok-read_all_parts-in-None-clause-ok c =
    let none : NoFaultBelow c.deref.result.now (length c.deref.result.now) = c.in-None.ensures in
    (c.in_ok-tokens.tokens.items, c.in_ok-tokens.ensures, rw c.deref.ensures.value at none, c.in_ok-read_all_parts-in-None.ensures)
