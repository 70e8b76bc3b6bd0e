use Rattle.std.proofs.Common.{◌<◌, ◌++◌, length, take, arith}
use Rattle.bisync_transfer.proofs.Streaming.{longer}
use Rattle.bisync_transfer.proofs.copies.stream.Goals as goal

pub returns-then-not-add-clause-streams : goal.returns-then-not-add-clause-streams
returns-then-not-add-clause-streams g c =
    let i = c.pieces.invariant in
    let bytes = i.bytes ++ take c.in-Ok.count c.read.new.buffer in
    let full = c.add.ensures.full c.args.listed.now i.bytes i.tallied c.if-not-add.true in
    let less : c.args.listed.now.size < length bytes = omega (arith, full) in
    (bytes, less, full, longer _ _ _ _ i.bytes _ _ i.source c.in-Ok.ensures.reads)

pub returns-then-tally-size-clause-streams : goal.returns-then-tally-size-clause-streams
returns-then-tally-size-clause-streams g c =
    let i = c.pieces.invariant in
    let bytes = i.bytes ++ take c.in-Ok.count c.read.new.buffer in
    let tallied = c.add.ensures.added c.args.listed.now i.bytes i.tallied c.if-not-add.false in
    let less : c.args.listed.now.size < length bytes = omega (arith, tallied.size, c.if-tally-size.true) in
    (bytes, less, c.entry-then-tally-size.ensures bytes tallied, longer _ _ _ _ i.bytes _ _ i.source c.in-Ok.ensures.reads)
