use Rattle.std.proofs.Common.{◌<◌, ◌++◌, length, take, arith, ap}
use Rattle.bisync_tree.specs.declared.entries.Entry.{Entry}
use Rattle.bisync_observe.proofs.StreamLemmas.{longer, other_size, too_long}
use Rattle.bisync_observe.proofs.file_reading.read_opened.Goals as goal

pub returns-then-tally-size-clause-streams : goal.returns-then-tally-size-clause-streams
returns-then-tally-size-clause-streams g c =
    let i = c.pieces.invariant in
    let bytes = i.bytes ++ take c.in-Ok.count c.read.new.buffer in
    let tallied = c.add.ensures.added i.bytes i.tallied c.if-not-add.false in
    let less : c.args.listed.now.size < length bytes = omega (arith, tallied.size, c.if-tally-size.true) in
    let entry = c.counted-then-tally-size.ensures bytes tallied in (
      (
        record { bytes = bytes; entry = entry },
        λ same. other_size _ _ less (ap (λ (e : Entry). e.size) entry) same,
      ),
      λ t. too_long _ bytes _ _ (longer _ _ _ _ i.bytes _ _ i.source c.in-Ok.ensures.reads t) less,
    )
