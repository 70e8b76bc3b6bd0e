use Rattle.std.proofs.Common.{◌<◌, length, arith}
use Rattle.bisync_glob.proofs.BraceLaws.{none_more, inside_goes, piece_of}
use Rattle.bisync_glob.proofs.braces.first_fault.Goals as goal

pub loop-k-preserved : goal.loop-k-preserved
loop-k-preserved c =
    let below : c.loop-k.k < length c.args.tokens.now = omega arith in
    record {
      none = none_more c.args.tokens.now c.loop-k.k c.loop-k.invariant.none c.in_default.ensures;
      inside = rw c.inside_after-inside.ensures (inside_goes c.args.tokens.now c.loop-k.k _ c.loop-k.inside (piece_of c.args.tokens.now c.loop-k.k c.index-tokens-k.result below) c.loop-k.invariant.inside);
    }

pub returns : goal.returns
returns c = λ k kind below fault. c.loop-k.invariant.none k kind (omega arith) fault
