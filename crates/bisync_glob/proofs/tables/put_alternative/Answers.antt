use Rattle.std.proofs.Common.{◌≡◌, drop, length, arith}
use Rattle.bisync_glob.specs.Deciding.{alternative_then}
use Rattle.bisync_glob.proofs.TableLaws.{drop_open, low_or}
use Rattle.bisync_glob.proofs.tables.put_alternative.Goals as goal

pub loop-k-preserved : goal.loop-k-preserved
loop-k-preserved c = record {
  table = λ q table.
      rw (drop_open c.args.parts.now c.loop-k.k c.index-parts-k.result (omega arith) (omega arith))
      (rw (← c.index-parts-k.is) (c.put_simple.ensures.table (alternative_then (drop c.loop-k.k c.args.parts.now) q) (c.loop-k.invariant.table q table)));
  low = low_or c.put_simple.result c.put_simple.new.table (length c.args.text.now) c.unwrap_or-low.result c.unwrap_or-low.ensures c.put_simple.ensures.low;
}

pub returns : goal.returns
returns c = λ q table. let none : c.loop-k.k ≡ 0 = omega arith in rw none at (c.loop-k.invariant.table q table)
