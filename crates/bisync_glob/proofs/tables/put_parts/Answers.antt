use Rattle.std.proofs.Common.{◌-◌, ◌+◌, drop, length, arith}
use Rattle.bisync_glob.specs.Deciding.{IsBlank, parts_match}
use Rattle.bisync_glob.proofs.TableLaws.{drop_open}
use Rattle.bisync_glob.proofs.Nowhere.{none_set}
use Rattle.bisync_glob.proofs.tables.put_parts.Goals as goal

pub loop-k-preserved : goal.loop-k-preserved
loop-k-preserved c = record {
  table =
      rw (drop_open c.args.parts.now c.loop-k.k c.index-parts-k.result (omega arith) (omega arith))
      (rw (← c.index-parts-k.is) (c.put_part.ensures.table (parts_match (drop c.loop-k.k c.args.parts.now)) c.loop-k.invariant.table));
  low = c.in-Some.ensures.low;
}

pub returns-in-None-clause-table : goal.returns-in-None-clause-table
returns-in-None-clause-table c =
    let blank : IsBlank c.put_part.new.table (length c.args.text.now + 1) = c.in-None.ensures.low in
    none_set c.args.parts.now (c.loop-k.k - 1) c.args.text.now c.put_part.new.table
    (rw (drop_open c.args.parts.now c.loop-k.k c.index-parts-k.result (omega arith) (omega arith))
    (rw (← c.index-parts-k.is) (c.put_part.ensures.table (parts_match (drop c.loop-k.k c.args.parts.now)) c.loop-k.invariant.table)))
    (λ i h. blank i (omega arith))
