use Rattle.bisync_plan.proofs.MergedRows.{above_popped}
use Rattle.bisync_plan.proofs.merges.push_before.Goals as goal

pub push-requires : goal.push-requires
push-requires c = record {
  above = above_popped c.loop-first.listing c.loop-first.rows.entries c.pop_before.new.rows.entries _ c.args.path.now c.in-Some.first c.in-Some.entry
      c.requires.rising c.loop-first.invariant.listing c.in-Some.ensures.rest c.in-Some.ensures.row;
}
