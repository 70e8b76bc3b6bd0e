use Rattle.bisync_plan.proofs.MergedRows.{above_rest_popped}
use Rattle.bisync_plan.proofs.merges.push_rest.Goals as goal

pub push-requires : goal.push-requires
push-requires c = record {
  above = above_rest_popped c.loop-first.listing c.loop-first.rows.entries c.pop_first.new.self.entries _ c.in-Some.first c.in-Some.entry
      c.requires.rising c.loop-first.invariant c.in-Some.ensures.removal;
}
