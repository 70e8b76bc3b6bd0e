use Rattle.std.proofs.Common.{sym, subst}
use Rattle.bisync_model.specs.Trees.{SameTrees}
use Rattle.bisync_model.specs.Outcome.{outcome}
use Rattle.bisync_model.specs.Finals.{final_entry}
use Rattle.bisync_model.specs.Effects.{after}
use Rattle.bisync_model.specs.Resync.{resync_outcome, resync_entry}
use Rattle.bisync_model.proofs.ListedRun.{Run}
use Rattle.bisync_model.proofs.WholePlan.{reaches, given_ok, distinct-rising, covered_by}
use Rattle.bisync_model.proofs.FinalEntries.{final_listed}
use Rattle.bisync_model.proofs.ResyncCopies.{resync_run, resync_reaches, resync_listed}
use Rattle.bisync_plan.proofs.ListedOutcomes.{plan_lists, final_filtered, resync_filtered}
use Rattle.bisync_plan.proofs.laws.new_listings_are_of_the_trees_that_the_steps_leave.Goals as goal

pub returns : goal.returns
returns c = record {
  run = λ known start paths made one two listed through is there.
      let run : Run = record { known = known; start = start; listed = listed } in
      let ok = given_ok run paths is.names through is.are in
      plan_lists known.policy (final_entry known is.names) (outcome known start is.names) (after known.policy.window made.steps.items start) made one two
      (final_listed run is.names ok) (final_filtered known is.names) is.finals there
      (subst (λ l. SameTrees (after known.policy.window l start) (outcome known start is.names)) (sym is.steps)
      (reaches run is.names ok paths (distinct-rising paths through.rising) (covered_by run paths through)));
  resync = λ known start paths are made one two is there.
      plan_lists known.policy (resync_entry known) (resync_outcome known start) (after known.policy.window made.steps.items start) made one two
      (resync_listed known start are.listed) (resync_filtered known) is.finals there
      (subst (λ l. SameTrees (after known.policy.window l start) (resync_outcome known start)) (sym is.steps)
      (resync_reaches (resync_run known start are.listed) paths (record { rising = are.through.rising; covering = are.through.covering })));
}
