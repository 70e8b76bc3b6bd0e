use Rattle.std.proofs.Common.{◌≡◌, ◌≤◌, take, sum_by}
use Rattle.bisync_tree.specs.declared.sides.Side.TheVariants.{One, Two}
use Rattle.bisync_model.specs.Changes.{changes_of}
use Rattle.bisync_run.proofs.steps.count_changes.Given as goal

abbrev pub invariant-loop-step : goal.invariant-loop-step
invariant-loop-step l = record {
  one : l.changes.one ≡ sum_by (changes_of One) (take l.step-index l.steps);
  two : l.changes.two ≡ sum_by (changes_of Two) (take l.step-index l.steps);
  one_within : l.changes.one ≤ l.step-index;
  two_within : l.changes.two ≤ l.step-index;
}
