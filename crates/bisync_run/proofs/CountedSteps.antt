-- A side that tells counts the changes of the steps that are done, whatever the other one tells.
use Rattle.std.proofs.Common.{◌≡◌, ◌+◌, ◌++◌, [], ◌∷◌, ◌∙◌, ℕ, Bool, IsTrue, List, ap, sym, sum_by, add-zero, add_assoc, arith}
use Rattle.std.proofs.lemmas.Grind.{common_steps}
use Rattle.bisync_tree.specs.declared.sides.Side.{Side}
use Rattle.bisync_tree.specs.declared.sides.Side.TheVariants.{One, Two}
use Rattle.bisync_tree.specs.declared.steps.Step.{Step}
use Rattle.bisync_tree.specs.declared.steps.Step.TheVariants.{Copy, Rename, Delete}
use Rattle.bisync_model.specs.Changes.{changes_of}
use Rattle.bisync_device.specs.Remote.{RemoteState}
use Rattle.bisync_transfer.specs.StepEffect.{IsDone}

sum_more : (f : Step → ℕ) (steps : List Step) (step : Step) → sum_by f (steps ++ step ∷ []) ≡ sum_by f steps + f step
sum_more f steps step = grind (arith, common_steps)

module _ (tells : Side → Bool) (before after : Side → RemoteState) where
  as_before : (side : Side) → (after side).changes ≡ (before side).changes → (after side).changes ≡ (before side).changes + 0
  as_before side e = e ∙ sym (add-zero (before side).changes)

  step_counts : (step : Step) → IsDone tells step before after → (side : Side) → IsTrue (tells side) → (after side).changes ≡ (before side).changes + changes_of side step
  step_counts (Copy One p listed) d One t = as_before One (d.kept t).changes
  step_counts (Copy One p listed) d Two t = (d.change.change t).changes
  step_counts (Copy Two p listed) d One t = (d.change.change t).changes
  step_counts (Copy Two p listed) d Two t = as_before Two (d.kept t).changes
  step_counts (Rename One from to listed) d One t = (d.change t).changes
  step_counts (Rename One from to listed) d Two t = as_before Two (d.kept t).changes
  step_counts (Rename Two from to listed) d One t = as_before One (d.kept t).changes
  step_counts (Rename Two from to listed) d Two t = (d.change t).changes
  step_counts (Delete One p listed) d One t = (d.change t).changes
  step_counts (Delete One p listed) d Two t = as_before Two (d.kept t).changes
  step_counts (Delete Two p listed) d One t = as_before One (d.kept t).changes
  step_counts (Delete Two p listed) d Two t = (d.change t).changes

  pub counts_more : (start : Side → RemoteState) (steps : List Step) (step : Step) (side : Side) → IsTrue (tells side) → IsDone tells step before after
      → (before side).changes ≡ (start side).changes + sum_by (changes_of side) steps
      → (after side).changes ≡ (start side).changes + sum_by (changes_of side) (steps ++ step ∷ [])
  counts_more start steps step side t d so_far =
      step_counts step d side t ∙ ap (λ n. n + changes_of side step) so_far
      ∙ add_assoc (start side).changes (sum_by (changes_of side) steps) (changes_of side step)
      ∙ ap (λ n. (start side).changes + n) (sym (sum_more (changes_of side) steps step))
