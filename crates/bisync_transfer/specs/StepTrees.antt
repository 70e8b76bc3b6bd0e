-- What a step leaves, in the words of the two trees of a run.
use Rattle.std.specs.Prelude.{◌≡◌, ◌≢◌, ◌⊎◌, ◌+◌, ◌++◌, List, [], ◌∷◌, sum_by, Some, Result, Ok, Err}
use Rattle.bisync_tree.specs.declared.sides.Side.{Side}
use Rattle.bisync_tree.specs.declared.sides.Side.TheVariants.{One, Two}
use Rattle.bisync_tree.specs.declared.windows.Window.{Window}
use Rattle.bisync_tree.specs.declared.steps.Step.{Step}
use Rattle.bisync_device.specs.Remote.{RemoteState}
use Rattle.bisync_model.specs.Trees.{Trees, SameTrees, by_side, trees_of}
use Rattle.bisync_model.specs.Effects.{effect, after as after_steps}
use Rattle.bisync_model.specs.Changes.{changes_of}
use Rattle.bisync_transfer.specs.StepEffect.{changed_side}
use Rattle.bisync_transfer.specs.declared.steps.StepFault.{StepFault}
use Rattle.bisync_transfer.specs.declared.steps.StepFault.TheVariants.{RemoteFault, Moved}

-- the trees of both remotes
abbrev pub trees_in : (Side → RemoteState) → Trees
trees_in state = trees_of (state One).tree (state Two).tree

-- the windows of both remotes
abbrev pub windows_in : (Side → RemoteState) → Side → Window
windows_in state = by_side (state One).window (state Two).window

-- the trees are those that the step leaves, and its changes are counted
pub record HasEffect (step : Step) (before after : Side → RemoteState) : Type 0 where
  pub trees : SameTrees (trees_in after) (effect (windows_in before) step (trees_in before))
  pub changes : (side : Side) → (after side).changes ≡ (before side).changes + changes_of side step

-- the trees and the counts of changes are as they were
pub record HasNoEffect (before after : Side → RemoteState) : Type 0 where
  pub trees : SameTrees (trees_in after) (trees_in before)
  pub changes : (side : Side) → (after side).changes ≡ (before side).changes

-- what each answer leaves
abbrev pub Leaves : Step → (Side → RemoteState) → (Side → RemoteState) → Result (Unit {0}) StepFault → Type 0
Leaves step before after (Ok _) = HasEffect step before after
Leaves step before after (Err (RemoteFault side)) =
    HasNoEffect before after ⊎ ((side ≡ changed_side step) × ((before side).left ≢ Some 0) × HasEffect step before after)
Leaves step before after (Err (Moved side listed read)) = HasNoEffect before after

-- since the start these steps were done, one after another, and nothing else
pub record AreDone (steps : List Step) (start now : Side → RemoteState) : Type 0 where
  pub windows : (side : Side) → (now side).window ≡ (start side).window
  pub trees : SameTrees (trees_in now) (after_steps (windows_in start) steps (trees_in start))
  pub changes : (side : Side) → (now side).changes ≡ (start side).changes + sum_by (changes_of side) steps

abbrev pub KeepsWindows : (Side → RemoteState) → (Side → RemoteState) → Type 0
KeepsWindows before after = (side : Side) → (after side).window ≡ (before side).window

-- of steps that were done before this one, what each answer leaves
abbrev pub GoesOn : List Step → Step → (Side → RemoteState) → (Side → RemoteState) → Result (Unit {0}) StepFault → Type 0
GoesOn steps step start now (Ok _) = AreDone (steps ++ step ∷ []) start now
GoesOn steps step start now (Err (RemoteFault side)) = AreDone steps start now ⊎ AreDone (steps ++ step ∷ []) start now
GoesOn steps step start now (Err (Moved side listed read)) = AreDone steps start now
