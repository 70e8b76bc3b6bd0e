-- A step that finds its file as it was listed finds it on a remote with that tree.
use Rattle.std.proofs.Common.{◌≡◌, Bool, true, false, cond, Some, None, refl, sym, ◌∙◌, subst}
use Rattle.std.specs.Prelude.{IfSome, IsSome}
use Rattle.md5.specs.Md5.{md5}
use Rattle.bisync_tree.specs.Rows.{PathBytes}
use Rattle.bisync_tree.specs.Tree.{file_at, entry}
use Rattle.bisync_tree.specs.declared.files.File.{File}
use Rattle.bisync_tree.specs.declared.entries.Compare.{Compare}
use Rattle.bisync_tree.specs.declared.steps.Step.{Step}
use Rattle.bisync_tree.specs.declared.steps.Step.TheVariants.{Copy, Rename, Delete}
use Rattle.bisync_device.specs.Remote.{RemoteState}
use Rattle.bisync_tree.specs.declared.sides.Side.{Side}
use Rattle.bisync_tree.specs.declared.sides.Side.TheVariants.{One, Two}
use Rattle.bisync_model.specs.Trees.{Trees, SameTrees}
use Rattle.bisync_transfer.specs.StepTrees.{trees_in}
use Rattle.bisync_model.specs.Finds.{FindsFile}
use Rattle.bisync_transfer.specs.FileCopy.{IsListed}
use Rattle.bisync_transfer.specs.StepEffect.{HasStepFile, source_of}

entry_listed : (c : Compare) (file : File) → IsListed (entry c file) file.bytes
entry_listed c file = record { size = refl; digest = go c.hash }
  where
    go : (b : Bool) → IfSome (cond b (Some (md5 file.bytes)) None) (λ hash. md5 file.bytes ≡ hash)
    go true = refl
    go false = tt

pub found_there : (c : Compare) (step : Step) (trees : Trees) (source : RemoteState)
    → ((p : PathBytes) → file_at source.tree p ≡ trees (source_of step) p) → FindsFile c step trees → HasStepFile step source
found_there c (Copy from p listed) trees source same (file, is, e) = (file, same p ∙ is, subst (λ l. IsListed l file.bytes) e (entry_listed c file))
found_there c (Rename side from to listed) trees source same (file, is, e) = subst (λ v. IsSome v) (sym (same from ∙ is)) refl
found_there c (Delete side p listed) trees source same (file, is, e) = subst (λ v. IsSome v) (sym (same p ∙ is)) refl

pub found_in : (c : Compare) (step : Step) (trees : Trees) (state : Side → RemoteState)
    → SameTrees (trees_in state) trees → FindsFile c step trees → HasStepFile step (state (source_of step))
found_in c step trees state same = found_there c step trees (state (source_of step)) (λ p. at_side (source_of step) p)
  where
    at_side : (s : Side) (p : PathBytes) → file_at (state s).tree p ≡ trees s p
    at_side One p = same One p
    at_side Two p = same Two p
