-- The copies of a resync make one change each.
use Rattle.std.proofs.Common.{◌≡◌, ℕ, List, [], ◌∷◌, Option, Some, None, refl, ◌∙◌, ap, arith}
use Rattle.std.specs.Prelude.{option_map, sum_by, flat_map}
use Rattle.std.proofs.lemmas.List.Sums.{sum_by-append, sum_by-cons}
use Rattle.bisync_tree.specs.Rows.{PathBytes}
use Rattle.bisync_tree.specs.Side.{other, is_side}
use Rattle.bisync_tree.specs.Tree.{entry}
use Rattle.bisync_tree.specs.declared.sides.Side.{Side}
use Rattle.bisync_tree.specs.declared.sides.Side.TheVariants.{One, Two}
use Rattle.bisync_tree.specs.declared.files.File.{File}
use Rattle.bisync_tree.specs.declared.entries.Entry.{Entry}
use Rattle.bisync_tree.specs.declared.steps.Step.{Step}
use Rattle.bisync_tree.specs.declared.steps.Step.TheVariants.{Copy}
use Rattle.bisync_model.specs.Plan.{copied}
use Rattle.bisync_model.specs.Changes.{one_if, changes_of}
use Rattle.bisync_model.specs.Resync.{source_at, resync_steps, resync_plan, copy_changes, resync_changes_at}
use Rattle.bisync_model.proofs.ListedRun.{Run}
use Rattle.bisync_model.proofs.ResyncCopies.{source_passes, source_there}

one_copy : (from side : Side) (p : PathBytes) (e : Entry) → sum_by (changes_of side) (Copy from p e ∷ []) ≡ one_if (is_side side (other from))
one_copy One One p e = refl
one_copy One Two p e = refl
one_copy Two One p e = refl
one_copy Two Two p e = refl

-- a sum over lists of one path each
by_path : (f : Step → ℕ) (g : PathBytes → ℕ) (steps : PathBytes → List Step) → ((p : PathBytes) → sum_by f (steps p) ≡ g p) → (ps : List PathBytes)
    → sum_by f (flat_map steps ps) ≡ sum_by g ps
by_path f g steps h [] = refl
by_path f g steps h (p ∷ ps) = omega (arith, by_path f g steps h ps, h p, sum_by-append f (steps p) (flat_map steps ps), sum_by-cons g p ps)

module _ (run : Run) (side : Side) where
  path_changes : (p : PathBytes) → sum_by (changes_of side) (resync_steps run.known p (source_at run.known p)) ≡ resync_changes_at run.known side p
  path_changes p = go (source_at run.known p) refl
    where
      copy : (from : Side) → source_at run.known p ≡ Some from → (f : File) × (run.start from p ≡ Some f)
          → sum_by (changes_of side) (copied from p (run.known.now from p)) ≡ one_if (is_side side (other from))
      copy from e (f, is) =
          ap (λ v. sum_by (changes_of side) (copied from p v)) (run.listed.now from p (source_passes run p from e) ∙ ap (λ v. option_map (entry run.known.policy.compare) v) is)
          ∙ one_copy from side p (entry run.known.policy.compare f)

      go : (w : Option Side) → source_at run.known p ≡ w → sum_by (changes_of side) (resync_steps run.known p w) ≡ copy_changes w side
      go None e = refl
      go (Some from) e = copy from e (source_there run p from e)

  pub resync_count : (paths : List PathBytes) → sum_by (changes_of side) (resync_plan run.known paths) ≡ sum_by (resync_changes_at run.known side) paths
  resync_count paths = by_path (changes_of side) (resync_changes_at run.known side) (λ p. resync_steps run.known p (source_at run.known p)) path_changes paths
