-- The copies of a resync find their files.
use Rattle.std.proofs.Common.{◌≡◌, Option, Some, None, List, refl, sym, ◌∙◌, ap, subst}
use Rattle.std.specs.Prelude.{option_map}
use Rattle.bisync_tree.specs.Rows.{PathBytes}
use Rattle.bisync_tree.specs.Tree.{entry}
use Rattle.bisync_tree.specs.declared.files.File.{File}
use Rattle.bisync_tree.specs.declared.sides.Side.{Side}
use Rattle.bisync_model.specs.Plan.{copied}
use Rattle.bisync_model.specs.Runs.{ArePaths}
use Rattle.bisync_model.specs.Resync.{source_at, resync_steps, resync_plan}
use Rattle.bisync_model.specs.Finds.{EachFindsFile}
use Rattle.bisync_model.proofs.ListedRun.{Run}
use Rattle.bisync_model.proofs.RegionSteps.{owned_all, steps_of-owned_all}
use Rattle.bisync_model.proofs.WholePlan.{distinct-rising}
use Rattle.bisync_model.proofs.ResyncCopies.{Alone, F, owned_apart, only-owned, covers, source_passes, source_there}
use Rattle.bisync_model.proofs.FilesFound.{AllFind, owners-owned_by, owners-owned_all, find_owned}

module _ (run : Run) where
  copy_finds : (p : PathBytes) (from : Side) → source_at run.known p ≡ Some from → (f : File) × (run.start from p ≡ Some f)
      → AllFind run (copied from p (run.known.now from p)) run.start
  copy_finds p from e (f, is) =
      subst (λ x. AllFind run (copied from p x) run.start)
      (sym (run.listed.now from p (source_passes run p from e) ∙ ap (λ x. option_map (entry run.known.policy.compare) x) is)) ((f, is, refl), tt)

  path_finds : (p : PathBytes) → AllFind run (resync_steps run.known p (source_at run.known p)) run.start
  path_finds p = go (source_at run.known p) refl
    where
      go : (w : Option Side) → source_at run.known p ≡ w → AllFind run (resync_steps run.known p w) run.start
      go None e = tt
      go (Some from) e = copy_finds p from e (source_there run p from e)

  abbrev Any : PathBytes → Type 0
  Any p = Unit {0}

  pub resync_finds : (paths : List PathBytes) → ArePaths run.known paths → EachFindsFile run.known.policy (resync_plan run.known paths) run.start
  unfolding F
  resync_finds paths are =
      subst (λ l. EachFindsFile run.known.policy l run.start) (steps_of-owned_all (F run) paths)
      (find_owned run Alone Any (owned_all (F run) paths)
      (owners-owned_all Any (F run) paths (λ q. owners-owned_by Any q (F run q) tt))
      (λ p any. owned_apart run p paths)
      (λ p any. subst (λ l. AllFind run l run.start) (sym (only-owned run p paths (distinct-rising paths are.rising) (covers run paths are p))) (path_finds p)))
