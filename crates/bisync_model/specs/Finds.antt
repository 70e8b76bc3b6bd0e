-- The file of a step, as it was listed. This project's own.
use Rattle.std.specs.Prelude.{◌≡◌, List, ◌∷◌, ◌++◌, Some}
use Rattle.bisync_tree.specs.Rows.{PathBytes}
use Rattle.bisync_tree.specs.Tree.{entry}
use Rattle.bisync_tree.specs.declared.sides.Side.{Side}
use Rattle.bisync_tree.specs.declared.files.File.{File}
use Rattle.bisync_tree.specs.declared.entries.Entry.{Entry}
use Rattle.bisync_tree.specs.declared.entries.Compare.{Compare}
use Rattle.bisync_tree.specs.declared.steps.Step.{Step}
use Rattle.bisync_tree.specs.declared.steps.Step.TheVariants.{Copy, Rename, Delete}
use Rattle.bisync_model.specs.Trees.{Trees}
use Rattle.bisync_model.specs.Policy.{Policy}
use Rattle.bisync_model.specs.Effects.{after}

-- a side has a file at the path, and this is its entry
abbrev pub HasEntry : Compare → Trees → Side → PathBytes → Entry → Type 0
HasEntry c trees side p listed = (file : File) × (trees side p ≡ Some file) × (entry c file ≡ listed)

-- the file that a step copies, renames or deletes is there as it was listed
abbrev pub FindsFile : Compare → Step → Trees → Type 0
FindsFile c (Copy from p listed) trees = HasEntry c trees from p listed
FindsFile c (Rename side from to listed) trees = HasEntry c trees side from listed
FindsFile c (Delete side p listed) trees = HasEntry c trees side p listed

-- each of the steps finds its file so, once the steps before it are done
abbrev pub EachFindsFile : Policy → List Step → Trees → Type 0
EachFindsFile policy steps start =
    (done : List Step) (step : Step) (later : List Step) → steps ≡ done ++ step ∷ later → FindsFile policy.compare step (after policy.window done start)
