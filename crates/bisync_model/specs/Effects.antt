-- What steps leave in the trees. This project's own.
use Rattle.std.specs.Prelude.{List, [], ◌∷◌, Option, Some, None}
use Rattle.bisync_tree.specs.Side.{other}
use Rattle.bisync_tree.specs.Rows.{PathBytes}
use Rattle.bisync_tree.specs.Tree.{brought}
use Rattle.bisync_tree.specs.declared.sides.Side.{Side}
use Rattle.bisync_tree.specs.declared.windows.Window.{Window}
use Rattle.bisync_tree.specs.declared.files.File.{File}
use Rattle.bisync_tree.specs.declared.entries.Entry.{Entry}
use Rattle.bisync_tree.specs.declared.steps.Step.{Step}
use Rattle.bisync_tree.specs.declared.steps.Step.TheVariants.{Copy, Rename, Delete}
use Rattle.bisync_model.specs.Trees.{Trees, put_at}

-- the source's file, where it is there, is brought to the other side with the listed time
abbrev pub with_copy : (Side → Window) → Side → PathBytes → Entry → Trees → Option File → Trees
with_copy window from p listed trees None = trees
with_copy window from p listed trees (Some file) =
    put_at trees (other from) p (Some (brought (window (other from)) (record { bytes = file.bytes; time = listed.time })))

-- the file, where it is there, stands under its new path
abbrev pub with_rename : Side → PathBytes → PathBytes → Trees → Option File → Trees
with_rename side from to trees None = trees
with_rename side from to trees (Some file) = put_at (put_at trees side from None) side to (Some file)

-- what a step leaves, on sides that keep times in these windows
abbrev pub effect : (Side → Window) → Step → Trees → Trees
effect window (Copy from p listed) trees = with_copy window from p listed trees (trees from p)
effect window (Rename side from to listed) trees = with_rename side from to trees (trees side from)
effect window (Delete side p listed) trees = put_at trees side p None

-- what steps leave, one after another
abbrev pub after : (Side → Window) → List Step → Trees → Trees
after window [] trees = trees
after window (step ∷ steps) trees = after window steps (effect window step trees)
