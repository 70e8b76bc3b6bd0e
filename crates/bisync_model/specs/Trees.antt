-- The two trees of a run, path by path. This project's own: a step changes one place, and no order of paths is seen.
use Rattle.std.specs.Prelude.{◌≡◌, ◌&&◌, Option, bytes_eq, if◌then◌else◌}
use Rattle.bisync_tree.specs.Side.{is_side}
use Rattle.bisync_tree.specs.Rows.{PathBytes}
use Rattle.bisync_tree.specs.Tree.{Tree, file_at}
use Rattle.bisync_tree.specs.declared.sides.Side.{Side}
use Rattle.bisync_tree.specs.declared.sides.Side.TheVariants.{One, Two}
use Rattle.bisync_tree.specs.declared.files.File.{File}

-- what each side has at each path
abbrev pub Trees : Type 0
Trees = Side → PathBytes → Option File

-- of two values, the one of a side
abbrev pub by_side : {A : Type 0} → A → A → Side → A
by_side one two One = one
by_side one two Two = two

-- Path1's tree and Path2's
abbrev pub trees_of : Tree → Tree → Trees
trees_of one two = by_side (file_at one) (file_at two)

-- both sides have the same at every path
abbrev pub SameTrees : Trees → Trees → Type 0
SameTrees trees others = (side : Side) (path : PathBytes) → trees side path ≡ others side path

-- the trees, but that a side has this file, or nothing, at a path
abbrev pub put_at : Trees → Side → PathBytes → Option File → Trees
put_at trees side path file = λ s p. if is_side s side && bytes_eq p path then file else trees s p
