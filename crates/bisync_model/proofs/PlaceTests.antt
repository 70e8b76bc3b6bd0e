-- Tests of sides, and places that a change leaves.
use Rattle.std.proofs.Common.{◌≡◌, Bool, true, false, cond, ◌&&◌, ◌||◌, Option, refl}
use Rattle.std.specs.Prelude.{bytes_eq}
use Rattle.bisync_tree.specs.Rows.{PathBytes}
use Rattle.bisync_tree.specs.declared.files.File.{File}
use Rattle.bisync_tree.specs.Side.{is_side}
use Rattle.bisync_tree.specs.declared.sides.Side.{Side}
use Rattle.bisync_tree.specs.declared.sides.Side.TheVariants.{One, Two}
use Rattle.bisync_model.specs.Trees.{Trees, put_at}

pub side_is_itself : (s : Side) → is_side s s ≡ true
side_is_itself One = refl
side_is_itself Two = refl

pub same_side : (s t : Side) → is_side s t ≡ true → s ≡ t
same_side One One e = refl
same_side Two Two e = refl
same_side One Two e = cc
same_side Two One e = cc

pub put_other : (trees : Trees) (side : Side) (p : PathBytes) (file : Option File) (s : Side) (n : PathBytes) → bytes_eq n p ≡ false → put_at trees side p file s n ≡ trees s n
put_other trees side p file s n e = go (is_side s side) (bytes_eq n p) e
  where
    go : (a b : Bool) → b ≡ false → cond (a && b) file (trees s n) ≡ trees s n
    go true true e = cc
    go true false e = refl
    go false b e = refl

pub or_false_left : (a b : Bool) → (a || b) ≡ false → a ≡ false
or_false_left true b e = cc
or_false_left false b e = refl

pub or_false_right : (a b : Bool) → (a || b) ≡ false → b ≡ false
or_false_right true b e = cc
or_false_right false b e = e

pub or_true_right : (a b : Bool) → a ≡ false → (a || b) ≡ true → b ≡ true
or_true_right true b f e = cc
or_true_right false b f e = e
