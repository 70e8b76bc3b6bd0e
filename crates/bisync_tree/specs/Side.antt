-- The two sides of a run.
use Rattle.std.specs.Prelude.{Bool, true, false}
use Rattle.bisync_tree.specs.declared.sides.Side.{Side}
use Rattle.bisync_tree.specs.declared.sides.Side.TheVariants.{One, Two}

abbrev pub other : Side → Side
other One = Two
other Two = One

abbrev pub is_side : Side → Side → Bool
is_side One One = true
is_side Two Two = true
is_side One Two = false
is_side Two One = false
