-- What a class says of characters.
use Rattle.std.specs.Prelude.{Bool, List}
use Rattle.bisync_glob.specs.declared.classes.Item.{Item}

-- the items between `[` and `]`, and whether `!` or `^` stands before them
pub record CharSet : Type 0 where
  pub negated : Bool
  pub items : List Item
