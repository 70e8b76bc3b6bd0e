-- A pair of listings, by side and path. This project's own.
use Rattle.std.specs.Prelude.{◌≡◌, true, Option, option_map}
use Rattle.bisync_tree.specs.Rows.{PathBytes}
use Rattle.bisync_tree.specs.Tree.{entry}
use Rattle.bisync_tree.specs.Same.{same}
use Rattle.bisync_tree.specs.declared.sides.Side.{Side}
use Rattle.bisync_tree.specs.declared.sides.Side.TheVariants.{One, Two}
use Rattle.bisync_tree.specs.declared.entries.Entry.{Entry}
use Rattle.bisync_tree.specs.declared.entries.Compare.{Compare}
use Rattle.bisync_model.specs.Trees.{Trees}
use Rattle.bisync_model.specs.Policy.{Policy}

-- what the listing of each side says of each path
abbrev pub Entries : Type 0
Entries = Side → PathBytes → Option Entry

-- the entries of what each side has
abbrev pub entries_of : Compare → Trees → Entries
entries_of c trees side p = option_map (entry c) (trees side p)

-- the two have the same entry at each passing path of each side
abbrev pub SameWherePassing : Policy → Entries → Entries → Type 0
SameWherePassing policy entries others = (side : Side) (p : PathBytes) → policy.passes p ≡ true → entries side p ≡ others side p

-- the entries of Path1 and Path2 at a path are the same in the compared fields
abbrev pub AgreeAt : Compare → Entries → PathBytes → Type 0
AgreeAt c entries p = same c (entries One p) (entries Two p) ≡ true

-- they are at each passing path
abbrev pub AgreeWherePassing : Policy → Entries → Type 0
AgreeWherePassing policy entries = (p : PathBytes) → policy.passes p ≡ true → AgreeAt policy.compare entries p
