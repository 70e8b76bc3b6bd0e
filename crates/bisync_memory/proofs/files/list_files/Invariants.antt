use Rattle.std.proofs.Common.{◌≡◌, ◌++◌, List, map, All}
use Rattle.bisync_text.specs.Path.{IsPath}
use Rattle.bisync_tree.specs.Rows.{item_of}
use Rattle.bisync_tree.specs.declared.files.Item.{Item}
use Rattle.bisync_memory.proofs.files.list_files.Given as goal

abbrev pub invariant-loop-path : goal.invariant-loop-path
invariant-loop-path l = (more : List Item)
    × (l.out.items ≡ l.initial.out.items ++ more)
    × All (λ item. IsPath item.path) more
    × (map item_of l.files.entries ≡ more ++ map item_of l.path-iterator)
