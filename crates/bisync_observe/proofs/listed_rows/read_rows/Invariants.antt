use Rattle.std.proofs.Common.{◌≡◌, ◌++◌, List, All}
use Rattle.std.specs.Vec.Iter.{into_iter_items}
use Rattle.bisync_text.specs.Path.{IsPath}
use Rattle.bisync_tree.specs.declared.files.Item.{Item}
use Rattle.bisync_observe.specs.Listed.{rows_of}
use Rattle.bisync_observe.proofs.listed_rows.read_rows.Given as goal

abbrev pub invariant-loop-item : goal.invariant-loop-item
invariant-loop-item l =
    (goal.iterator-loop-item).can_next l.item-iterator ×
    (goal.iterator-loop-item).is_finite l.item-iterator ×
    (before : List Item)
    × (l.fn.items.items ≡ before ++ into_iter_items l.item-iterator)
    × All (λ (i : Item). IsPath i.path) before
    × (l.rows.items ≡ rows_of before)
