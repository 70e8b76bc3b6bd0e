-- What is seen of a side is what some tree would show, its own where it tells.
use Rattle.std.proofs.Common.{◌≡◌, Bool, true, false, IsTrue, List, refl}
use Rattle.bisync_tree.specs.Rows.{PathBytes, Rows}
use Rattle.bisync_tree.specs.Tree.{Tree}
use Rattle.bisync_tree.specs.declared.entries.Compare.{Compare}
use Rattle.bisync_observe.specs.Observing.{IsSeenOf}
use Rattle.bisync_run.specs.Looking.{IsSeenAs}

not_told : IsTrue false → ⊥
not_told e = cc

pub seen_tree : (tells : Bool) (compare : Compare) (passes : PathBytes → Bool) (own attached : Tree) (names : List PathBytes) (listing : Rows)
    → (IsTrue tells → attached ≡ own) → (IsTrue tells → IsSeenOf compare passes attached names listing)
    → (tree : Tree) × IsSeenOf compare passes tree names listing → IsSeenAs tells compare passes own names listing
seen_tree true compare passes own attached names listing kept told some = record { tree = attached; own_is = kept; seen = told refl }
seen_tree false compare passes own attached names listing kept told some = record { tree = some.0; own_is = λ t. absurd (not_told t); seen = some.1 }
