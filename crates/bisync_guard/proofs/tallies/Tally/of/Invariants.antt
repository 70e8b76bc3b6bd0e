use Rattle.std.proofs.Common.{◌≡◌, ℕ, List, length, Some}
use Rattle.std.specs.Prelude.{option_copied}
use Rattle.bisync_tree.specs.Walk.{cells, listings_of}
use Rattle.bisync_guard.specs.declared.access.Access.TheVariants.{Unseen}
use Rattle.bisync_guard.specs.Tally.{guard_after}
use Rattle.bisync_guard.proofs.Counting.{AreSoFar}
use Rattle.bisync_guard.proofs.tallies.Tally.of.Given as goal

abbrev pub invariant-loop-cell : goal.invariant-loop-cell
invariant-loop-cell l = record {
  one : AreSoFar l.compare l.view.base1 l.view.now1 (λ cell. cell.base1) (λ cell. cell.now1) l.walk l.one;
  two : AreSoFar l.compare l.view.base2 l.view.now2 (λ cell. cell.base2) (λ cell. cell.now2) l.walk l.two;
  seen : (name : List ℕ) → option_copied l.check ≡ Some name → guard_after name l.access l.walk ≡ guard_after name Unseen (cells (listings_of l.view));
}

abbrev pub decreases-loop-cell : goal.decreases-loop-cell
decreases-loop-cell l = length l.walk
