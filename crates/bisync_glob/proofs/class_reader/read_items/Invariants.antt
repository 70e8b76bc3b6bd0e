use Rattle.std.proofs.Common.{◌≤◌, ◌-◌, ◌++◌, List, ℕ, length, drop}
use Rattle.bisync_glob.specs.declared.classes.Item.{Item}
use Rattle.bisync_glob.specs.Reading.{ReadsItems}
use Rattle.bisync_glob.proofs.class_reader.read_items.Given as goal

abbrev pub invariant-loop-item : goal.invariant-loop-item
invariant-loop-item l = record {
  fits : l.len ≤ length l.text;
  read : (more : List Item) (rest : List ℕ) → ReadsItems more (drop l.len l.text) rest → ReadsItems (l.items.items ++ more) l.text rest;
}

abbrev pub decreases-loop-item : goal.decreases-loop-item
decreases-loop-item l = length l.text - l.len
