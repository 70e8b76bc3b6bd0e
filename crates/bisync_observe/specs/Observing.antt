-- What was seen of a remote, and why nothing was.
use Rattle.std.specs.Prelude.{◌≡◌, Bool, true, false, IsTrue, List, length, is_some, Option, Some, None, Result, Ok, Err, ⊤}
use Rattle.bisync_text.specs.Path.{IsPath}
use Rattle.bisync_tree.specs.Rows.{PathBytes, Rows, look, is_among, listing_of, paths_in}
use Rattle.bisync_tree.specs.Tree.{Tree}
use Rattle.bisync_tree.specs.declared.entries.Entry.{Entry}
use Rattle.bisync_tree.specs.declared.entries.Compare.{Compare}
use Rattle.bisync_tree.specs.declared.options.Limits.{Limits}
use Rattle.bisync_observe.specs.Counting.{IsOver, IsWithin, AreOfTree, name_bytes}
use Rattle.bisync_observe.specs.FileReading.{Differs}
use Rattle.bisync_observe.specs.declared.faults.ObserveFault.{ObserveFault}
use Rattle.bisync_observe.specs.declared.faults.ObserveFault.TheVariants.{RemoteFault, BadPath, TooMany, Moved, OutOfMemory}

-- each listed path passes and is among the names
abbrev pub ArePassingNames : (PathBytes → Bool) → List PathBytes → Rows → Type 0
ArePassingNames passes names listing = (p : PathBytes) (e : Entry) → look listing p ≡ Some e → (passes p ≡ true) × (is_among p names ≡ true)

-- each entry has a digest exactly where checksums are compared
abbrev pub HaveDigestsFor : Compare → Rows → Type 0
HaveDigestsFor compare listing = (p : PathBytes) (e : Entry) → look listing p ≡ Some e → is_some e.hash ≡ compare.hash

-- neither the number of names nor that of their bytes is over its limit
abbrev pub AreWithin : Limits → List PathBytes → Type 0
AreWithin limits names = IsWithin limits (length names) (name_bytes names)

-- the names are those of the tree, and the listing is its listing
pub record IsSeenOf (compare : Compare) (passes : PathBytes → Bool) (tree : Tree) (paths : List PathBytes) (rows : Rows) : Type 0 where
  pub names : paths ≡ paths_in tree
  pub listing : rows ≡ listing_of compare passes tree

-- the path passes, and what was read differs from what was listed, which has no digest
pub record IsMoved (compare : Compare) (passes : PathBytes → Bool) (path : PathBytes) (listed : Entry) (read : Option Entry) : Type 0 where
  pub compared : compare.hash ≡ true
  pub passed : passes path ≡ true
  pub no_digest : listed.hash ≡ None
  pub differs : Differs listed read

-- when each refusal comes. That a call failed is told by the count of faults
abbrev pub IsCause : Bool → Tree → Compare → (PathBytes → Bool) → Limits → ObserveFault → Type 0
IsCause tells tree compare passes limits RemoteFault = ⊤
IsCause tells tree compare passes limits (BadPath text) = (IsPath text → ⊥) × (IsTrue tells → ⊥)
IsCause tells tree compare passes limits (TooMany files bytes) = IsOver limits files bytes × (IsTrue tells → AreOfTree tree files bytes)
IsCause tells tree compare passes limits (Moved path listed read) = IsMoved compare passes path listed read × (IsTrue tells → ⊥)
IsCause tells tree compare passes limits OutOfMemory = ⊤

abbrev pub is_remote_fault : {T : Type 0} → Result T ObserveFault → Bool
is_remote_fault (Ok _) = false
is_remote_fault (Err RemoteFault) = true
is_remote_fault (Err (BadPath _)) = false
is_remote_fault (Err (TooMany _ _)) = false
is_remote_fault (Err (Moved _ _ _)) = false
is_remote_fault (Err OutOfMemory) = false
