-- What looking at the sides comes to: what was seen of them, and why nothing was.
use Rattle.std.specs.Prelude.{◌≡◌, ◌⊎◌, List, Bool, true, false, IsTrue, None, Result, Ok, Err, ⊤}
use Rattle.bisync_text.specs.Path.{IsPath}
use Rattle.bisync_tree.specs.Rows.{PathBytes, Rows}
use Rattle.bisync_tree.specs.Tree.{Tree}
use Rattle.bisync_tree.specs.declared.sides.Side.{Side}
use Rattle.bisync_tree.specs.declared.sides.Side.TheVariants.{One, Two}
use Rattle.bisync_tree.specs.declared.entries.Compare.{Compare}
use Rattle.bisync_tree.specs.declared.options.Limits.{Limits}
use Rattle.bisync_device.specs.Remote.{RemoteState, KeepsTree}
use Rattle.bisync_observe.specs.Counting.{IsOver, AreOfTree}
use Rattle.bisync_observe.specs.Observing.{ArePassingNames, HaveDigestsFor, AreWithin, IsMoved, IsSeenOf}
use Rattle.bisync_observe.specs.declared.observing.Seen.{Seen}
use Rattle.bisync_observe.specs.declared.faults.ObserveFault.{ObserveFault}
use Rattle.bisync_observe.specs.declared.faults.ObserveFault.TheVariants as unseen
use Rattle.bisync_plan.specs.declared.faults.PlanFault.{PlanFault}
use Rattle.bisync_plan.specs.declared.faults.PlanFault.TheVariants as unplanned
use Rattle.bisync_report.specs.declared.ends.End.{End}
use Rattle.bisync_report.specs.declared.ends.End.TheVariants.{WorkFault, RemoteFault, BadPath, TooMany, NameTooLong, ListingTooLong, OutOfSync, Moved, OutOfMemory}
use Rattle.bisync_run.specs.Sides.{IsListable}

-- calls were made that changed no file and no folder
pub record OnlyLooks (tells : Bool) (before after : RemoteState) : Type 0 where
  pub tree : KeepsTree tells before after
  pub window : after.window ≡ before.window
  pub left : before.left ≡ None → after.left ≡ None

-- # One side

-- what was seen is what some tree would show; that of a remote that tells is its own
pub record IsSeenAs (tells : Bool) (compare : Compare) (passes : PathBytes → Bool) (own : Tree) (names : List PathBytes) (listing : Rows) : Type 0 where
  pub tree : Tree
  pub own_is : IsTrue tells → tree ≡ own
  pub seen : IsSeenOf compare passes tree names listing

-- the end of a run that didn't see a side
abbrev pub unseen_end : Side → ObserveFault → End
unseen_end side unseen.RemoteFault = RemoteFault side
unseen_end side (unseen.BadPath text) = BadPath side text
unseen_end side (unseen.TooMany files bytes) = TooMany side files bytes
unseen_end side (unseen.Moved path listed read) = Moved side path listed read
unseen_end side unseen.OutOfMemory = OutOfMemory

-- why a run didn't see a side. That a call failed is told by the count of faults
abbrev pub IsWhyUnseen : Bool → Tree → Compare → (PathBytes → Bool) → Limits → Side → End → Type 0
IsWhyUnseen tells tree compare passes limits side (RemoteFault of) = of ≡ side
IsWhyUnseen tells tree compare passes limits side (BadPath of text) = (of ≡ side) × (IsPath text → ⊥) × (IsTrue tells → ⊥)
IsWhyUnseen tells tree compare passes limits side (TooMany of files bytes) = (of ≡ side) × IsOver limits files bytes × (IsTrue tells → AreOfTree tree files bytes)
IsWhyUnseen tells tree compare passes limits side (Moved of path listed read) = (of ≡ side) × IsMoved compare passes path listed read × (IsTrue tells → ⊥)
IsWhyUnseen tells tree compare passes limits side OutOfMemory = ⊤
IsWhyUnseen tells tree compare passes limits side end = ⊥

-- whether a side's device failed: no other end is a fault of it
abbrev pub is_remote_fault : {T : Type 0} → Result T End → Bool
is_remote_fault (Ok _) = false
is_remote_fault (Err (RemoteFault side)) = true
is_remote_fault (Err end) = false

-- # Both sides

-- whatever a remote tells: each listed path passes and is a name, entries have digests where these are compared, and the
-- names are within the limits
pub record IsSeen (compare : Compare) (passes : PathBytes → Bool) (limits : Limits) (seen : Seen) : Type 0 where
  pub passing : ArePassingNames passes seen.names seen.listing
  pub digests : HaveDigestsFor compare seen.listing
  pub within : AreWithin limits seen.names

-- why a run didn't see both sides: it didn't see Path1, or it did and didn't see Path2
abbrev pub IsWhyNotBoth : (Side → Bool) → Tree → Tree → Compare → (PathBytes → Bool) → Limits → End → Type 0
IsWhyNotBoth tells one two compare passes limits end =
    IsWhyUnseen (tells One) one compare passes limits One end
    ⊎ ((IsTrue (tells One) → IsListable limits one) × IsWhyUnseen (tells Two) two compare passes limits Two end)

-- # No plan

-- the end of a run that has no plan
abbrev pub unplanned_end : PlanFault → End
unplanned_end (unplanned.TooLong side path) = NameTooLong side path
unplanned_end (unplanned.ListingTooLong side bytes) = ListingTooLong side bytes
unplanned_end (unplanned.OutOfSync path one two) = OutOfSync path one two
unplanned_end unplanned.OutOfMemory = OutOfMemory

-- why there is no new stamp
abbrev pub IsWhyNoStamp : End → Type 0
IsWhyNoStamp WorkFault = ⊤
IsWhyNoStamp OutOfMemory = ⊤
IsWhyNoStamp end = ⊥
