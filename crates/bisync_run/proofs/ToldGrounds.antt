-- What is told at an end of the remotes, from the parts of a run to the whole.
use Rattle.std.proofs.Common.{◌≡◌, ◌∙◌, Bool, IsTrue, Option, Some, None, List, ℕ, length, sym, subst, inl, inr, Result, Ok, Err}
use Rattle.std.specs.Prelude.{is_some, if◌then◌else◌}
use Rattle.md5.specs.Md5.{md5}
use Rattle.bisync_tree.specs.Rows.{PathBytes}
use Rattle.bisync_tree.specs.declared.sides.Side.{Side}
use Rattle.bisync_tree.specs.declared.sides.Side.TheVariants.{One, Two}
use Rattle.bisync_tree.specs.declared.entries.Compare.{Compare}
use Rattle.bisync_tree.specs.declared.entries.Entry.{Entry}
use Rattle.bisync_tree.specs.declared.options.Limits.{Limits}
use Rattle.bisync_observe.specs.Counting.{AreOfTree}
use Rattle.bisync_observe.specs.Observing.{IsMoved}
use Rattle.bisync_plan.specs.declared.faults.PlanFault.{PlanFault}
use Rattle.bisync_plan.specs.declared.faults.PlanFault.TheVariants as unplanned
use Rattle.bisync_report.specs.declared.ends.End.{End}
use Rattle.bisync_report.specs.declared.ends.End.TheVariants.{Done, Resynced, DryRun, InSync, Demo, Usage, WorkFault, NoFilters, BadRule, Locked, FiltersChanged, BadListing, NeedResync, ListingsDiffer, EmptyPrior, RemoteFault, BadPath, TooMany, CheckAccess, EmptyCurrent, TooManyDeletes, AllChanged, NameTooLong, ListingTooLong, OutOfSync, Moved, SinkFault, LockLeft, FoldersLeft, KeepFault, Checked, NotBuilt, OutOfMemory}
use Rattle.bisync_run.specs.Closing.{ClosesWith, EndsWith}
use Rattle.bisync_run.specs.Grounds.{IsReadAs, IsTold}
use Rattle.bisync_run.specs.HeldResyncs.{end_of}
use Rattle.bisync_run.specs.Looking.{IsWhyUnseen, IsWhyNotBoth, unplanned_end}
use Rattle.bisync_run.specs.ResyncEnds.{IsUnlockedEnd}
use Rattle.bisync_run.specs.Stepping.{FindsTold, IsStepEnd, MovedIsRead}
use Rattle.bisync_run.specs.Untouched.{Remotes}

-- # What was looked at

seen_as : (compare : Compare) (passes : PathBytes → Bool) (path : PathBytes) (listed : Entry) (read : Option Entry) → IsMoved compare passes path listed read → IsReadAs listed read
seen_as compare passes path listed None is = tt
seen_as compare passes path listed (Some read) is =
    let some = is.differs.0 in
    (some.bytes, some.entry ∙ sym (λ i. record { size = length some.bytes; time = listed.time; hash = if is_some (is.no_digest i) then Some (md5 some.bytes) else None }))

module _ (tells : Side → Bool) (start : Remotes) where
  module _ (compare : Compare) (passes : PathBytes → Bool) (limits : Limits) (side : Side) where
    unseen_told : (end : End) → IsWhyUnseen (tells side) (start side).tree compare passes limits side end → IsTold tells start end
    unseen_told (Done one two) x = absurd x
    unseen_told (Resynced one two) x = absurd x
    unseen_told DryRun x = absurd x
    unseen_told InSync x = absurd x
    unseen_told Demo x = absurd x
    unseen_told (Usage kind) x = absurd x
    unseen_told WorkFault x = absurd x
    unseen_told NoFilters x = absurd x
    unseen_told (BadRule line) x = absurd x
    unseen_told (Locked until) x = absurd x
    unseen_told (FiltersChanged now stored) x = absurd x
    unseen_told (BadListing name line) x = absurd x
    unseen_told (NeedResync need) x = absurd x
    unseen_told (ListingsDiffer path one two) x = absurd x
    unseen_told (EmptyPrior of) x = absurd x
    unseen_told (RemoteFault of) x = tt
    unseen_told (BadPath of text) x = tt
    unseen_told (TooMany of files bytes) x = subst (λ (s : Side). IsTrue (tells s) → AreOfTree (start s).tree files bytes) (sym x.0) x.2
    unseen_told (CheckAccess of path) x = absurd x
    unseen_told (EmptyCurrent of) x = absurd x
    unseen_told (TooManyDeletes of gone all) x = absurd x
    unseen_told (AllChanged of all) x = absurd x
    unseen_told (NameTooLong of path) x = absurd x
    unseen_told (ListingTooLong of bytes) x = absurd x
    unseen_told (OutOfSync path one two) x = absurd x
    unseen_told (Moved of path listed read) x = (λ t. x.2 (subst (λ (s : Side). IsTrue (tells s)) x.0 t), seen_as compare passes path listed read x.1)
    unseen_told (SinkFault done) x = absurd x
    unseen_told LockLeft x = absurd x
    unseen_told (FoldersLeft cause) x = absurd x
    unseen_told (KeepFault of) x = absurd x
    unseen_told (Checked differ) x = absurd x
    unseen_told NotBuilt x = absurd x
    unseen_told OutOfMemory x = tt

  pub unlooked_told : (compare : Compare) (passes : PathBytes → Bool) (limits : Limits) (end : End) → IsWhyNotBoth tells (start One).tree (start Two).tree compare passes limits end → IsTold tells start end
  unlooked_told compare passes limits end (inl one) = unseen_told compare passes limits One end one
  unlooked_told compare passes limits end (inr two) = unseen_told compare passes limits Two end two.1

  pub unplanned_told : (fault : PlanFault) (end : End) → end ≡ unplanned_end fault → IsTold tells start end
  unplanned_told fault end is = subst (IsTold tells start) (sym is) (go fault)
    where
      go : (x : PlanFault) → IsTold tells start (unplanned_end x)
      go (unplanned.TooLong side path) = tt
      go (unplanned.ListingTooLong side bytes) = tt
      go (unplanned.OutOfSync path a b) = tt
      go unplanned.OutOfMemory = tt

  -- # What was done

  pub step_told : (end : End) → IsStepEnd end → MovedIsRead end → FindsTold tells end → IsTold tells start end
  step_told (Done one two) x was found = absurd x
  step_told (Resynced one two) x was found = absurd x
  step_told DryRun x was found = absurd x
  step_told InSync x was found = absurd x
  step_told Demo x was found = absurd x
  step_told (Usage kind) x was found = absurd x
  step_told WorkFault x was found = tt
  step_told NoFilters x was found = absurd x
  step_told (BadRule line) x was found = absurd x
  step_told (Locked until) x was found = absurd x
  step_told (FiltersChanged now stored) x was found = absurd x
  step_told (BadListing name line) x was found = absurd x
  step_told (NeedResync need) x was found = absurd x
  step_told (ListingsDiffer path one two) x was found = absurd x
  step_told (EmptyPrior of) x was found = absurd x
  step_told (RemoteFault of) x was found = tt
  step_told (BadPath of text) x was found = absurd x
  step_told (TooMany of files bytes) x was found = absurd x
  step_told (CheckAccess of path) x was found = absurd x
  step_told (EmptyCurrent of) x was found = absurd x
  step_told (TooManyDeletes of gone all) x was found = absurd x
  step_told (AllChanged of all) x was found = absurd x
  step_told (NameTooLong of path) x was found = absurd x
  step_told (ListingTooLong of bytes) x was found = absurd x
  step_told (OutOfSync path one two) x was found = absurd x
  step_told (Moved of path listed read) x was found = (found, was)
  step_told (SinkFault done) x was found = absurd x
  step_told LockLeft x was found = absurd x
  step_told (FoldersLeft cause) x was found = absurd x
  step_told (KeepFault of) x was found = absurd x
  step_told (Checked differ) x was found = absurd x
  step_told NotBuilt x was found = absurd x
  step_told OutOfMemory x was found = absurd x

  -- # The close and the last line

  pub unlocked_told : (asked : Option (List ℕ)) (end : End) → IsUnlockedEnd asked end → IsTold tells start end
  unlocked_told asked (Done one two) x = absurd x
  unlocked_told asked (Resynced one two) x = absurd x
  unlocked_told asked DryRun x = absurd x
  unlocked_told asked InSync x = absurd x
  unlocked_told asked Demo x = absurd x
  unlocked_told asked (Usage kind) x = absurd x
  unlocked_told asked WorkFault x = tt
  unlocked_told asked NoFilters x = tt
  unlocked_told asked (BadRule line) x = tt
  unlocked_told asked (Locked until) x = tt
  unlocked_told asked (FiltersChanged now stored) x = absurd x
  unlocked_told asked (BadListing name line) x = absurd x
  unlocked_told asked (NeedResync need) x = absurd x
  unlocked_told asked (ListingsDiffer path one two) x = absurd x
  unlocked_told asked (EmptyPrior of) x = absurd x
  unlocked_told asked (RemoteFault of) x = absurd x
  unlocked_told asked (BadPath of text) x = absurd x
  unlocked_told asked (TooMany of files bytes) x = absurd x
  unlocked_told asked (CheckAccess of path) x = absurd x
  unlocked_told asked (EmptyCurrent of) x = absurd x
  unlocked_told asked (TooManyDeletes of gone all) x = absurd x
  unlocked_told asked (AllChanged of all) x = absurd x
  unlocked_told asked (NameTooLong of path) x = absurd x
  unlocked_told asked (ListingTooLong of bytes) x = absurd x
  unlocked_told asked (OutOfSync path one two) x = absurd x
  unlocked_told asked (Moved of path listed read) x = absurd x
  unlocked_told asked (SinkFault done) x = absurd x
  unlocked_told asked LockLeft x = absurd x
  unlocked_told asked (FoldersLeft cause) x = absurd x
  unlocked_told asked (KeepFault of) x = absurd x
  unlocked_told asked (Checked differ) x = absurd x
  unlocked_told asked NotBuilt x = absurd x
  unlocked_told asked OutOfMemory x = tt

  pub closed_told : (ended : Result End End) (closed : End) → ClosesWith ended closed → IsTold tells start (end_of ended) → IsTold tells start closed
  closed_told (Ok end) closed (inl same) told = subst (IsTold tells start) (sym same) told
  closed_told (Ok end) closed (inr left) told = subst (IsTold tells start) (sym left) tt
  closed_told (Err end) closed same told = subst (IsTold tells start) (sym same) told

  pub last_told : (end last : End) → EndsWith end last → IsTold tells start end → IsTold tells start last
  last_told end last (inl same) told = subst (IsTold tells start) (sym same) told
  last_told end last (inr lost) told = subst (IsTold tells start) (sym lost.1) tt
