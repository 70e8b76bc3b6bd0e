-- What a run promises, by the names that its contract and that of the top call use.
pub use Rattle.bisync_tree.specs.Rows.{PathBytes}
pub use Rattle.bisync_tree.specs.declared.entries.Entry.{Entry}
pub use Rattle.bisync_model.specs.Trees.{by_side}
pub use Rattle.bisync_device.specs.Remote.{KeepsTree}
pub use Rattle.bisync_device.specs.WorkFolder.{Absent, WorkFolder, IsSettled, IsImage}
pub use Rattle.bisync_opts.specs.declared.options.CheckSync.TheVariants.{Only}
pub use Rattle.bisync_work.specs.Locks.{ChangesLock, IsFree, KeepsBlocking}
pub use Rattle.bisync_work.specs.Moves.{IsFallen}
pub use Rattle.bisync_report.specs.LastLine.{last_text}
pub use Rattle.bisync_report.specs.declared.ends.End.TheVariants.{Done, OutOfSync, Resynced}
pub use Rattle.bisync_run.specs.Agreement.{LeavesInSync, LeavesResyncInSync, WasApartBefore}
pub use Rattle.bisync_run.specs.Beginnings.{AnswersBeginningOf, IsWellBegunOf}
pub use Rattle.bisync_run.specs.Closing.{AddsLast}
pub use Rattle.bisync_run.specs.Counts.{counts, Later, IsCaused}
pub use Rattle.bisync_run.specs.EndKinds.{is_good, is_after_good, has_freed, is_before_lock, is_unlocked, lets_fall, may_have_changed, may_tell_plan}
pub use Rattle.bisync_run.specs.Entering.{AtMoment, HasSomeRules, IsEntryEnd, IsHeldBack}
pub use Rattle.bisync_run.specs.FilterRules.{KnowsRules}
pub use Rattle.bisync_run.specs.FolderBases.{LeavesFolderBase, LeavesNextInPlace, Writes, compared}
pub use Rattle.bisync_run.specs.Grounds.{HasGrounds, IsTold}
pub use Rattle.bisync_run.specs.KeptNames.{KeepsOwn}
pub use Rattle.bisync_run.specs.LeftNames.{LeavesBaseSetBack, LeavesOwnLock, MayBeLeft, StaysOrFell, StaysOrStands, StoresDigestOf}
pub use Rattle.bisync_run.specs.LockNew.{KeepsLockNew}
pub use Rattle.bisync_run.specs.Ordinary.{KeepsOrdinaryRest}
pub use Rattle.bisync_run.specs.OrdinaryEnds.{IsOrdinaryEnd}
pub use Rattle.bisync_run.specs.OrdinaryRuns.{AnswersOrdinaryRun, HasOrdinaryNumbers, IsDoneBy, IsUnrefused, KeepsOrdinaryBaseOf, KeepsSafe, LeavesOrdinaryBaseOf, LeavesOrdinaryTreesOf, TellsOrdinaryRun}
pub use Rattle.bisync_run.specs.OwnNames.{HoldsOwnOf}
pub use Rattle.bisync_run.specs.ResyncEnds.{IsResyncEnd}
pub use Rattle.bisync_run.specs.ResyncRuns.{HasOutcomeOf, LeavesMixOf, AnswersRun, AreSetAsideBy, HasNoRefusal, IsResyncedBy, HasNumbers, LeavesBaseOf, LeavesTreesOf, TellsRun, LeavesLock, but_run}
pub use Rattle.bisync_run.specs.Sides.{compare_in}
