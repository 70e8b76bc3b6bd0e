-- What an ordinary run is from its base on, before it looks at a side: the work folder alone tells it.
use Rattle.std.specs.Prelude.{◌⊎◌, ℕ, ℤ, List, Bool, Option, true, ⊤}
use Rattle.bisync_tree.specs.declared.options.Limits.{Limits}
use Rattle.bisync_device.specs.WorkFolder.{WorkFolder}
use Rattle.bisync_opts.specs.declared.options.Opts.{Opts}
use Rattle.bisync_work.specs.declared.bases.Pair.{Pair}
use Rattle.bisync_work.specs.Base.{Base}
use Rattle.bisync_work.specs.Locks.{IsFree}
use Rattle.bisync_report.specs.declared.ends.End.{End}
use Rattle.bisync_report.specs.declared.ends.End.TheVariants.{InSync, WorkFault, FiltersChanged, BadListing, NeedResync, ListingsDiffer, EmptyPrior, OutOfSync, SinkFault, LockLeft, OutOfMemory}
use Rattle.bisync_run.specs.Agreement.{BaseAgrees}
use Rattle.bisync_run.specs.Courses.{IsInSync, MayLook}
use Rattle.bisync_run.specs.Entering.{AtMoment, IsEntryEnd}
use Rattle.bisync_run.specs.OrdinaryRefusals.{IsOrdinaryRefusal}
use Rattle.bisync_run.specs.ResyncRuns.{Matter, sides_in}
use Rattle.bisync_run.specs.Sides.{Sides}
use Rattle.bisync_run.specs.Starts.{StartsFrom}
use Rattle.bisync_run.specs.Untouched.{Remotes}

-- # With the lock. Of the sides no tree is read here, only the rules, the compared fields and the windows.

-- the run starts from its base, both listings of which have paths that pass, and it is to look at both sides
pub record IsBegun (opts : Opts) (limits : Limits) (f : WorkFolder) (s : Sides) (digest : Option (List ℕ)) : Type 0 where
  pub pair : Pair
  pub base : Base
  pub starts : StartsFrom opts limits f digest pair base
  pub looks : MayLook opts s base

-- and the passing parts of its base don't agree
pub record IsBegunApart (opts : Opts) (limits : Limits) (f : WorkFolder) (s : Sides) (digest : Option (List ℕ)) : Type 0 where
  pub begun : IsBegun opts limits f s digest
  pub apart : BaseAgrees opts s begun.base → ⊥

-- or it only compares its base, and nothing differs
abbrev pub IsWellBegun : Opts → Limits → WorkFolder → Sides → Option (List ℕ) → Type 0
IsWellBegun opts limits f s digest = IsBegun opts limits f s digest ⊎ IsInSync opts limits f s digest

-- What each end says of this: a refusal of the beginning comes exactly where its condition holds and none before it does,
-- and every other answer where none does, but a failed device and the want of memory; that as out of sync comes only where
-- the base doesn't agree, whatever the sides have.
abbrev pub AnswersBeginning : Opts → Limits → WorkFolder → Sides → Option (List ℕ) → End → Type 0
AnswersBeginning opts limits f s digest WorkFault = ⊤
AnswersBeginning opts limits f s digest OutOfMemory = ⊤
AnswersBeginning opts limits f s digest (FiltersChanged now stored) = IsOrdinaryRefusal opts limits f s digest (FiltersChanged now stored)
AnswersBeginning opts limits f s digest (BadListing name line) = IsOrdinaryRefusal opts limits f s digest (BadListing name line)
AnswersBeginning opts limits f s digest (NeedResync need) = IsOrdinaryRefusal opts limits f s digest (NeedResync need)
AnswersBeginning opts limits f s digest (ListingsDiffer p one two) = IsOrdinaryRefusal opts limits f s digest (ListingsDiffer p one two)
AnswersBeginning opts limits f s digest (EmptyPrior side) = IsOrdinaryRefusal opts limits f s digest (EmptyPrior side)
AnswersBeginning opts limits f s digest InSync = IsInSync opts limits f s digest
AnswersBeginning opts limits f s digest (OutOfSync p one two) = IsBegunApart opts limits f s digest
AnswersBeginning opts limits f s digest (SinkFault true) = IsWellBegun opts limits f s digest
AnswersBeginning opts limits f s digest LockLeft = IsWellBegun opts limits f s digest
AnswersBeginning opts limits f s digest end = IsBegun opts limits f s digest

-- # Of a run

-- the same after the lock, and what an end without it says
abbrev pub AnswersBeginningOf : Opts → Limits → WorkFolder → Remotes → Bool → ℤ → End → Type 0
AnswersBeginningOf opts limits f start told moment end =
    IsEntryEnd opts.filters f told moment end
    ⊎ (AtMoment told moment (λ now. IsFree now f.lock) × ((m : Matter opts f start) × AnswersBeginning opts limits f (sides_in m) m.digest end))

-- no refusal of the beginning comes
abbrev pub IsWellBegunOf : Opts → Limits → WorkFolder → Remotes → Bool → ℤ → Type 0
IsWellBegunOf opts limits f start told moment =
    AtMoment told moment (λ now. IsFree now f.lock) × ((m : Matter opts f start) × IsWellBegun opts limits f (sides_in m) m.digest)
