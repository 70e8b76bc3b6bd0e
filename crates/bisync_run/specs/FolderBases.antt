-- What a run does to the base of its work folder, as the work folder alone tells it, whether the sides tell what they hold
-- or not. So of trees nothing is said here.
use Rattle.std.specs.Prelude.{◌≡◌, ◌≢◌, ◌⊎◌, true, false, ℕ, List, Option, Some, None}
use Rattle.bisync_tree.specs.declared.entries.Compare.{Compare}
use Rattle.bisync_tree.specs.declared.options.Limits.{Limits}
use Rattle.bisync_tree.specs.declared.sides.Side.TheVariants.{One, Two}
use Rattle.bisync_plan.specs.Plans.{header_of}
use Rattle.bisync_device.specs.WorkFolder.{Absent, WorkFolder}
use Rattle.bisync_opts.specs.declared.options.CheckSync.TheVariants.{Only}
use Rattle.bisync_opts.specs.declared.options.Opts.{Opts}
use Rattle.bisync_report.specs.declared.ends.End.{End}
use Rattle.bisync_work.specs.declared.bases.Pair.{Pair}
use Rattle.bisync_work.specs.declared.bases.Pair.TheVariants.{Current}
use Rattle.bisync_work.specs.Base.{Base, ArePair, HasBaseIn, IsBase, HasNoBase}
use Rattle.bisync_work.specs.Stamps.{IsNewStamp}
use Rattle.bisync_run.specs.Beginnings.{IsBegun}
use Rattle.bisync_run.specs.EndKinds.{may_have_switched}
use Rattle.bisync_run.specs.Entering.{HasSomeRules}
use Rattle.bisync_run.specs.ResyncRuns.{Matter, sides_in}
use Rattle.bisync_run.specs.Sides.{Sides, compare_in}
use Rattle.bisync_run.specs.Untouched.{Remotes}

-- # A new base

-- of a run that began with the folder f: with its new stamp and the compared fields
pub record IsNextOf (limits : Limits) (compare : Compare) (f : WorkFolder) (next : Base) : Type 0 where
  pub stamp : ℕ
  pub new : IsNewStamp limits.listing f stamp
  pub header : next.header ≡ header_of stamp compare

-- the base of g is a new one
abbrev pub TakesNext : Limits → Compare → WorkFolder → WorkFolder → Type 0
TakesNext limits compare f g = (next : Base) × IsNextOf limits compare f next × IsBase limits.listing g (Some next)

-- what a run with these sides compares
abbrev pub compared : Opts → Remotes → Compare
compared opts start = compare_in opts.compare (start One).window (start Two).window

-- a run that writes new listings where it ends well: no dry run, and no ordinary one that only compares its base
abbrev pub Writes : Opts → Type 0
Writes opts = (opts.dry_run ≡ false) × (opts.resync ≡ None → opts.check_sync ≢ Only)

-- # What is left, whatever call failed

-- a run in which listings may fall: its rules were read, it is no dry run, and a resync or one that isn't resilient
abbrev pub MayLose : Opts → WorkFolder → Type 0
MayLose opts f = HasSomeRules opts.filters f × (opts.dry_run ≡ false) × ((opts.resync ≢ None) ⊎ (opts.resilient ≡ false))

-- A run that ended so and may have a new base. It writes, its rules were read, and it ended well or the work folder failed; an
-- ordinary one had begun, from its base.
pub record MayTake (opts : Opts) (limits : Limits) (f : WorkFolder) (start : Remotes) (end : End) : Type 0 where
  pub writes : Writes opts
  pub switched : may_have_switched end ≡ true
  pub matter : Matter opts f start
  pub begun : opts.resync ≡ None → IsBegun opts limits f (sides_in matter) matter.digest

-- The base is the one before, or there is none, or it is a new one, each of the latter only where it may be.
abbrev pub LeavesFolderBase : Opts → Limits → WorkFolder → Remotes → End → WorkFolder → Type 0
LeavesFolderBase opts limits f start end g =
    (base : Option Base) → IsBase limits.listing f base
    → IsBase limits.listing g base
    ⊎ ((MayLose opts f × HasNoBase limits.listing g)
    ⊎ (MayTake opts limits f start end × TakesNext limits (compared opts start) f g))

-- # A good end

-- a new base stands under the first names, and nothing under the -new names
pub record HasNextInPlace (limits : Limits) (compare : Compare) (f g : WorkFolder) : Type 0 where
  pub next : Base
  pub is : IsNextOf limits compare f next
  pub base : HasBaseIn limits.listing g Current next
  pub one_new : g.one_new ≡ Absent
  pub two_new : g.two_new ≡ Absent

-- the base before stands under the -old names
abbrev pub IsSetBackTo : Limits → WorkFolder → WorkFolder → Type 0
IsSetBackTo limits f g = (pair : Pair) × (before : Base) × HasBaseIn limits.listing f pair before × ArePair limits.listing g.one_old g.two_old before

-- a new base is in place, and an ordinary run has set back the one before
abbrev pub LeavesNextInPlace : Opts → Limits → WorkFolder → Remotes → WorkFolder → Type 0
LeavesNextInPlace opts limits f start g = HasNextInPlace limits (compared opts start) f g × (opts.resync ≡ None → IsSetBackTo limits f g)

-- # Inside this crate

-- what a resync that holds the lock and ended so leaves
abbrev pub LosesOrTakesNext : Limits → Compare → End → WorkFolder → WorkFolder → Type 0
LosesOrTakesNext limits compare end f g =
    (base : Option Base) → IsBase limits.listing f base
    → IsBase limits.listing g base ⊎ (HasNoBase limits.listing g ⊎ ((may_have_switched end ≡ true) × TakesNext limits compare f g))

-- and what an ordinary run does
abbrev pub KeepsOrTakesNext : Opts → Limits → Sides → Option (List ℕ) → End → WorkFolder → WorkFolder → Type 0
KeepsOrTakesNext opts limits s digest end f g =
    (base : Option Base) → IsBase limits.listing f base
    → IsBase limits.listing g base ⊎ ((may_have_switched end ≡ true) × IsBegun opts limits f s digest × TakesNext limits s.compare f g)

-- and what either does: listings fall in no dry run, and before the close only in a resync
abbrev pub LeavesHeldBase : Opts → Limits → Sides → Option (List ℕ) → End → WorkFolder → WorkFolder → Type 0
LeavesHeldBase opts limits s digest end f g =
    (base : Option Base) → IsBase limits.listing f base
    → IsBase limits.listing g base
    ⊎ (((opts.dry_run ≡ false) × (opts.resync ≢ None) × HasNoBase limits.listing g)
    ⊎ (Writes opts × (may_have_switched end ≡ true) × (opts.resync ≡ None → IsBegun opts limits f s digest) × TakesNext limits s.compare f g))
