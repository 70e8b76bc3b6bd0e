-- Which names of its work folder a run keeps.
use Rattle.std.specs.Prelude.{◌≡◌, ◌⊎◌, ℕ, List, Bool, true, Option, Some, ⊤}
use Rattle.bisync_tree.specs.declared.options.Limits.{Limits}
use Rattle.bisync_filter.specs.declared.rule_lists.Rule.{Rule}
use Rattle.bisync_device.specs.WorkFolder.{WorkFolder}
use Rattle.bisync_opts.specs.declared.options.Opts.{Opts}
use Rattle.bisync_work.specs.declared.bases.Pair.TheVariants.{Old}
use Rattle.bisync_work.specs.Base.{Base, HasBaseIn, IsBase, HasNoBase}
use Rattle.bisync_work.specs.Locks.{ChangesLock}
use Rattle.bisync_work.specs.Moves.{IsFallen}
use Rattle.bisync_work.specs.Renames.{AreBegun, fall_renames}
use Rattle.bisync_report.specs.declared.ends.End.{End}
use Rattle.bisync_report.specs.declared.ends.End.TheVariants.{RemoteFault, Moved}
use Rattle.bisync_run.specs.EndKinds.{lets_fall}
use Rattle.bisync_run.specs.FilterRules.{AreRulesOf}
use Rattle.bisync_run.specs.ResyncWriting.{stored}

-- # A run that made no change of its own

-- only the lock changed, and listings fell, or only the first of them did
pub record BeginsFall (old new : WorkFolder) : Type 0 where
  pub held : WorkFolder
  pub fallen : WorkFolder
  pub before : ChangesLock old held
  pub begun : AreBegun fall_renames held fallen
  pub after : ChangesLock fallen new

-- only the lock changed, or listings fell where they may
abbrev pub KeepsButFallen : Bool → WorkFolder → WorkFolder → Type 0
KeepsButFallen falls f g = ChangesLock f g ⊎ ((falls ≡ true) × BeginsFall f g)

-- so does a run of these options with this end
abbrev pub KeepsOwn : Opts → End → WorkFolder → WorkFolder → Type 0
KeepsOwn opts end f g = KeepsButFallen (lets_fall opts.resilient opts.dry_run end) f g

-- # The base that an ordinary run set back

-- a side's device failed, or a file of it is another than it was listed
abbrev pub IsSideEnd : End → Type 0
IsSideEnd (RemoteFault side) = ⊤
IsSideEnd (Moved side path listed read) = ⊤
IsSideEnd end = ⊥

-- where such an end comes after the report, the base before stands under the -old names, or the listings fell
abbrev pub StandsSetBack : Limits → End → WorkFolder → WorkFolder → Type 0
StandsSetBack limits end f g = IsSideEnd end → (before : Base) → IsBase limits.listing f (Some before) → HasBaseIn limits.listing g Old before ⊎ HasNoBase limits.listing g

-- # The digest that a resync stored

-- the digest of the filters file is stored, where one is used
abbrev pub StoresRules : Opts → WorkFolder → WorkFolder → Type 0
StoresRules opts f g = (rules : List Rule) × (digest : Option (List ℕ)) × AreRulesOf opts.filters f.filters rules digest × (g.filters_md5 ≡ stored digest f.filters_md5)

-- where such an end comes after the report of a resync, the listings fell before, and the digest is stored
abbrev pub FellBefore : Opts → End → WorkFolder → WorkFolder → Type 0
FellBefore opts end f g = IsSideEnd end → IsFallen f g × StoresRules opts f g
