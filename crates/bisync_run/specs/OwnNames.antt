-- What stands under the four names of a base after a run, whatever call failed.
use Rattle.std.specs.Prelude.{◌≡◌, ◌⊎◌, ℕ, None}
use Rattle.bisync_tree.specs.Rows.{Rows}
use Rattle.bisync_tree.specs.declared.entries.Compare.{Compare}
use Rattle.bisync_tree.specs.declared.options.Limits.{Limits}
use Rattle.bisync_plan.specs.Plans.{header_of}
use Rattle.bisync_device.specs.WorkFolder.{Held, Absent, WorkFolder}
use Rattle.bisync_opts.specs.declared.options.Opts.{Opts}
use Rattle.bisync_work.specs.BadNames.{IsFirstBad, base_names}
use Rattle.bisync_work.specs.Base.{HasListing}
use Rattle.bisync_work.specs.Stamps.{IsNewStamp}
use Rattle.bisync_run.specs.FolderBases.{compared}
use Rattle.bisync_run.specs.Untouched.{Remotes}

-- a listing of a run that began with the folder f: with its new stamp and the compared fields
abbrev pub IsNewListing : ℕ → Compare → WorkFolder → Held → Type 0
IsNewListing limit compare f held = (stamp : ℕ) × (rows : Rows) × IsNewStamp limit f stamp × HasListing limit held (header_of stamp compare) rows

-- under the first name of a side: nothing, or what stood there, or a new listing
abbrev pub IsFirst : ℕ → Compare → WorkFolder → Held → Held → Type 0
IsFirst limit compare f first held = (held ≡ Absent) ⊎ ((held ≡ first) ⊎ IsNewListing limit compare f held)

-- under its -old name: what stood there, or nothing, or what stood under the first name
abbrev pub IsOlder : Held → Held → Held → Type 0
IsOlder first older held = (held ≡ older) ⊎ ((held ≡ Absent) ⊎ (held ≡ first))

-- so it is under each of the four names
pub record HoldsOwn (limit : ℕ) (compare : Compare) (f g : WorkFolder) : Type 0 where
  pub one : IsFirst limit compare f f.one g.one
  pub two : IsFirst limit compare f f.two g.two
  pub one_old : IsOlder f.one f.one_old g.one_old
  pub two_old : IsOlder f.two f.two_old g.two_old

-- after a run of these options that began from these sides
abbrev pub HoldsOwnOf : Opts → Limits → WorkFolder → Remotes → WorkFolder → Type 0
HoldsOwnOf opts limits f start g = HoldsOwn limits.listing (compared opts start) f g

-- each of the four names has a listing, or nothing
abbrev pub HasGoodNames : ℕ → WorkFolder → Type 0
HasGoodNames limit f = IsFirstBad limit f base_names None
