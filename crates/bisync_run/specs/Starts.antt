-- From what base an ordinary run starts, and why it doesn't. After "error handling" of rclone's manual page "bisync"; the
-- conditions and their order are this project's own.
use Rattle.std.specs.Prelude.{◌≡◌, ◌≢◌, ℕ, List, Bool, IsTrue, Option, Some, None, IfSome, ⊤}
use Rattle.bisync_tree.specs.declared.entries.Compare.{Compare}
use Rattle.bisync_tree.specs.declared.windows.Window.TheVariants.{Ns1}
use Rattle.bisync_tree.specs.declared.options.Limits.{Limits}
use Rattle.bisync_filter.specs.Digests.{IsDigest}
use Rattle.bisync_device.specs.WorkFolder.{Held, WorkFolder}
use Rattle.bisync_opts.specs.declared.options.Opts.{Opts}
use Rattle.bisync_work.specs.declared.bases.Pair.{Pair}
use Rattle.bisync_work.specs.declared.bases.Pair.TheVariants.{Current, Mixed, Old}
use Rattle.bisync_work.specs.Base.{Base, HasBaseIn, HasNoBase}
use Rattle.bisync_work.specs.BadNames.{IsFirstBad, base_names}
use Rattle.bisync_work.specs.DigestFiles.{HoldsDigest}
use Rattle.bisync_work.specs.Stamps.{IsNewStamp}
use Rattle.bisync_report.specs.declared.ends.End.{End}
use Rattle.bisync_report.specs.declared.ends.End.TheVariants.{FiltersChanged, BadListing, NeedResync}
use Rattle.bisync_report.specs.declared.ends.Need.TheVariants.{NoBase, NotRecovering, FieldsChanged}
use Rattle.bisync_run.specs.declared.starting.Started.{Started}

-- # What it starts from

-- where a filters file is used, its digest is the stored one
abbrev pub IsStored : Option (List ℕ) → Held → Type 0
IsStored None held = ⊤
IsStored (Some digest) held = HoldsDigest digest held

-- and each name of a base that is there is a listing
pub record IsReadable (limits : Limits) (f : WorkFolder) (digest : Option (List ℕ)) : Type 0 where
  pub stored : IsStored digest f.filters_md5
  pub good : IsFirstBad limits.listing f base_names None

-- from older names only to recover
abbrev pub MayStart : Bool → Pair → Type 0
MayStart recover Current = ⊤
MayStart recover Mixed = IsTrue recover
MayStart recover Old = IsTrue recover

-- the compared fields as a listing has them, with times to the nanosecond
abbrev pub fields_of : Compare → Compare
fields_of compare = record { size = compare.size; time = compare.time; hash = compare.hash; window = Ns1 }

-- the fields of a base are the compared ones; listings of version 1 have none
abbrev pub HasFields : Compare → Option Compare → Type 0
HasFields compare None = ⊤
HasFields compare (Some fields) = fields ≡ fields_of compare

-- the folder's base stands under these names, and the run may start from it
pub record StartsFrom (opts : Opts) (limits : Limits) (f : WorkFolder) (digest : Option (List ℕ)) (pair : Pair) (base : Base) : Type 0 where
  pub readable : IsReadable limits f digest
  pub is : HasBaseIn limits.listing f pair base
  pub may : MayStart opts.recover pair
  pub fields : HasFields opts.compare base.header.fields

-- # Why it doesn't start

-- what is stored is this digest, which isn't that of the filters file, or none can be read
abbrev pub HoldsOther : List ℕ → Option (List ℕ) → Held → Type 0
HoldsOther now None held = (digest : List ℕ) → IsDigest digest → HoldsDigest digest held → ⊥
HoldsOther now (Some digest) held = (digest ≢ now) × HoldsDigest digest held

-- the refusals before a run looks at its base; each comes where none before it does
abbrev pub IsStartRefusal : Opts → Limits → WorkFolder → Option (List ℕ) → End → Type 0
IsStartRefusal opts limits f digest (FiltersChanged now stored) = (digest ≡ Some now) × IsDigest now × IfSome stored IsDigest × HoldsOther now stored f.filters_md5
IsStartRefusal opts limits f digest (BadListing name line) = IsStored digest f.filters_md5 × IsFirstBad limits.listing f base_names (Some (name, line))
IsStartRefusal opts limits f digest (NeedResync NoBase) = IsReadable limits f digest × HasNoBase limits.listing f
IsStartRefusal opts limits f digest (NeedResync NotRecovering) =
    IsReadable limits f digest × ((pair : Pair) × (base : Base) × HasBaseIn limits.listing f pair base × (MayStart opts.recover pair → ⊥))
IsStartRefusal opts limits f digest (NeedResync (FieldsChanged stored)) =
    IsReadable limits f digest
    × ((pair : Pair) × (base : Base) × HasBaseIn limits.listing f pair base × MayStart opts.recover pair × (base.header.fields ≡ Some stored) × (stored ≢ fields_of opts.compare))
IsStartRefusal opts limits f digest end = ⊥

-- # Inside this crate

-- what was found is the base that the run starts from, and the new stamp
pub record IsStartOf (opts : Opts) (limits : Limits) (f : WorkFolder) (digest : Option (List ℕ)) (started : Started) : Type 0 where
  pub base : Base
  pub one : started.one ≡ base.one
  pub two : started.two ≡ base.two
  pub starts : StartsFrom opts limits f digest started.pair base
  pub new : IsNewStamp limits.listing f started.stamp
