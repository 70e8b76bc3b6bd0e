-- What the moves of a work folder leave, at every exit.
use Rattle.std.specs.Prelude.{◌≡◌, ◌⊎◌, ◌<◌, ◌^◌, ℕ, Option, Some}
use Rattle.bisync_device.specs.WorkFolder.{Held, Absent, Kept, Loose, WorkFolder, IsSynced, IsSettled}
use Rattle.bisync_work.specs.declared.bases.Pair.{Pair}
use Rattle.bisync_work.specs.declared.bases.Pair.TheVariants.{Current, Mixed, Old}
use Rattle.bisync_work.specs.Base.{Base, HasListing, NoPair, HasBaseIn, HasNoBase, IsBase}
use Rattle.bisync_work.specs.Stamps.{IsUnused}

-- all but the names that a set back from the pair moves
abbrev pub but_set_back : Pair → WorkFolder → WorkFolder
but_set_back Current f = record f { one = Absent; two = Absent; one_old = Absent; two_old = Absent }
but_set_back Mixed f = record f { two = Absent; two_old = Absent }
but_set_back Old f = f

-- all but the names that a switch moves
abbrev pub but_switched : WorkFolder → WorkFolder
but_switched f = record f { one = Absent; two = Absent; one_new = Absent; two_new = Absent }

-- all but the names that a fall moves
abbrev pub but_fallen : WorkFolder → WorkFolder
but_fallen f = record f { one = Absent; two = Absent; one_old = Absent; two_old = Absent; one_err = Absent; two_err = Absent }

-- The base is as before, and so is that there is none. A stamp that was unused still is.
pub record KeepsBase (limit : ℕ) (old new : WorkFolder) : Type 0 where
  pub base : (base : Option Base) → IsBase limit old base → IsBase limit new base
  pub unused : (n : ℕ) → IsUnused limit old n → IsUnused limit new n

-- The base of the pair is as before. What was settled still is, and only the names that are to be moved
-- from there changed.
pub record SetsBack (pair : Pair) (old new : WorkFolder) : Type 0 where
  pub base : (limit : ℕ) (base : Base) → HasBaseIn limit old pair base → KeepsBase limit old new
  pub settled : IsSettled old → IsSettled new
  pub rest : but_set_back pair new ≡ but_set_back pair old

-- The base is as before, under the same names, or there is none. A stamp that was unused still is, what was settled still
-- is, and only the four names of a base and the -err names changed.
pub record Falls (old new : WorkFolder) : Type 0 where
  pub base : (limit : ℕ) (base : Option Base) → IsBase limit old base → IsBase limit new base ⊎ HasNoBase limit new
  pub pair : (limit : ℕ) (pair : Pair) (base : Base) → HasBaseIn limit old pair base → HasBaseIn limit new pair base ⊎ HasNoBase limit new
  pub unused : (limit n : ℕ) → IsUnused limit old n → IsUnused limit new n
  pub settled : IsSettled old → IsSettled new
  pub rest : but_fallen new ≡ but_fallen old

-- The -new names have synced listings of one header, whose stamp no listing of the four names has, and the base is
-- that of the -old names or there is none.
pub record IsReady (limit : ℕ) (f : WorkFolder) (next : Base) : Type 0 where
  pub one : HasListing limit f.one_new next.header next.one
  pub two : HasListing limit f.two_new next.header next.two
  pub one_synced : IsSynced f.one_new
  pub two_synced : IsSynced f.two_new
  pub unused : IsUnused limit f next.header.stamp
  pub no_current : NoPair limit f.one f.two
  pub no_mixed : NoPair limit f.one_old f.two

-- The base is as before, that of the -old names under them, or the next one, where that was ready. What was settled still
-- is, where the -new names were synced, and only the first names and the -new names changed.
pub record Switches (old new : WorkFolder) : Type 0 where
  pub base : (limit : ℕ) (next : Base) → limit < 2 ^ 64 → IsReady limit old next
      → (base : Option Base) → IsBase limit old base → IsBase limit new base ⊎ IsBase limit new (Some next)
  pub older : (limit : ℕ) (next : Base) → limit < 2 ^ 64 → IsReady limit old next
      → (base : Base) → HasBaseIn limit old Old base → HasBaseIn limit new Old base ⊎ HasBaseIn limit new Current next
  pub settled : IsSynced old.one_new → IsSynced old.two_new → IsSettled old → IsSettled new
  pub rest : but_switched new ≡ but_switched old

-- The new listings stand under the first names, and are the base.
pub record IsSwitched (limit : ℕ) (next : Base) (old new : WorkFolder) : Type 0 where
  pub base : HasBaseIn limit new Current next
  pub one : new.one ≡ old.one_new
  pub two : new.two ≡ old.two_new
  pub one_new : new.one_new ≡ Absent
  pub two_new : new.two_new ≡ Absent

-- what stands under a name that is moved over another, where it is there
abbrev pub moved_over : Held → Held → Held
moved_over Absent below = below
moved_over (Kept bytes) below = Kept bytes
moved_over (Loose bytes) below = Loose bytes

-- None of the four names is there. What stood there is under the -err names, the newer over the older.
pub record IsFallen (old new : WorkFolder) : Type 0 where
  pub one : new.one ≡ Absent
  pub two : new.two ≡ Absent
  pub one_old : new.one_old ≡ Absent
  pub two_old : new.two_old ≡ Absent
  pub one_err : new.one_err ≡ moved_over old.one (moved_over old.one_old old.one_err)
  pub two_err : new.two_err ≡ moved_over old.two (moved_over old.two_old old.two_err)

-- the same stands under the four names of a base
pub record SameListings (f g : WorkFolder) : Type 0 where
  pub one : g.one ≡ f.one
  pub two : g.two ≡ f.two
  pub one_old : g.one_old ≡ f.one_old
  pub two_old : g.two_old ≡ f.two_old
