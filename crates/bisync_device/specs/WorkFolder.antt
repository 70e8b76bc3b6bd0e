-- What a work folder holds under its names, its images after a stop, and when it is settled.
use Rattle.std.specs.Prelude.{◌≡◌, ℕ, List, ◌++◌, Bool, true, false, if◌then◌else◌, Option, Some, None, ⊤}
use Rattle.bisync_device.specs.declared.works.WorkName.{WorkName}
use Rattle.bisync_device.specs.declared.works.WorkName.TheVariants as name

-- what stands under a name: nothing, bytes that were synced, or bytes that were not
pub data Held : Type 0 where
  Absent : Held
  Kept : (bytes : List ℕ) → Held
  Loose : (bytes : List ℕ) → Held

pub record WorkFolder : Type 0 where
  pub one : Held
  pub two : Held
  pub one_old : Held
  pub two_old : Held
  pub one_new : Held
  pub two_new : Held
  pub one_err : Held
  pub two_err : Held
  pub lock : Held
  pub lock_new : Held
  pub folders : Held
  pub folders_new : Held
  pub filters : Held
  pub filters_md5 : Held

-- what stands under a name
abbrev pub at : WorkFolder → WorkName → Held
at f name.One = f.one
at f name.Two = f.two
at f name.OneOld = f.one_old
at f name.TwoOld = f.two_old
at f name.OneNew = f.one_new
at f name.TwoNew = f.two_new
at f name.OneErr = f.one_err
at f name.TwoErr = f.two_err
at f name.Lock = f.lock
at f name.LockNew = f.lock_new
at f name.Folders = f.folders
at f name.FoldersNew = f.folders_new
at f name.Filters = f.filters
at f name.FiltersMd5 = f.filters_md5

-- the folder with this under the name
abbrev pub with_held : WorkName → Held → WorkFolder → WorkFolder
with_held name.One h f = record f { one = h }
with_held name.Two h f = record f { two = h }
with_held name.OneOld h f = record f { one_old = h }
with_held name.TwoOld h f = record f { two_old = h }
with_held name.OneNew h f = record f { one_new = h }
with_held name.TwoNew h f = record f { two_new = h }
with_held name.OneErr h f = record f { one_err = h }
with_held name.TwoErr h f = record f { two_err = h }
with_held name.Lock h f = record f { lock = h }
with_held name.LockNew h f = record f { lock_new = h }
with_held name.Folders h f = record f { folders = h }
with_held name.FoldersNew h f = record f { folders_new = h }
with_held name.Filters h f = record f { filters = h }
with_held name.FiltersMd5 h f = record f { filters_md5 = h }

abbrev pub is_there : Held → Bool
is_there Absent = false
is_there (Kept bytes) = true
is_there (Loose bytes) = true

-- the bytes that a read gives
abbrev pub bytes_of : Held → Option (List ℕ)
bytes_of Absent = None
bytes_of (Kept bytes) = Some bytes
bytes_of (Loose bytes) = Some bytes

abbrev pub synced : Held → Held
synced Absent = Absent
synced (Kept bytes) = Kept bytes
synced (Loose bytes) = Kept bytes

abbrev pub appended : List ℕ → Held → Held
appended more Absent = Absent
appended more (Kept bytes) = Loose (bytes ++ more)
appended more (Loose bytes) = Loose (bytes ++ more)

-- what stands under `from`, with its state, moved over what stands under `to`; nothing, where nothing is there
abbrev pub renamed : WorkName → WorkName → WorkFolder → WorkFolder
renamed from to f = if is_there (at f from) then with_held to (at f from) (with_held from Absent f) else f

-- after a stop any bytes may stand where some were not synced, and else what is there
abbrev pub ImageOf : Held → Held → Type 0
ImageOf Absent image = image ≡ Absent
ImageOf (Kept bytes) image = image ≡ Kept bytes
ImageOf (Loose bytes) image = (any : List ℕ) × (image ≡ Loose any)

abbrev pub IsImage : WorkFolder → WorkFolder → Type 0
IsImage f image = (n : WorkName) → ImageOf (at f n) (at image n)

abbrev pub IsSynced : Held → Type 0
IsSynced Absent = ⊤
IsSynced (Kept bytes) = ⊤
IsSynced (Loose bytes) = ⊥

-- neither the listings of a base nor the filters file is loose
pub record IsSettled (f : WorkFolder) : Type 0 where
  pub one : IsSynced f.one
  pub two : IsSynced f.two
  pub one_old : IsSynced f.one_old
  pub two_old : IsSynced f.two_old
  pub filters : IsSynced f.filters
