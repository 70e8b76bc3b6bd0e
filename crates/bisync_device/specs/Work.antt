-- What a work folder's device is to its callers: its meaning, and what each call does to it.
use Rattle.std.specs.Prelude.{◌≡◌, ◌≢◌, ◌⊎◌, ℕ, Bool, true, false, IsTrue, List, [], Option, Some, None, Result, Ok, Err}
use Rattle.bisync_device.specs.Faults.{HasCause, IsCounted}
use Rattle.bisync_device.specs.Reading.{Reading}
use Rattle.bisync_device.specs.WorkFolder.{Absent, Loose, WorkFolder, at, with_held, is_there, bytes_of, IsImage}
use Rattle.bisync_device.specs.declared.works.WorkName.{WorkName}
use Rattle.bisync_device.specs.declared.faults.Failed.{Failed}

-- the meaning of a work folder's device. Of what it holds and the bytes still to read the clauses
-- speak only where the device's type tells them
pub record WorkState : Type 0 where
  pub folder : WorkFolder
  pub reading : Reading
  -- the name in writing, which every device tells
  pub writing : Option WorkName
  pub faults : ℕ
  -- the calls until the stop, where there is to be one
  pub left : Option ℕ

-- what every call does, by whether it answers Failed
pub record IsWorkCall (failed : Bool) (before after : WorkState) : Type 0 where
  pub cause : HasCause failed before.faults after.faults
  pub counted : IsCounted failed before.left after.left

abbrev pub KeepsFolder : Bool → WorkState → WorkState → Type 0
KeepsFolder tells before after = IsTrue tells → after.folder ≡ before.folder

-- nothing is open, and no name is in writing
pub record IsWorkClosed (state : WorkState) : Type 0 where
  pub opened : state.reading.opened ≡ false
  pub writing : state.writing ≡ None

-- true exactly where the name is there, whose bytes are then to read; every other answer closes
abbrev pub OpensName : Bool → WorkName → WorkState → WorkState → Result Bool Failed → Type 0
OpensName tells n before after (Ok true) =
    (after.reading.opened ≡ true) × (IsTrue tells → bytes_of (at before.folder n) ≡ Some after.reading.rest)
OpensName tells n before after (Ok false) = (after.reading.opened ≡ false) × (IsTrue tells → at before.folder n ≡ Absent)
OpensName tells n before after (Err _) = after.reading.opened ≡ false

-- a write that failed left the name as it was, or did its effect, or left any bytes that aren't synced.
-- After the stop it left all as it was
abbrev pub MayWrite : Bool → WorkName → WorkFolder → WorkState → WorkState → Type 0
MayWrite tells n done before after =
    KeepsFolder tells before after
    ⊎ ((before.left ≢ Some 0) × (IsTrue tells → (after.folder ≡ done) ⊎ ((any : List ℕ) × (after.folder ≡ with_held n (Loose any) before.folder))))

-- the name is empty and in writing, and its bytes aren't synced
abbrev pub emptied : WorkName → WorkFolder → WorkFolder
emptied n f = with_held n (Loose []) f

-- false exactly where the name is there, and then nothing is changed. A call that failed did its effect, where the
-- name wasn't there, or didn't, and didn't after the stop
abbrev pub Creates : Bool → WorkName → WorkState → WorkState → Result Bool Failed → Type 0
Creates tells n before after (Ok true) =
    (after.writing ≡ Some n) × (IsTrue tells → at before.folder n ≡ Absent) × (IsTrue tells → after.folder ≡ emptied n before.folder)
Creates tells n before after (Ok false) =
    (after.writing ≡ before.writing) × (IsTrue tells → is_there (at before.folder n) ≡ true) × KeepsFolder tells before after
Creates tells n before after (Err _) =
    (after.writing ≡ None)
    × (KeepsFolder tells before after
    ⊎ ((before.left ≢ Some 0) × (IsTrue tells → at before.folder n ≡ Absent) × (IsTrue tells → after.folder ≡ emptied n before.folder)))

-- the name is in writing, and the folder is this, or no name is in writing
abbrev pub WritesName : Bool → WorkName → WorkFolder → WorkState → WorkState → Result (Unit {0}) Failed → Type 0
WritesName tells n done before after (Ok _) = (after.writing ≡ Some n) × (IsTrue tells → after.folder ≡ done)
WritesName tells n done before after (Err _) = (after.writing ≡ None) × MayWrite tells n done before after

-- false exactly where the name isn't there, and then nothing is changed.
-- A call that failed did its effect or didn't, and didn't after the stop
abbrev pub ChangesName : Bool → WorkName → WorkFolder → WorkState → WorkState → Result Bool Failed → Type 0
ChangesName tells n done before after (Ok true) =
    (IsTrue tells → is_there (at before.folder n) ≡ true) × (IsTrue tells → after.folder ≡ done)
ChangesName tells n done before after (Ok false) = (IsTrue tells → at before.folder n ≡ Absent) × KeepsFolder tells before after
ChangesName tells n done before after (Err _) =
    KeepsFolder tells before after ⊎ ((before.left ≢ Some 0) × (IsTrue tells → after.folder ≡ done))

-- one image is current and no stop is to come
pub record IsWorkWoken (tells : Bool) (before after : WorkState) : Type 0 where
  pub left : after.left ≡ None
  pub closed : IsWorkClosed after
  pub faults : after.faults ≡ before.faults
  pub image : IsTrue tells → IsImage before.folder after.folder
