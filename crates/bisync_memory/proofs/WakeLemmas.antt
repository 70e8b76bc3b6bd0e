-- What a stop leaves is an image.
use Rattle.std.proofs.Common.{◌≡◌, refl, subst, sym}
use Rattle.bisync_device.specs.declared.works.WorkName.TheVariants as name
use Rattle.bisync_device.specs.WorkFolder.{Held, Absent, Kept, Loose, WorkFolder, ImageOf, IsImage}
use Rattle.bisync_memory.specs.WorkFiles.{woken_bytes, woken, woken_folder}
use Rattle.bisync_memory.specs.declared.loose_modes.LooseMode.{LooseMode}

woken-image : (mode : LooseMode) (h : Held) → ImageOf h (woken mode h)
woken-image mode Absent = refl
woken-image mode (Kept bytes) = refl
woken-image mode (Loose bytes) = (woken_bytes mode bytes, refl)

woken_folder-image : (mode : LooseMode) (f : WorkFolder) → IsImage f (woken_folder mode f)
woken_folder-image mode f name.One = woken-image mode f.one
woken_folder-image mode f name.Two = woken-image mode f.two
woken_folder-image mode f name.OneOld = woken-image mode f.one_old
woken_folder-image mode f name.TwoOld = woken-image mode f.two_old
woken_folder-image mode f name.OneNew = woken-image mode f.one_new
woken_folder-image mode f name.TwoNew = woken-image mode f.two_new
woken_folder-image mode f name.OneErr = woken-image mode f.one_err
woken_folder-image mode f name.TwoErr = woken-image mode f.two_err
woken_folder-image mode f name.Lock = woken-image mode f.lock
woken_folder-image mode f name.LockNew = woken-image mode f.lock_new
woken_folder-image mode f name.Folders = woken-image mode f.folders
woken_folder-image mode f name.FoldersNew = woken-image mode f.folders_new
woken_folder-image mode f name.Filters = woken-image mode f.filters
woken_folder-image mode f name.FiltersMd5 = woken-image mode f.filters_md5

-- a folder that is what a stop leaves of another is an image of it
pub image-woken : (mode : LooseMode) (f g : WorkFolder) → g ≡ woken_folder mode f → IsImage f g
image-woken mode f g is = subst (IsImage f) (sym is) (woken_folder-image mode f)
