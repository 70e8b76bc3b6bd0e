-- What stands under a name of a memory folder after two changes of it.
use Rattle.std.proofs.Common.{◌≡◌, refl, ◌∙◌, ap, Bool, true, false, cond, List, ℕ, ◌++◌}
use Rattle.bisync_device.specs.declared.works.WorkName.{WorkName}
use Rattle.bisync_device.specs.WorkFolder.{Held, Kept, Loose, WorkFolder, at, with_held, synced, appended}
use Rattle.bisync_device.proofs.WorkFolderLaws.{with_held-twice, with_held-own}

-- two changes of one name are the last
pub exchanged-twice : (n : WorkName) (a b : Held) (f g h : WorkFolder) → g ≡ with_held n b f → h ≡ with_held n a g → h ≡ with_held n a f
exchanged-twice n a b f g h first second = second ∙ ap (with_held n a) first ∙ with_held-twice n a b f

-- what was there is put back
pub exchanged-back : (n : WorkName) (a b : Held) (f g h : WorkFolder) → g ≡ with_held n b f → a ≡ at f n → h ≡ with_held n a g → h ≡ f
exchanged-back n a b f g h first own second =
    exchanged-twice n a b f g h first second ∙ ap (λ (x : Held). with_held n x f) own ∙ with_held-own n f

pub synced-held : (kept : Bool) (bytes : List ℕ) → synced (cond kept (Kept bytes) (Loose bytes)) ≡ Kept bytes
synced-held true bytes = refl
synced-held false bytes = refl

pub appended-held : (more : List ℕ) (kept : Bool) (bytes : List ℕ) → appended more (cond kept (Kept bytes) (Loose bytes)) ≡ Loose (bytes ++ more)
appended-held more true bytes = refl
appended-held more false bytes = refl
