-- What a rename of a name leaves.
use Rattle.std.proofs.Common.{◌≡◌, ◌≢◌, ◌⊎◌, Bool, true, false, IsTrue, Some, Ok, refl, sym, ◌∙◌, ap, subst, inl, inr}
use Rattle.std.specs.Prelude.{if◌then◌else◌}
use Rattle.bisync_device.specs.declared.works.WorkName.{WorkName}
use Rattle.bisync_device.specs.WorkFolder.{Held, Absent, Kept, Loose, WorkFolder, at, with_held, is_there, renamed}
use Rattle.bisync_device.specs.Work.{WorkState, KeepsFolder, ChangesName}
use Rattle.bisync_device.proofs.WorkFolderLaws.{with_held-own}
use Rattle.bisync_work.specs.Moves.{moved_over}

-- the folder with a name moved over another, where it is there
abbrev pub over : WorkName → WorkName → WorkFolder → WorkFolder
over from to f = with_held to (moved_over (at f from) (at f to)) (with_held from Absent f)

renamed_held : (h : Held) (from to : WorkName) (f : WorkFolder) → at f from ≡ h → (if is_there h then with_held to h (with_held from Absent f) else f) ≡ with_held to (moved_over h (at f to)) (with_held from Absent f)
renamed_held Absent from to f e =
    sym (ap (λ (x : Held). with_held to (at f to) (with_held from x f)) (sym e) ∙ ap (with_held to (at f to)) (with_held-own from f) ∙ with_held-own to f)
renamed_held (Kept bytes) from to f e = refl
renamed_held (Loose bytes) from to f e = refl

pub renamed_over : (from to : WorkName) (f : WorkFolder) → renamed from to f ≡ over from to f
renamed_over from to f = renamed_held (at f from) from to f refl

renamed_absent : (from to : WorkName) (f : WorkFolder) → at f from ≡ Absent → renamed from to f ≡ f
renamed_absent from to f e = ap (λ (h : Held). if is_there h then with_held to (at f from) (with_held from Absent f) else f) e

-- a rename that was answered was done
pub worked : {tells : Bool} → IsTrue tells → (from to : WorkName) (before after : WorkState) (there : Bool) → ChangesName tells from (renamed from to before.folder) before after (Ok there) → after.folder ≡ over from to before.folder
worked t from to before after true c = c.1 t ∙ renamed_over from to before.folder
worked t from to before after false c = c.1 t ∙ sym (renamed_absent from to before.folder (c.0 t)) ∙ renamed_over from to before.folder

-- what holds before a rename and after it, holds after one that failed
pub failed : {tells : Bool} (P : WorkFolder → Type 0) → IsTrue tells → (from to : WorkName) (before after : WorkState) → P before.folder → P (over from to before.folder)
    → KeepsFolder tells before after ⊎ ((before.left ≢ Some 0) × (IsTrue tells → after.folder ≡ renamed from to before.folder)) → P after.folder
failed P t from to before after was did (inl kept) = subst P (sym (kept t)) was
failed P t from to before after was did (inr done) = subst P (sym (done.1 t ∙ renamed_over from to before.folder)) did
