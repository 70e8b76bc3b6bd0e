-- What a call on a name of a memory folder leaves, by its verdict.
use Rattle.std.proofs.Common.{◌≡◌, ◌≢◌, refl, sym, ◌∙◌, ap, subst, inl, inr, ◌⊎◌, Bool, true, false, not, cond, Result}
use Rattle.bisync_device.specs.declared.faults.Failed.{Failed}
use Rattle.bisync_device.specs.declared.works.WorkName.{WorkName}
use Rattle.bisync_device.specs.WorkFolder.{Held, Absent, Kept, Loose, WorkFolder, at, is_there}
use Rattle.bisync_device.specs.Work.{WorkState, ChangesName, emptied}
use Rattle.bisync_memory.specs.Schedule.{IsVerdict, answer_of}
use Rattle.bisync_memory.specs.WorkFiles.{created}
use Rattle.bisync_memory.specs.declared.schedules.Schedule.{Schedule}
use Rattle.bisync_memory.specs.declared.schedules.Verdict.{Verdict}
use Rattle.bisync_memory.specs.declared.schedules.Verdict.TheVariants.{Go, Fail, FailDone}

changed-held : (n : WorkName) (done : WorkFolder) (before after : WorkState) (schedule : Schedule) (verdict : Verdict) (h : Held) → at before.folder n ≡ h → (h ≡ Absent → done ≡ before.folder) → schedule.left ≡ before.left → IsVerdict verdict schedule → verdict ≢ Fail → after.folder ≡ done → ChangesName true n done before after (answer_of verdict (is_there h))
changed-held n done before after schedule Go Absent own stays left is goes did = (λ t. own, λ t. did ∙ stays refl)
changed-held n done before after schedule Go (Kept bytes) own stays left is goes did = (λ t. ap is_there own, λ t. did)
changed-held n done before after schedule Go (Loose bytes) own stays left is goes did = (λ t. ap is_there own, λ t. did)
changed-held n done before after schedule Fail h own stays left is goes did = absurd (goes refl)
changed-held n done before after schedule FailDone h own stays left is goes did = inr (λ stop. is.0 (left ∙ stop), λ t. did)

-- what a call that changes a name leaves, where it isn't to fail without its effect
pub changed-name : (n : WorkName) (done : WorkFolder) (before after : WorkState) (schedule : Schedule) (verdict : Verdict) (found : Bool) (result : Result Bool Failed) → found ≡ is_there (at before.folder n) → (at before.folder n ≡ Absent → done ≡ before.folder) → schedule.left ≡ before.left → IsVerdict verdict schedule → verdict ≢ Fail → after.folder ≡ done → result ≡ answer_of verdict found → ChangesName true n done before after result
changed-name n done before after schedule verdict found result there stays left is goes did answer =
    subst (ChangesName true n done before after) (sym (answer ∙ ap (answer_of verdict) there))
    (changed-held n done before after schedule verdict (at before.folder n) refl stays left is goes did)

absent-held : (h : Held) → not (is_there h) ≡ true → h ≡ Absent
absent-held Absent made = refl
absent-held (Kept bytes) made = cc
absent-held (Loose bytes) made = cc

there-held : (h : Held) → not (is_there h) ≡ false → is_there h ≡ true
there-held Absent made = cc
there-held (Kept bytes) made = refl
there-held (Loose bytes) made = refl

-- a name that wasn't there was made
pub created-absent : (n : WorkName) (f g : WorkFolder) → not (is_there (at f n)) ≡ true → g ≡ created n f → (at f n ≡ Absent) × (g ≡ emptied n f)
created-absent n f g made did =
    let gone = absent-held (at f n) made in
    (gone, did ∙ ap (λ h. cond (is_there h) f (emptied n f)) gone)

-- a name that was there stays
pub created-there : (n : WorkName) (f g : WorkFolder) → not (is_there (at f n)) ≡ false → g ≡ created n f → (is_there (at f n) ≡ true) × (g ≡ f)
created-there n f g made did =
    let there = there-held (at f n) made in
    (there, did ∙ ap (λ b. cond b f (emptied n f)) there)

created-either : (h : Held) (f g made : WorkFolder) → g ≡ cond (is_there h) f made → (g ≡ f) ⊎ ((h ≡ Absent) × (g ≡ made))
created-either Absent f g made did = inr (refl, did)
created-either (Kept bytes) f g made did = inl did
created-either (Loose bytes) f g made did = inl did

-- a name was made where it wasn't there, or all stays
pub created-or_not : (n : WorkName) (f g : WorkFolder) → g ≡ created n f → (g ≡ f) ⊎ ((at f n ≡ Absent) × (g ≡ emptied n f))
created-or_not n f g did = created-either (at f n) f g (emptied n f) did
