-- What renames leave that are made one after another, until one fails.
use Rattle.std.proofs.Common.{◌≡◌, ◌≢◌, ◌⊎◌, ◌++◌, [], ◌∷◌, Bool, IsTrue, Some, Ok, refl, sym, ◌∙◌, ap, inl, inr, append_assoc}
use Rattle.bisync_device.specs.declared.works.WorkName.{WorkName}
use Rattle.bisync_device.specs.WorkFolder.{WorkFolder, renamed}
use Rattle.bisync_device.specs.Work.{WorkState, KeepsFolder, ChangesName}
use Rattle.bisync_work.specs.Renames.{Renames, after_renames, AreBegun}
use Rattle.bisync_work.proofs.RenameLaws.{worked, renamed_over}

after_one_more : (done : Renames) (r : WorkName × WorkName) (f : WorkFolder) → after_renames (done ++ r ∷ []) f ≡ renamed r.0 r.1 (after_renames done f)
after_one_more [] r f = refl
after_one_more (d ∷ done) r f = after_one_more done r (renamed d.0 d.1 f)

-- a rename that was answered was done, after those before it
pub goes_on : {tells : Bool} → IsTrue tells → (done : Renames) (r : WorkName × WorkName) (old : WorkFolder) (before after : WorkState) (there : Bool)
    → before.folder ≡ after_renames done old → ChangesName tells r.0 (renamed r.0 r.1 before.folder) before after (Ok there)
    → after.folder ≡ after_renames (done ++ r ∷ []) old
goes_on t done r old before after there is c =
    worked t r.0 r.1 before after there c ∙ sym (renamed_over r.0 r.1 before.folder) ∙ ap (renamed r.0 r.1) is ∙ sym (after_one_more done r old)

-- one that failed was done or wasn't
pub stops_at : {tells : Bool} → IsTrue tells → (done : Renames) (r : WorkName × WorkName) (left : Renames) (old : WorkFolder) (before after : WorkState)
    → before.folder ≡ after_renames done old
    → KeepsFolder tells before after ⊎ ((before.left ≢ Some 0) × (IsTrue tells → after.folder ≡ renamed r.0 r.1 before.folder))
    → AreBegun (done ++ r ∷ left) old after.folder
stops_at t done r left old before after is (inl kept) = record { done = done; left = r ∷ left; all = refl; folder = kept t ∙ is }
stops_at t done r left old before after is (inr did) = record {
  done = done ++ r ∷ [];
  left = left;
  all = sym (append_assoc done (r ∷ []) left);
  folder = did.1 t ∙ ap (renamed r.0 r.1) is ∙ sym (after_one_more done r old);
}
