-- Laws on what a work folder holds under its names, and on its images.
use Rattle.std.proofs.Common.{◌≡◌, ◌≢◌, refl, sym, subst}
use Rattle.bisync_device.specs.declared.works.WorkName.{WorkName}
use Rattle.bisync_device.specs.declared.works.WorkName.TheVariants as name
use Rattle.bisync_device.specs.WorkFolder.{Held, Absent, Kept, Loose, WorkFolder, at, with_held, ImageOf, IsImage, IsSynced, IsSettled}
use Rattle.bisync_device.specs.WorkImages.{ReadsAlike}

-- # One name

-- of two changes of one name the last stands
pub with_held-twice : (n : WorkName) (a b : Held) (f : WorkFolder) → with_held n a (with_held n b f) ≡ with_held n a f
with_held-twice name.One a b f = refl
with_held-twice name.Two a b f = refl
with_held-twice name.OneOld a b f = refl
with_held-twice name.TwoOld a b f = refl
with_held-twice name.OneNew a b f = refl
with_held-twice name.TwoNew a b f = refl
with_held-twice name.OneErr a b f = refl
with_held-twice name.TwoErr a b f = refl
with_held-twice name.Lock a b f = refl
with_held-twice name.LockNew a b f = refl
with_held-twice name.Folders a b f = refl
with_held-twice name.FoldersNew a b f = refl
with_held-twice name.Filters a b f = refl
with_held-twice name.FiltersMd5 a b f = refl

-- what is there, put there again, changes nothing
pub with_held-own : (n : WorkName) (f : WorkFolder) → with_held n (at f n) f ≡ f
with_held-own name.One f = refl
with_held-own name.Two f = refl
with_held-own name.OneOld f = refl
with_held-own name.TwoOld f = refl
with_held-own name.OneNew f = refl
with_held-own name.TwoNew f = refl
with_held-own name.OneErr f = refl
with_held-own name.TwoErr f = refl
with_held-own name.Lock f = refl
with_held-own name.LockNew f = refl
with_held-own name.Folders f = refl
with_held-own name.FoldersNew f = refl
with_held-own name.Filters f = refl
with_held-own name.FiltersMd5 f = refl

pub at-with_held : (n : WorkName) (h : Held) (f : WorkFolder) → at (with_held n h f) n ≡ h
at-with_held name.One h f = refl
at-with_held name.Two h f = refl
at-with_held name.OneOld h f = refl
at-with_held name.TwoOld h f = refl
at-with_held name.OneNew h f = refl
at-with_held name.TwoNew h f = refl
at-with_held name.OneErr h f = refl
at-with_held name.TwoErr h f = refl
at-with_held name.Lock h f = refl
at-with_held name.LockNew h f = refl
at-with_held name.Folders h f = refl
at-with_held name.FoldersNew h f = refl
at-with_held name.Filters h f = refl
at-with_held name.FiltersMd5 h f = refl

-- a change of one name leaves each other
pub at-with_held_other : (n other : WorkName) (h : Held) (f : WorkFolder) → other ≢ n → at (with_held n h f) other ≡ at f other
at-with_held_other name.One name.One h f ne = absurd (ne refl)
at-with_held_other name.Two name.Two h f ne = absurd (ne refl)
at-with_held_other name.OneOld name.OneOld h f ne = absurd (ne refl)
at-with_held_other name.TwoOld name.TwoOld h f ne = absurd (ne refl)
at-with_held_other name.OneNew name.OneNew h f ne = absurd (ne refl)
at-with_held_other name.TwoNew name.TwoNew h f ne = absurd (ne refl)
at-with_held_other name.OneErr name.OneErr h f ne = absurd (ne refl)
at-with_held_other name.TwoErr name.TwoErr h f ne = absurd (ne refl)
at-with_held_other name.Lock name.Lock h f ne = absurd (ne refl)
at-with_held_other name.LockNew name.LockNew h f ne = absurd (ne refl)
at-with_held_other name.Folders name.Folders h f ne = absurd (ne refl)
at-with_held_other name.FoldersNew name.FoldersNew h f ne = absurd (ne refl)
at-with_held_other name.Filters name.Filters h f ne = absurd (ne refl)
at-with_held_other name.FiltersMd5 name.FiltersMd5 h f ne = absurd (ne refl)
at-with_held_other n other h f ne = refl

-- # Images

image_of-own : (h : Held) → ImageOf h h
image_of-own Absent = refl
image_of-own (Kept bytes) = refl
image_of-own (Loose bytes) = (bytes, refl)

image_of-then : (a b c : Held) → ImageOf a b → ImageOf b c → ImageOf a c
image_of-then Absent b c first second = subst (λ (h : Held). ImageOf h c) first second
image_of-then (Kept bytes) b c first second = subst (λ (h : Held). ImageOf h c) first second
image_of-then (Loose bytes) b c first second = subst (λ (h : Held). ImageOf h c) first.1 second

-- what was synced stays
image_of-synced : (h image : Held) → IsSynced h → ImageOf h image → image ≡ h
image_of-synced Absent image synced is = is
image_of-synced (Kept bytes) image synced is = is
image_of-synced (Loose bytes) image synced is = absurd synced

-- every folder is an image of itself
pub image-own : (f : WorkFolder) → IsImage f f
image-own f n = image_of-own (at f n)

-- an image of an image is an image of the first
pub image-then : (f g h : WorkFolder) → IsImage f g → IsImage g h → IsImage f h
image-then f g h first second n = image_of-then (at f n) (at g n) (at h n) (first n) (second n)

-- at a settled folder what the next run reads is the same in each image
pub image-settled : (f g : WorkFolder) → IsSettled f → IsImage f g → ReadsAlike f g
image-settled f g settled is = record {
  one = image_of-synced f.one g.one settled.one (is name.One);
  two = image_of-synced f.two g.two settled.two (is name.Two);
  one_old = image_of-synced f.one_old g.one_old settled.one_old (is name.OneOld);
  two_old = image_of-synced f.two_old g.two_old settled.two_old (is name.TwoOld);
  filters = image_of-synced f.filters g.filters settled.filters (is name.Filters);
}

synced-along : (a b : Held) → b ≡ a → IsSynced a → IsSynced b
synced-along a b same synced = subst IsSynced (sym same) synced

-- an image of a settled folder is settled
pub settled-image : (f g : WorkFolder) → IsSettled f → IsImage f g → IsSettled g
settled-image f g settled is =
    let alike = image-settled f g settled is in
    record {
      one = synced-along f.one g.one alike.one settled.one;
      two = synced-along f.two g.two alike.two settled.two;
      one_old = synced-along f.one_old g.one_old alike.one_old settled.one_old;
      two_old = synced-along f.two_old g.two_old alike.two_old settled.two_old;
      filters = synced-along f.filters g.filters alike.filters settled.filters;
    }
