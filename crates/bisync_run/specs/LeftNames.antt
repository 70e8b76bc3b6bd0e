-- What a run leaves of some names of its work folder, whatever call failed.
use Rattle.std.specs.Prelude.{◌≡◌, ◌⊎◌, ℕ, ℤ, List, Bool, true, Option, Some}
use Rattle.bisync_tree.specs.declared.entries.Compare.{Compare}
use Rattle.bisync_tree.specs.declared.options.Limits.{Limits}
use Rattle.bisync_device.specs.WorkFolder.{Held, Absent, Kept, WorkFolder, IsSettled, IsImage}
use Rattle.bisync_work.specs.declared.bases.Pair.TheVariants.{Old}
use Rattle.bisync_work.specs.Base.{Base, HasBaseIn, IsBase, HasNoBase}
use Rattle.bisync_opts.specs.declared.options.Opts.{Opts}
use Rattle.bisync_work.specs.Locks.{ChangesLock, MakesLock}
use Rattle.bisync_work.specs.LockTexts.{expiry_of, lock_text}
use Rattle.bisync_work.specs.Moves.{IsFallen, moved_over}
use Rattle.bisync_report.specs.declared.ends.End.{End}
use Rattle.bisync_report.specs.declared.ends.End.TheVariants.{WorkFault}
use Rattle.bisync_run.specs.EndKinds.{is_before_lock, lets_fall}
use Rattle.bisync_run.specs.Entering.{AtMoment, HasSomeRules}
use Rattle.bisync_run.specs.FolderBases.{TakesNext, compared}
use Rattle.bisync_run.specs.KeptNames.{KeepsOwn, StandsSetBack, StoresRules}
use Rattle.bisync_run.specs.ResyncRuns.{Matter}
use Rattle.bisync_run.specs.ResyncWriting.{stored}
use Rattle.bisync_run.specs.Untouched.{Remotes}

-- what is left at return, or an image of it after a stop, where the folder was settled at entry
abbrev pub MayBeLeft : WorkFolder → WorkFolder → WorkFolder → Type 0
MayBeLeft f g left = (left ≡ g) ⊎ (IsSettled f × IsImage g left)

-- # The names of the base

-- What is kept is kept; or the base before stands under the -old names, or there is none, or a new one.
abbrev pub LeavesBaseSetBack : Limits → Compare → WorkFolder → WorkFolder → Type 0 → Type 0
LeavesBaseSetBack limits compare f g IsKept =
    (before : Base) → IsBase limits.listing f (Some before)
    → IsKept ⊎ (HasBaseIn limits.listing g Old before ⊎ (HasNoBase limits.listing g ⊎ TakesNext limits compare f g))

-- # The digest of the filters file

-- The base is the one before, and so is the digest, and what is kept is kept; or there is none; or it is a new one, and beside
-- it stands the digest of the filters file, where one is used, or else the digest before.
abbrev pub StoresDigestOf : Opts → Limits → WorkFolder → Remotes → WorkFolder → Type 0 → Type 0
StoresDigestOf opts limits f start g IsKept =
    (base : Option Base) → IsBase limits.listing f base
    → (IsBase limits.listing g base × IsKept × (g.filters_md5 ≡ f.filters_md5))
    ⊎ (HasNoBase limits.listing g
    ⊎ (TakesNext limits (compared opts start) f g × ((m : Matter opts f start) × (g.filters_md5 ≡ stored m.digest f.filters_md5))))

-- # The lock

-- it was written at that moment, by a run whose locks hold so long
abbrev pub IsOwnLock : Option ℤ → Bool → ℤ → Held → Type 0
IsOwnLock max_lock told moment held = AtMoment told moment (λ now. held ≡ Kept (lock_text (expiry_of now max_lock)))

-- nothing changed, or the rules were read and the calls on the lock failed, at that moment
abbrev pub MayTakeLock : Opts → Bool → ℤ → End → WorkFolder → WorkFolder → Type 0
MayTakeLock opts told moment end f g =
    (g ≡ f) ⊎ ((end ≡ WorkFault) × HasSomeRules opts.filters f × AtMoment told moment (λ now. MakesLock (lock_text (expiry_of now opts.max_lock)) f.lock g.lock))

-- Once its rules were read none is there, or the run's own; or, of a run that didn't get one, it is as before or what the calls
-- on it that failed left. Of the latter no other name is another, and what is kept is kept.
abbrev pub LeavesOwnLock : Opts → Bool → ℤ → End → WorkFolder → WorkFolder → Type 0 → Type 0
LeavesOwnLock opts told moment end f g IsKept =
    (HasSomeRules opts.filters f × (g.lock ≡ Absent))
    ⊎ ((HasSomeRules opts.filters f × IsOwnLock opts.max_lock told moment g.lock)
    ⊎ ((is_before_lock end ≡ true) × ChangesLock f g × IsKept × MayTakeLock opts told moment end f g))

-- # The base that an ordinary run set back

-- What is kept is kept, and no name but the lock is another, but those that fall; or the base was set back, where a side's device
-- failed.
abbrev pub StaysOrStands : Opts → Limits → End → WorkFolder → WorkFolder → Type 0 → Type 0
StaysOrStands opts limits end f g IsKept = (IsKept × KeepsOwn opts end f g) ⊎ StandsSetBack limits end f g

-- # The fall of a resync

-- What is kept is kept, and no name but the lock is another, or the listings fell, where they may, and the stored digest is as
-- before; or the listings fell, and the digest of the filters file is stored.
abbrev pub StaysOrFell : Opts → End → WorkFolder → WorkFolder → Type 0 → Type 0
StaysOrFell opts end f g IsKept =
    (IsKept × (ChangesLock f g ⊎ ((lets_fall opts.resilient opts.dry_run end ≡ true) × IsFallen f g × (g.filters_md5 ≡ f.filters_md5))))
    ⊎ (IsFallen f g × StoresRules opts f g)

-- # Inside this crate

-- the same, with this digest
abbrev pub StoresDigest : Limits → Compare → Option (List ℕ) → WorkFolder → WorkFolder → Type 0 → Type 0
StoresDigest limits compare digest f g IsKept =
    (base : Option Base) → IsBase limits.listing f base
    → (IsBase limits.listing g base × IsKept × (g.filters_md5 ≡ f.filters_md5))
    ⊎ (HasNoBase limits.listing g ⊎ (TakesNext limits compare f g × (g.filters_md5 ≡ stored digest f.filters_md5)))

-- nothing changed, or the base was set back, where a side's device failed
abbrev pub SameOrStands : Limits → End → WorkFolder → WorkFolder → Type 0 → Type 0
SameOrStands limits end f g IsKept = (IsKept × (g ≡ f)) ⊎ StandsSetBack limits end f g

-- the listings fell, and the digest is stored
abbrev pub FellWith : Option (List ℕ) → WorkFolder → WorkFolder → Type 0
FellWith digest f g = IsFallen f g × (g.filters_md5 ≡ stored digest f.filters_md5)

-- the lock is as before, or was written again
abbrev pub KeepsOwnLock : Option ℤ → Bool → ℤ → Held → Held → Type 0
KeepsOwnLock max_lock told moment old new = (new ≡ old) ⊎ IsOwnLock max_lock told moment new

-- a fall leaves the same under the -err names as it would have before
pub record FallsAs (old new : WorkFolder) : Type 0 where
  pub one : moved_over new.one (moved_over new.one_old new.one_err) ≡ moved_over old.one (moved_over old.one_old old.one_err)
  pub two : moved_over new.two (moved_over new.two_old new.two_err) ≡ moved_over old.two (moved_over old.two_old old.two_err)
