-- A folder whose lock alone is another.
use Rattle.std.proofs.Common.{◌≡◌, ap, subst, sym, Option, None, ℕ}
use Rattle.bisync_device.specs.WorkFolder.{WorkFolder, IsSettled}
use Rattle.bisync_work.specs.Base.{Base, IsBase, HasNoBase}
use Rattle.bisync_work.specs.Locks.{ChangesLock}
use Rattle.bisync_work.specs.Moves.{IsReady, SameListings}
use Rattle.bisync_work.specs.Stamps.{IsNewStamp}
use Rattle.bisync_work.proofs.BaseLaws.{same_keeps, same_stamp}

module _ (f g : WorkFolder) (changes : ChangesLock f g) where
  pub same_listings : SameListings f g
  same_listings = record {
    one = ap (λ (x : WorkFolder). x.one) changes.rest;
    two = ap (λ (x : WorkFolder). x.two) changes.rest;
    one_old = ap (λ (x : WorkFolder). x.one_old) changes.rest;
    two_old = ap (λ (x : WorkFolder). x.two_old) changes.rest;
  }

  pub base_past : (limit : ℕ) (base : Option Base) → IsBase limit f base → IsBase limit g base
  base_past limit base x = (same_keeps limit f g same_listings).base base x

  pub base_before : (limit : ℕ) (base : Option Base) → IsBase limit g base → IsBase limit f base
  base_before limit base x =
      (same_keeps limit g f (record { one = sym same_listings.one; two = sym same_listings.two; one_old = sym same_listings.one_old; two_old = sym same_listings.two_old })).base base x

  pub no_base_past : (limit : ℕ) → HasNoBase limit f → HasNoBase limit g
  no_base_past limit x = base_past limit None x

  pub stamp_before : (limit n : ℕ) → IsNewStamp limit g n → IsNewStamp limit f n
  stamp_before limit n x =
      same_stamp limit g f (record { one = sym same_listings.one; two = sym same_listings.two; one_old = sym same_listings.one_old; two_old = sym same_listings.two_old }) n x

  pub settled_past : IsSettled f → IsSettled g
  settled_past s = subst IsSettled (sym whole) (record { one = s.one; two = s.two; one_old = s.one_old; two_old = s.two_old; filters = s.filters })
    where
      whole : g ≡ record f { lock = g.lock; lock_new = g.lock_new }
      whole = ap (λ (x : WorkFolder). record x { lock = g.lock; lock_new = g.lock_new }) changes.rest

  pub ready_past : (limit : ℕ) (next : Base) → IsReady limit f next → IsReady limit g next
  ready_past limit next r = subst (λ (x : WorkFolder). IsReady limit x next) (sym whole)
      (record {
        one = r.one;
        two = r.two;
        one_synced = r.one_synced;
        two_synced = r.two_synced;
        unused = record { one = r.unused.one; two = r.unused.two; one_old = r.unused.one_old; two_old = r.unused.two_old };
        no_current = r.no_current;
        no_mixed = r.no_mixed;
      })
    where
      whole : g ≡ record f { lock = g.lock; lock_new = g.lock_new }
      whole = ap (λ (x : WorkFolder). record x { lock = g.lock; lock_new = g.lock_new }) changes.rest
