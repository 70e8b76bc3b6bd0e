-- What each part of a resync's writing leaves of the base.
use Rattle.std.proofs.Common.{◌≡◌, ◌⊎◌, ◌∙◌, ℕ, Option, None, sym, ap, subst, inl, inr, ⊎_elim}
use Rattle.bisync_device.specs.WorkFolder.{WorkFolder, IsSynced}
use Rattle.bisync_device.specs.declared.works.WorkName.TheVariants.{FiltersMd5}
use Rattle.bisync_work.specs.Base.{Base, IsBase, HasNoBase}
use Rattle.bisync_work.specs.KeptTexts.{ChangesOnly}
use Rattle.bisync_work.specs.Moves.{Falls, SameListings}
use Rattle.bisync_work.specs.NewListings.{but_new}
use Rattle.bisync_work.proofs.BaseLaws.{same_keeps}
use Rattle.bisync_run.specs.ResyncWriting.{Loses}

pub loses_nothing : (f : WorkFolder) → Loses f f
loses_nothing f = record { base = λ limit o is. inl is; settled = λ s. s }

pub loses_twice : {f g h : WorkFolder} → Loses f g → Loses g h → Loses f h
loses_twice {h = h} a b = record {
  base = λ limit o is. ⊎_elim (λ same. b.base limit o same) (λ none. inr (gone limit (b.base limit None none))) (a.base limit o is);
  settled = λ s. b.settled (a.settled s);
}
  where
    gone : (limit : ℕ) → HasNoBase limit h ⊎ HasNoBase limit h → HasNoBase limit h
    gone limit (inl none) = none
    gone limit (inr none) = none

-- the same stands under the names of a base and of the filters file
same_loses : (f g : WorkFolder) → SameListings f g → g.filters ≡ f.filters → Loses f g
same_loses f g same filters = record {
  base = λ limit o is. inl ((same_keeps limit f g same).base o is);
  settled = λ s. record {
    one = subst IsSynced (sym same.one) s.one;
    two = subst IsSynced (sym same.two) s.two;
    one_old = subst IsSynced (sym same.one_old) s.one_old;
    two_old = subst IsSynced (sym same.two_old) s.two_old;
    filters = subst IsSynced (sym filters) s.filters;
  };
}

module _ (f g : WorkFolder) where
  pub new_same : but_new g ≡ but_new f → SameListings f g
  new_same e = record { one = ap (λ (x : WorkFolder). x.one) e; two = ap (λ (x : WorkFolder). x.two) e; one_old = ap (λ (x : WorkFolder). x.one_old) e; two_old = ap (λ (x : WorkFolder). x.two_old) e }

  pub new_loses : but_new g ≡ but_new f → Loses f g
  new_loses e = same_loses f g (new_same e) (ap (λ (x : WorkFolder). x.filters) e)

  pub fall_loses : Falls f g → Loses f g
  fall_loses a = record { base = a.base; settled = a.settled }

  pub digest_same : ChangesOnly FiltersMd5 f g → SameListings f g
  digest_same o = record { one = ap (λ (x : WorkFolder). x.one) o.rest; two = ap (λ (x : WorkFolder). x.two) o.rest; one_old = ap (λ (x : WorkFolder). x.one_old) o.rest; two_old = ap (λ (x : WorkFolder). x.two_old) o.rest }

  -- without a base there is none, whatever the digest file holds
  pub none_past_digest : (limit : ℕ) → HasNoBase limit f → ChangesOnly FiltersMd5 f g → HasNoBase limit g
  none_past_digest limit none o = (same_keeps limit f g (digest_same o)).base None none

  pub digest_loses : ChangesOnly FiltersMd5 f g → Loses f g
  digest_loses o = same_loses f g (digest_same o) (ap (λ (x : WorkFolder). x.filters) o.rest)

-- # The base and the digest beside it

pub new_keeps_digest : (f g : WorkFolder) → but_new g ≡ but_new f → (limit : ℕ) (base : Option Base) → IsBase limit f base → IsBase limit g base × (g.filters_md5 ≡ f.filters_md5)
new_keeps_digest f g e limit base is = ((same_keeps limit f g (new_same f g e)).base base is, ap (λ (x : WorkFolder). x.filters_md5) e)

pub fall_keeps_digest : (f g h : WorkFolder) → but_new g ≡ but_new f → Falls g h → (limit : ℕ) (base : Option Base) → IsBase limit f base → (IsBase limit h base × (h.filters_md5 ≡ f.filters_md5)) ⊎ HasNoBase limit h
fall_keeps_digest f g h e falls limit base is =
    let before = new_keeps_digest f g e limit base is in
    ⊎_elim (λ same. inl (same, ap (λ (x : WorkFolder). x.filters_md5) falls.rest ∙ before.1)) inr (falls.base limit base before.0)
