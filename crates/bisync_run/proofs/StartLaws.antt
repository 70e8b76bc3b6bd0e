-- A run starts from one base, or at most one refusal comes before it looks at its base.
use Rattle.std.proofs.Common.{◌≡◌, ◌≢◌, ◌⊎◌, ◌<◌, ◌^◌, ℕ, List, Option, Some, None, IfSome, refl, sym, ◌∙◌, ap, subst, inl, inr}
use Rattle.hex.specs.Hex.{encode_lower, decode_sized}
use Rattle.hex.proofs.HexLemmas.{decode_sized-encode_lower}
use Rattle.bisync_tree.specs.declared.entries.Compare.{Compare}
use Rattle.bisync_tree.specs.declared.options.Limits.{Limits}
use Rattle.bisync_filter.specs.Digests.{IsDigest, SpellsDigest}
use Rattle.bisync_filter.proofs.DigestLaws.{digits_of-spelled}
use Rattle.bisync_device.specs.WorkFolder.{Held, WorkFolder}
use Rattle.bisync_device.specs.declared.works.WorkName.{WorkName}
use Rattle.bisync_opts.specs.declared.options.Opts.{Opts}
use Rattle.bisync_work.specs.Base.{Base, HasBaseIn, HasNoBase}
use Rattle.bisync_work.specs.BadNames.{IsFirstBad, base_names}
use Rattle.bisync_work.specs.DigestFiles.{HoldsDigest}
use Rattle.bisync_work.specs.declared.bases.Pair.{Pair}
use Rattle.bisync_work.proofs.BaseLaws.{pair_is_one, base_is_one, bad_is_one}
use Rattle.bisync_work.proofs.PairLaws.{same_bytes}
use Rattle.bisync_report.specs.declared.ends.End.{End}
use Rattle.bisync_report.specs.declared.ends.End.TheVariants.{InSync, FiltersChanged, BadListing, NeedResync}
use Rattle.bisync_report.specs.declared.ends.Need.{Need}
use Rattle.bisync_report.specs.declared.ends.Need.TheVariants.{NoBase, NotRecovering, FieldsChanged}
use Rattle.bisync_run.specs.Starts.{IsStored, IsReadable, HoldsOther, MayStart, HasFields, StartsFrom, IsStartRefusal, fields_of}

-- # Digests

spelled_one : (d e text : List ℕ) → IsDigest d → IsDigest e → SpellsDigest d text → SpellsDigest e text → d ≡ e
spelled_one d e text is_d is_e one two =
    let same : encode_lower d ≡ encode_lower e = sym (digits_of-spelled d text is_d one) ∙ digits_of-spelled e text is_e two in
    let read = sym (decode_sized-encode_lower d 16 is_d.0 is_d.1) ∙ ap (λ (t : List ℕ). decode_sized t 16) same ∙ decode_sized-encode_lower e 16 is_e.0 is_e.1 in
    cc

held_one : (held : Held) (d e : List ℕ) → IsDigest d → IsDigest e → HoldsDigest d held → HoldsDigest e held → d ≡ e
held_one held d e is_d is_e one two =
    let text : two.0 ≡ one.0 = same_bytes two.0 one.0 (sym two.1 ∙ one.1) in
    spelled_one d e one.0 is_d is_e one.2 (subst (SpellsDigest e) text two.2)

stored_one : (held : Held) (now : List ℕ) (s t : Option (List ℕ)) → IfSome s IsDigest → IfSome t IsDigest → HoldsOther now s held → HoldsOther now t held → s ≡ t
stored_one held now None None is_s is_t one two = refl
stored_one held now None (Some t) is_s is_t one two = absurd (one t is_t two.1)
stored_one held now (Some s) None is_s is_t one two = absurd (two s is_s one.1)
stored_one held now (Some s) (Some t) is_s is_t one two = ap Some (held_one held s t is_s is_t one.1 two.1)

not_other : (held : Held) (now : List ℕ) (stored : Option (List ℕ)) → IsDigest now → IfSome stored IsDigest → HoldsDigest now held → HoldsOther now stored held → ⊥
not_other held now None is real holds other = other now is holds
not_other held now (Some d) is real holds other = other.0 (held_one held d now real is other.1 holds)

-- # Refusals

some_none : {T P : Type 0} (x : T) → Some x ≡ None → P
some_none x e = absurd cc

abbrev bad_of : Option (WorkName × ℕ) → End
bad_of None = InSync
bad_of (Some bad) = BadListing bad.0 bad.1

abbrev need_of : Option Compare → Need
need_of None = NoBase
need_of (Some fields) = FieldsChanged fields

abbrev base_or : Base → Option Base → Base
base_or b None = b
base_or b (Some base) = base

-- why a readable folder needs a resync
abbrev IsNeed : Opts → Limits → WorkFolder → Need → Type 0
IsNeed opts limits f NoBase = HasNoBase limits.listing f
IsNeed opts limits f NotRecovering = (pair : Pair) × (base : Base) × HasBaseIn limits.listing f pair base × (MayStart opts.recover pair → ⊥)
IsNeed opts limits f (FieldsChanged stored) =
    (pair : Pair) × (base : Base) × HasBaseIn limits.listing f pair base × MayStart opts.recover pair × (base.header.fields ≡ Some stored) × (stored ≢ fields_of opts.compare)

-- the digest isn't the stored one
record IsChange (f : WorkFolder) (digest : Option (List ℕ)) (now : List ℕ) (stored : Option (List ℕ)) : Type 0 where
  is : digest ≡ Some now
  digest_now : IsDigest now
  digest_stored : IfSome stored IsDigest
  other : HoldsOther now stored f.filters_md5

-- which of the refusals it is
abbrev Kinds : Opts → Limits → WorkFolder → Option (List ℕ) → End → Type 0
Kinds opts limits f digest e =
    ((now : List ℕ) × (stored : Option (List ℕ)) × (e ≡ FiltersChanged now stored) × IsChange f digest now stored)
    ⊎ (((name : WorkName) × (line : ℕ) × (e ≡ BadListing name line) × IsStored digest f.filters_md5 × IsFirstBad limits.listing f base_names (Some (name, line)))
    ⊎ ((need : Need) × (e ≡ NeedResync need) × IsReadable limits f digest × IsNeed opts limits f need))

module _ (opts : Opts) (limits : Limits) (f : WorkFolder) (digest : Option (List ℕ)) (small : limits.listing < 2 ^ 64) where
  kinds : (e : End) → IsStartRefusal opts limits f digest e → Kinds opts limits f digest e
  kinds (FiltersChanged now stored) h = inl (now, stored, refl, record { is = h.0; digest_now = h.1; digest_stored = h.2; other = h.3 })
  kinds (BadListing name line) h = inr (inl (name, line, refl, h.0, h.1))
  kinds (NeedResync NoBase) h = inr (inr (NoBase, refl, h.0, h.1))
  kinds (NeedResync NotRecovering) h = inr (inr (NotRecovering, refl, h.0, h.1))
  kinds (NeedResync (FieldsChanged stored)) h = inr (inr (FieldsChanged stored, refl, h.0, h.1))
  kinds e h = absurd h

  not_changed : (now : List ℕ) (stored : Option (List ℕ)) → IsChange f digest now stored → IsStored digest f.filters_md5 → ⊥
  not_changed now stored change holds =
      not_other f.filters_md5 now stored change.digest_now change.digest_stored (subst (λ (o : Option (List ℕ)). IsStored o f.filters_md5) change.is holds) change.other

  not_bad : (name : WorkName) (line : ℕ) → IsFirstBad limits.listing f base_names (Some (name, line)) → IsFirstBad limits.listing f base_names None → ⊥
  not_bad name line bad good = some_none (name, line) (bad_is_one limits.listing f base_names (Some (name, line)) None bad good)

  not_none : (pair : Pair) (base : Base) → HasBaseIn limits.listing f pair base → HasNoBase limits.listing f → ⊥
  not_none pair base has none = some_none base (base_is_one limits.listing f small (Some base) None (pair, has) none)

  same_base : (p q : Pair) (a b : Base) → HasBaseIn limits.listing f p a → HasBaseIn limits.listing f q b → a ≡ b
  same_base p q a b x y = ap (base_or a) (base_is_one limits.listing f small (Some a) (Some b) (p, x) (q, y))

  same_need : (m n : Need) → IsNeed opts limits f m → IsNeed opts limits f n → m ≡ n
  same_need NoBase NoBase x y = refl
  same_need NoBase NotRecovering x y = absurd (not_none y.0 y.1 y.2 x)
  same_need NoBase (FieldsChanged t) x y = absurd (not_none y.0 y.1 y.2 x)
  same_need NotRecovering NoBase x y = absurd (not_none x.0 x.1 x.2 y)
  same_need NotRecovering NotRecovering x y = refl
  same_need NotRecovering (FieldsChanged t) x y = absurd (x.3 (subst (MayStart opts.recover) (pair_is_one limits.listing f y.0 x.0 y.1 x.1 y.2 x.2) y.3))
  same_need (FieldsChanged s) NoBase x y = absurd (not_none x.0 x.1 x.2 y)
  same_need (FieldsChanged s) NotRecovering x y = absurd (y.3 (subst (MayStart opts.recover) (pair_is_one limits.listing f x.0 y.0 x.1 y.1 x.2 y.2) x.3))
  same_need (FieldsChanged s) (FieldsChanged t) x y =
      let fields : Some s ≡ Some t = sym x.4 ∙ ap (λ (b : Base). b.header.fields) (same_base x.0 y.0 x.1 y.1 x.2 y.2) ∙ y.4 in
      ap need_of fields

  same_changed : (m n : List ℕ) (s t : Option (List ℕ)) → IsChange f digest m s → IsChange f digest n t → FiltersChanged m s ≡ FiltersChanged n t
  same_changed m n s t one two =
      let now : m ≡ n = same_bytes m n (sym one.is ∙ two.is) in
      let stored : s ≡ t = stored_one f.filters_md5 n s t one.digest_stored two.digest_stored (subst (λ (x : List ℕ). HoldsOther x s f.filters_md5) now one.other) two.other in
      λ i. FiltersChanged (now i) (stored i)

  same_of : (a b : End) → Kinds opts limits f digest a → Kinds opts limits f digest b → a ≡ b
  same_of a b (inl x) (inl y) = x.2 ∙ same_changed x.0 y.0 x.1 y.1 x.3 y.3 ∙ sym y.2
  same_of a b (inl x) (inr (inl y)) = absurd (not_changed x.0 x.1 x.3 y.3)
  same_of a b (inl x) (inr (inr y)) = absurd (not_changed x.0 x.1 x.3 y.2.stored)
  same_of a b (inr (inl x)) (inl y) = absurd (not_changed y.0 y.1 y.3 x.3)
  same_of a b (inr (inl x)) (inr (inl y)) = x.2 ∙ ap bad_of (bad_is_one limits.listing f base_names (Some (x.0, x.1)) (Some (y.0, y.1)) x.4 y.4) ∙ sym y.2
  same_of a b (inr (inl x)) (inr (inr y)) = absurd (not_bad x.0 x.1 x.4 y.2.good)
  same_of a b (inr (inr x)) (inl y) = absurd (not_changed y.0 y.1 y.3 x.2.stored)
  same_of a b (inr (inr x)) (inr (inl y)) = absurd (not_bad y.0 y.1 y.4 x.2.good)
  same_of a b (inr (inr x)) (inr (inr y)) = x.1 ∙ ap NeedResync (same_need x.0 y.0 x.3 y.3) ∙ sym y.1

  pub start_refusals_same : (a b : End) → IsStartRefusal opts limits f digest a → IsStartRefusal opts limits f digest b → a ≡ b
  start_refusals_same a b h k = same_of a b (kinds a h) (kinds b k)

  -- # A start

  no_need : (need : Need) (pair : Pair) (base : Base) → IsNeed opts limits f need → StartsFrom opts limits f digest pair base → ⊥
  no_need NoBase pair base x starts = not_none pair base starts.is x
  no_need NotRecovering pair base x starts = x.3 (subst (MayStart opts.recover) (pair_is_one limits.listing f pair x.0 base x.1 starts.is x.2) starts.may)
  no_need (FieldsChanged s) pair base x starts =
      let fields : base.header.fields ≡ Some s = ap (λ (b : Base). b.header.fields) (same_base pair x.0 base x.1 starts.is x.2) ∙ x.4 in
      x.5 (subst (HasFields opts.compare) fields starts.fields)

  none_of : (e : End) (pair : Pair) (base : Base) → Kinds opts limits f digest e → StartsFrom opts limits f digest pair base → ⊥
  none_of e pair base (inl x) starts = not_changed x.0 x.1 x.3 starts.readable.stored
  none_of e pair base (inr (inl x)) starts = not_bad x.0 x.1 x.4 starts.readable.good
  none_of e pair base (inr (inr x)) starts = no_need x.0 pair base x.3 starts

  pub started_not_refused : (e : End) (pair : Pair) (base : Base) → IsStartRefusal opts limits f digest e → StartsFrom opts limits f digest pair base → ⊥
  started_not_refused e pair base h starts = none_of e pair base (kinds e h) starts

  pub starts_same : (p q : Pair) (a b : Base) → StartsFrom opts limits f digest p a → StartsFrom opts limits f digest q b → (p ≡ q) × (a ≡ b)
  starts_same p q a b x y = (pair_is_one limits.listing f p q a b x.is y.is, same_base p q a b x.is y.is)
