-- Under which names the base before stands after an ordinary run, and the digest beside it after a resync.
use Rattle.std.proofs.Common.{◌≡◌, ◌⊎◌, ◌∙◌, ◌<◌, ◌^◌, ap, sym, subst, inl, inr, ⊎_elim, ℕ, List, Option, Some, None}
use Rattle.std.specs.Option.{unwrap_or}
use Rattle.bisync_tree.specs.declared.entries.Compare.{Compare}
use Rattle.bisync_tree.specs.declared.options.Limits.{Limits}
use Rattle.bisync_device.specs.WorkFolder.{WorkFolder, IsSettled, IsImage}
use Rattle.bisync_work.specs.declared.bases.Pair.TheVariants.{Current, Old}
use Rattle.bisync_work.specs.Base.{Base, HasBaseIn, IsBase, HasNoBase}
use Rattle.bisync_work.specs.Locks.{ChangesLock}
use Rattle.bisync_device.proofs.WorkFolderLaws.{image-settled}
use Rattle.bisync_work.specs.Moves.{SameListings, Switches}
use Rattle.bisync_work.specs.Stamps.{IsNewStamp}
use Rattle.bisync_work.proofs.BaseLaws.{base_is_one, same_in_pair, same_keeps}
use Rattle.bisync_opts.specs.declared.options.Opts.{Opts}
use Rattle.bisync_report.specs.declared.ends.End.{End}
use Rattle.bisync_run.specs.CarryingOut.{AreWithin}
use Rattle.bisync_run.specs.Closing.{Closes}
use Rattle.bisync_run.specs.FolderBases.{IsNextOf, TakesNext, compared}
use Rattle.bisync_run.specs.KeptNames.{IsSideEnd, StandsSetBack}
use Rattle.bisync_run.specs.LeftNames.{LeavesBaseSetBack, MayBeLeft, StoresDigest, StoresDigestOf}
use Rattle.bisync_run.specs.OrdinaryChanges.{IsPrepared, IsSetBack}
use Rattle.bisync_run.specs.ResyncRuns.{Matter}
use Rattle.bisync_run.specs.ResyncWriting.{next_base, stored}
use Rattle.bisync_run.specs.Starts.{IsStartOf}
use Rattle.bisync_run.specs.Untouched.{Remotes}
use Rattle.bisync_run.specs.declared.looks.Look.{Look}
use Rattle.bisync_run.specs.declared.prepared.Prepared.{Prepared}
use Rattle.bisync_run.specs.declared.starting.Started.{Started}
use Rattle.bisync_run.proofs.FolderBases.{next_of, ready_to}
use Rattle.bisync_run.proofs.LockedFolders.{base_past, ready_past, same_listings, stamp_before}
use Rattle.bisync_run.proofs.OrdinaryHeld.{prepared_of}

-- # The steps of an ordinary run, and its switch

pub old_past : (limit : ℕ) (f g : WorkFolder) (before : Base) (prepared : Prepared) → IsSetBack limit before prepared f → ChangesLock f g → HasBaseIn limit g Old before
old_past limit f g before prepared back lock = same_in_pair limit f g (same_listings f g lock) Old before back.is

pub old_or_next : (limit : ℕ) (f g h : WorkFolder) (before : Base) (prepared : Prepared) → limit < 2 ^ 64 → IsSetBack limit before prepared f → ChangesLock f g → Switches g h
    → HasBaseIn limit h Old before ⊎ IsBase limit h (Some (next_base prepared))
old_or_next limit f g h before prepared small back lock switches =
    ⊎_elim inl (λ next. inr (Current, next))
    (switches.older limit (next_base prepared) small (ready_past f g lock limit (next_base prepared) back.ready) before (old_past limit f g before prepared back lock))

-- # The ordinary run

module _ (limits : Limits) (compare : Compare) (f g : WorkFolder) (IsKept IsKeptSince : Type 0) where
  -- after it was carried out, from the base that it started from
  pub set_back_held : limits.listing < 2 ^ 64 → (IsKeptSince → IsKept) → (prepared : Prepared) → IsNextOf limits compare f (next_base prepared) → (before : Base) → IsBase limits.listing f (Some before)
      → IsKeptSince ⊎ (HasBaseIn limits.listing g Old before ⊎ IsBase limits.listing g (Some (next_base prepared))) → LeavesBaseSetBack limits compare f g IsKept
  set_back_held small since prepared next before is left other has =
      let one : before ≡ other = ap (λ (o : Option Base). unwrap_or o before) (base_is_one limits.listing f small (Some before) (Some other) is has) in
      ⊎_elim
      (λ same. inl (since same))
      (λ changed. inr (⊎_elim (λ old. inl (subst (HasBaseIn limits.listing g Old) one old)) (λ taken. inr (inr (next_base prepared, next, taken))) changed))
      left

-- and from what started it
pub ordinary_set_back : (opts : Opts) (limits : Limits) (compare : Compare) (digest : Option (List ℕ)) (f f2 : WorkFolder) (same : f2 ≡ f) (started : Started) (start : IsStartOf opts limits f digest started)
    (made : Look) (fields : made.compare ≡ compare) → limits.listing < 2 ^ 64 → AreWithin limits.listing (prepared_of started.stamp made) → (g : WorkFolder) (IsKept IsKeptSince : Type 0) → (IsKeptSince → IsKept)
    → ((limit : ℕ) (base : Base) → IsPrepared limit f2 started.pair base (prepared_of started.stamp made)
    → IsKeptSince ⊎ (HasBaseIn limit g Old base ⊎ IsBase limit g (Some (next_base (prepared_of started.stamp made)))))
    → LeavesBaseSetBack limits compare f g IsKept
ordinary_set_back opts limits compare digest f f2 same started start made fields small fits g IsKept IsKeptSince since left =
    set_back_held limits compare f g IsKept IsKeptSince small since (prepared_of started.stamp made) (next_of limits compare f (prepared_of started.stamp made) fields start.new) start.base
    (started.pair, start.starts.is) (left limits.listing start.base (ready_to opts limits compare digest f f2 same started start made fields small fits))

-- where it was set back before a side failed
pub ordinary_stands : (opts : Opts) (limits : Limits) (compare : Compare) (digest : Option (List ℕ)) (f f2 : WorkFolder) (same : f2 ≡ f) (started : Started) (start : IsStartOf opts limits f digest started)
    (made : Look) (fields : made.compare ≡ compare) → limits.listing < 2 ^ 64 → AreWithin limits.listing (prepared_of started.stamp made) → (end : End) (g : WorkFolder)
    → ((limit : ℕ) (base : Base) → IsPrepared limit f2 started.pair base (prepared_of started.stamp made) → IsSideEnd end → HasBaseIn limit g Old base)
    → StandsSetBack limits end f g
ordinary_stands opts limits compare digest f f2 same started start made fields small fits end g left side other has =
    let one : start.base ≡ other = ap (λ (o : Option Base). unwrap_or o start.base) (base_is_one limits.listing f small (Some start.base) (Some other) (started.pair, start.starts.is) has) in
    inl (subst (HasBaseIn limits.listing g Old) one (left limits.listing start.base (ready_to opts limits compare digest f f2 same started start made fields small fits) side))

-- # The digest of a resync

pub late_same : (limits : Limits) (compare : Compare) (digest : Option (List ℕ)) (f g : WorkFolder) (IsKept : Type 0) → g ≡ f → IsKept → StoresDigest limits compare digest f g IsKept
late_same limits compare digest f g IsKept same kept base is = inl (subst (λ (w : WorkFolder). IsBase limits.listing w base) (sym same) is, kept, ap (λ (w : WorkFolder). w.filters_md5) same)

pub late_held : (limits : Limits) (compare : Compare) (digest : Option (List ℕ)) (f f2 : WorkFolder) → f2 ≡ f → (prepared : Prepared) → prepared.compare ≡ compare → IsNewStamp limits.listing f prepared.stamp → (g : WorkFolder) (IsKept IsKeptSince : Type 0)
    → (IsKeptSince → IsKept) → ((base : Option Base) → IsBase limits.listing f2 base → (IsBase limits.listing g base × IsKeptSince × (g.filters_md5 ≡ f2.filters_md5))
    ⊎ (HasNoBase limits.listing g ⊎ (IsBase limits.listing g (Some (next_base prepared)) × (g.filters_md5 ≡ stored digest f2.filters_md5))))
    → StoresDigest limits compare digest f g IsKept
late_held limits compare digest f f2 same prepared fields new g IsKept IsKeptSince since late base is =
    ⊎_elim
    (λ stays. inl (stays.0, since stays.1, stays.2 ∙ ap (λ (w : WorkFolder). w.filters_md5) same))
    (λ other. inr (⊎_elim inl (λ taken. inr ((next_base prepared, next_of limits compare f prepared fields new, taken.0), taken.1 ∙ ap (λ (w : WorkFolder). stored digest w.filters_md5) same)) other))
    (late base (subst (λ (w : WorkFolder). IsBase limits.listing w base) (sym same) is))

-- # The close, said of the folder without the lock

module _ (limits : Limits) (compare : Compare) (f f2 g h : WorkFolder) (changes : ChangesLock f f2) (closes : Closes g h) where
  takes_closed : TakesNext limits compare f2 g → HasNoBase limits.listing h ⊎ TakesNext limits compare f h
  takes_closed taken =
      let of = taken.1 in
      ⊎_elim
      (λ stays. inr (taken.0, record { stamp = of.stamp; new = stamp_before f f2 changes limits.listing of.stamp of.new; header = of.header }, stays))
      (λ none. inl none)
      (closes.base limits.listing (Some taken.0) taken.2)

  none_closed : HasNoBase limits.listing g → HasNoBase limits.listing h
  none_closed none = ⊎_elim (λ same. same) (λ same. same) (closes.base limits.listing None none)

  digest_closed : h.filters_md5 ≡ g.filters_md5
  digest_closed = ap (λ (w : WorkFolder). w.filters_md5) closes.rest

  pub late_closed : (IsKept : Type 0) (opts : Opts) (start : Remotes) → compared opts start ≡ compare → (m : Matter opts f start) → StoresDigest limits compare m.digest f2 g IsKept → StoresDigestOf opts limits f start h IsKept
  late_closed IsKept opts start fields m late base is =
      ⊎_elim
      (λ same. ⊎_elim
      (λ stays. inl (stays, same.1, digest_closed ∙ same.2 ∙ ap (λ (w : WorkFolder). w.filters_md5) changes.rest))
      (λ none. inr (inl none))
      (closes.base limits.listing base same.0))
      (λ other. inr (⊎_elim
      (λ none. inl (none_closed none))
      (λ taken. ⊎_elim
      inl
      (λ next. inr (
        subst (λ (c : Compare). TakesNext limits c f h) (sym fields) next,
        (m, digest_closed ∙ taken.1 ∙ ap (λ (w : WorkFolder). stored m.digest w.filters_md5) changes.rest),
      ))
      (takes_closed taken.0))
      other))
      (late base (base_past f f2 changes limits.listing base is))

  pub old_closed : (IsKept : Type 0) → LeavesBaseSetBack limits compare f2 g IsKept → LeavesBaseSetBack limits compare f h IsKept
  old_closed IsKept leaves before is =
      ⊎_elim
      (λ same. inl same)
      (λ other. inr (⊎_elim
      (λ old. ⊎_elim (λ stays. inl stays) (λ none. inr (inl none)) (closes.pair limits.listing Old before old))
      (λ more. inr (⊎_elim (λ none. inl (none_closed none)) takes_closed more))
      other))
      (leaves before (base_past f f2 changes limits.listing (Some before) is))

-- # What is left, or an image of it

pub same_image : (g left : WorkFolder) → IsSettled g → IsImage g left → SameListings g left
same_image g left settled image = let r = image-settled g left settled image in record { one = r.one; two = r.two; one_old = r.one_old; two_old = r.two_old }

pub set_back_left : (limits : Limits) (compare : Compare) (f g left : WorkFolder) (IsKept : Type 0)
    → LeavesBaseSetBack limits compare f g IsKept → (IsSettled f → IsSettled g) → MayBeLeft f g left → LeavesBaseSetBack limits compare f left IsKept
set_back_left limits compare f g left IsKept leaves settled (inl same) before is = subst (λ (h : WorkFolder). LeavesBaseSetBack limits compare f h IsKept) (sym same) leaves before is
set_back_left limits compare f g left IsKept leaves settled (inr image) before is =
    let same = same_image g left (settled image.0) image.1 in
    let keeps = same_keeps limits.listing g left same in
    ⊎_elim inl
    (λ other. inr (⊎_elim
    (λ old. inl (same_in_pair limits.listing g left same Old before old))
    (λ more. inr (⊎_elim (λ none. inl (keeps.base None none)) (λ taken. inr (taken.0, taken.1, keeps.base (Some taken.0) taken.2)) more))
    other))
    (leaves before is)
