-- The names of a base hold nothing, what stood under a name of their side, or a new listing, whatever call failed.
use Rattle.std.proofs.Common.{◌≡◌, ◌⊎◌, ◌++◌, ◌∙◌, ◌<◌, ◌^◌, [], ◌∷◌, refl, sym, ap, subst, inl, inr, ⊎_elim, ℕ, List, Option, Some, None}
use Rattle.std.specs.Prelude.{⊤}
use Rattle.bisync_tree.specs.declared.entries.Compare.{Compare}
use Rattle.bisync_tree.specs.declared.options.Limits.{Limits}
use Rattle.bisync_device.specs.WorkFolder.{Held, Absent, Kept, Loose, WorkFolder, IsSettled, at, renamed}
use Rattle.bisync_device.specs.declared.works.WorkName.{WorkName}
use Rattle.bisync_device.specs.declared.works.WorkName.TheVariants.{One, Two, OneOld, TwoOld, OneNew, TwoNew, OneErr, TwoErr, FiltersMd5}
use Rattle.bisync_opts.specs.declared.options.Opts.{Opts}
use Rattle.bisync_work.specs.declared.bases.Pair.{Pair}
use Rattle.bisync_work.specs.declared.bases.Pair.TheVariants.{Current, Mixed, Old}
use Rattle.bisync_work.specs.BadNames.{IsFirstBad, IsGood}
use Rattle.bisync_work.specs.Base.{Base}
use Rattle.bisync_work.specs.Locks.{ChangesLock}
use Rattle.bisync_work.specs.KeptTexts.{ChangesOnly}
use Rattle.bisync_work.specs.Moves.{IsFallen, IsReady, SameListings, moved_over}
use Rattle.bisync_work.specs.NewListings.{but_new}
use Rattle.bisync_work.specs.Renames.{AreBegun, Renames, after_renames, back_renames, fall_renames, switch_renames}
use Rattle.bisync_work.specs.Stamps.{IsNewStamp}
use Rattle.bisync_work.proofs.RenameLaws.{over, renamed_over}
use Rattle.bisync_run.specs.CarryingOut.{AreWithin}
use Rattle.bisync_run.specs.LeftNames.{MayBeLeft}
use Rattle.bisync_run.specs.OrdinaryChanges.{IsPrepared}
use Rattle.bisync_run.specs.OwnNames.{HasGoodNames, HoldsOwn, IsFirst, IsOlder}
use Rattle.bisync_run.specs.ResyncWriting.{next_base}
use Rattle.bisync_run.specs.Starts.{IsStartOf}
use Rattle.bisync_run.specs.declared.looks.Look.{Look}
use Rattle.bisync_run.specs.declared.prepared.Prepared.{Prepared}
use Rattle.bisync_run.specs.declared.starting.Started.{Started}
use Rattle.bisync_run.proofs.BasesSetBack.{same_image}
use Rattle.bisync_run.proofs.CloseLaws.{MayUnlock, same_listings as same_unlocked, unlocks}
use Rattle.bisync_run.proofs.FolderBases.{ready_to}
use Rattle.bisync_run.proofs.LockedFolders.{ready_past, same_listings, stamp_before}
use Rattle.bisync_run.proofs.OrdinaryHeld.{prepared_of}
use Rattle.bisync_run.proofs.ResyncWrites.{digest_same, new_same}

-- # Renames

-- what holds after each of these renames where it holds before it
abbrev Each : (WorkFolder → Type 0) → Renames → Type 0
Each P [] = ⊤
Each P (r ∷ rs) = ((f : WorkFolder) → P f → P (over r.0 r.1 f)) × Each P rs

first_of : (P : WorkFolder → Type 0) (done left : Renames) → Each P (done ++ left) → Each P done
first_of P [] left each = tt
first_of P (r ∷ rs) left each = (each.0, first_of P rs left each.1)

after_each : (P : WorkFolder → Type 0) (done : Renames) → Each P done → (f : WorkFolder) → P f → P (after_renames done f)
after_each P [] each f is = is
after_each P (r ∷ rs) each f is = after_each P rs each.1 (renamed r.0 r.1 f) (subst P (sym (renamed_over r.0 r.1 f)) (each.0 f is))

begun_keeps : (P : WorkFolder → Type 0) (renames : Renames) → Each P renames → (f g : WorkFolder) → AreBegun renames f g → P f → P g
begun_keeps P renames each f g begun is = subst P (sym begun.folder) (after_each P begun.done (first_of P begun.done begun.left (subst (Each P) begun.all each)) f is)

same_twice : (f g h : WorkFolder) → SameListings f g → SameListings g h → SameListings f h
same_twice f g h first second = record { one = second.one ∙ first.one; two = second.two ∙ first.two; one_old = second.one_old ∙ first.one_old; two_old = second.two_old ∙ first.two_old }

module _ (limit : ℕ) (compare : Compare) (k : WorkFolder) where
  abbrev IsOne : Held → Type 0
  IsOne = IsFirst limit compare k k.one

  abbrev IsTwo : Held → Type 0
  IsTwo = IsFirst limit compare k k.two

  abbrev IsOneOld : Held → Type 0
  IsOneOld = IsOlder k.one k.one_old

  abbrev IsTwoOld : Held → Type 0
  IsTwoOld = IsOlder k.two k.two_old

  over_one : (held below : Held) → IsOne held → IsOne below → IsOne (moved_over held below)
  over_one Absent below a b = b
  over_one (Kept bytes) below a b = a
  over_one (Loose bytes) below a b = a

  over_two : (held below : Held) → IsTwo held → IsTwo below → IsTwo (moved_over held below)
  over_two Absent below a b = b
  over_two (Kept bytes) below a b = a
  over_two (Loose bytes) below a b = a

  over_one_old : (held below : Held) → (held ≡ Absent) ⊎ (held ≡ k.one) → IsOneOld below → IsOneOld (moved_over held below)
  over_one_old Absent below a b = b
  over_one_old (Kept bytes) below a b = inr a
  over_one_old (Loose bytes) below a b = inr a

  over_two_old : (held below : Held) → (held ≡ Absent) ⊎ (held ≡ k.two) → IsTwoOld below → IsTwoOld (moved_over held below)
  over_two_old Absent below a b = b
  over_two_old (Kept bytes) below a b = inr a
  over_two_old (Loose bytes) below a b = inr a

  abbrev AreOwn : WorkFolder → Type 0
  AreOwn = HoldsOwn limit compare k

  -- with no new listing yet
  record HoldsNoNew (f : WorkFolder) : Type 0 where
    one : (f.one ≡ Absent) ⊎ (f.one ≡ k.one)
    two : (f.two ≡ Absent) ⊎ (f.two ≡ k.two)
    one_old : IsOneOld f.one_old
    two_old : IsTwoOld f.two_old

  same_no_new : (f : WorkFolder) → SameListings k f → HoldsNoNew f
  same_no_new f same = record { one = inr same.one; two = inr same.two; one_old = inl same.one_old; two_old = inl same.two_old }

  no_new_own : (f : WorkFolder) → HoldsNoNew f → AreOwn f
  no_new_own f x = record {
    one = ⊎_elim inl (λ was. inr (inl was)) x.one;
    two = ⊎_elim inl (λ was. inr (inl was)) x.two;
    one_old = x.one_old;
    two_old = x.two_old;
  }

  one_back : (f : WorkFolder) → HoldsNoNew f → HoldsNoNew (over One OneOld f)
  one_back f x = record { one = inl refl; two = x.two; one_old = over_one_old f.one f.one_old x.one x.one_old; two_old = x.two_old }

  two_back : (f : WorkFolder) → HoldsNoNew f → HoldsNoNew (over Two TwoOld f)
  two_back f x = record { one = x.one; two = inl refl; one_old = x.one_old; two_old = over_two_old f.two f.two_old x.two x.two_old }

  each_back : (pair : Pair) → Each HoldsNoNew (back_renames pair)
  each_back Current = (one_back, (two_back, tt))
  each_back Mixed = (two_back, tt)
  each_back Old = tt

  one_old_falls : (f : WorkFolder) → AreOwn f → AreOwn (over OneOld OneErr f)
  one_old_falls f x = record { one = x.one; two = x.two; one_old = inr (inl refl); two_old = x.two_old }

  one_falls : (f : WorkFolder) → AreOwn f → AreOwn (over One OneErr f)
  one_falls f x = record { one = inl refl; two = x.two; one_old = x.one_old; two_old = x.two_old }

  two_old_falls : (f : WorkFolder) → AreOwn f → AreOwn (over TwoOld TwoErr f)
  two_old_falls f x = record { one = x.one; two = x.two; one_old = x.one_old; two_old = inr (inl refl) }

  two_falls : (f : WorkFolder) → AreOwn f → AreOwn (over Two TwoErr f)
  two_falls f x = record { one = x.one; two = inl refl; one_old = x.one_old; two_old = x.two_old }

  each_falls : Each AreOwn fall_renames
  each_falls = (one_old_falls, (one_falls, (two_old_falls, (two_falls, tt))))

  -- with the new listings
  record AreOwnWithNew (f : WorkFolder) : Type 0 where
    own : AreOwn f
    one_new : IsOne f.one_new
    two_new : IsTwo f.two_new

  one_switched : (f : WorkFolder) → AreOwnWithNew f → AreOwnWithNew (over OneNew One f)
  one_switched f x = record {
    own = record { one = over_one f.one_new f.one x.one_new x.own.one; two = x.own.two; one_old = x.own.one_old; two_old = x.own.two_old };
    one_new = inl refl;
    two_new = x.two_new;
  }

  two_switched : (f : WorkFolder) → AreOwnWithNew f → AreOwnWithNew (over TwoNew Two f)
  two_switched f x = record {
    own = record { one = x.own.one; two = over_two f.two_new f.two x.two_new x.own.two; one_old = x.own.one_old; two_old = x.own.two_old };
    one_new = x.one_new;
    two_new = inl refl;
  }

  each_switched : Each AreOwnWithNew switch_renames
  each_switched = (one_switched, (two_switched, tt))

  -- # The parts of a run

  pub own_same : HoldsOwn limit compare k k
  own_same = record { one = inr (inl refl); two = inr (inl refl); one_old = inl refl; two_old = inl refl }

  pub same_own : (f g : WorkFolder) → SameListings f g → HoldsOwn limit compare k f → HoldsOwn limit compare k g
  same_own f g same x = record {
    one = subst IsOne (sym same.one) x.one;
    two = subst IsTwo (sym same.two) x.two;
    one_old = subst IsOneOld (sym same.one_old) x.one_old;
    two_old = subst IsTwoOld (sym same.two_old) x.two_old;
  }

  pub written_own : (f g : WorkFolder) → but_new g ≡ but_new f → HoldsOwn limit compare k f → HoldsOwn limit compare k g
  written_own f g rest = same_own f g (new_same f g rest)

  pub locked_own : (f g : WorkFolder) → ChangesLock f g → HoldsOwn limit compare k f → HoldsOwn limit compare k g
  locked_own f g lock = same_own f g (same_listings f g lock)

  pub unchanged_own : (f : WorkFolder) → SameListings k f → HoldsOwn limit compare k f
  unchanged_own f same = no_new_own f (same_no_new f same)

  -- new listings written, and the set back begun
  pub back_own : (f g h : WorkFolder) (pair : Pair) → but_new g ≡ but_new f → AreBegun (back_renames pair) g h → SameListings k f → HoldsOwn limit compare k h
  back_own f g h pair rest begun same = no_new_own h (begun_keeps HoldsNoNew (back_renames pair) (each_back pair) g h begun (same_no_new g (same_twice k f g same (new_same f g rest))))

  pub fallen_own : (f g : WorkFolder) → AreBegun fall_renames f g → HoldsOwn limit compare k f → HoldsOwn limit compare k g
  fallen_own = begun_keeps AreOwn fall_renames each_falls

  -- new listings written, and the fall begun
  pub rewritten_own : (f g h : WorkFolder) → but_new g ≡ but_new f → AreBegun fall_renames g h → HoldsOwn limit compare k f → HoldsOwn limit compare k h
  rewritten_own f g h rest begun own = fallen_own g h begun (written_own f g rest own)

  pub stored_own : (f g : WorkFolder) → ChangesOnly FiltersMd5 f g → HoldsOwn limit compare k f → HoldsOwn limit compare k g
  stored_own f g others = same_own f g (digest_same f g others)

  pub unlocked_own : (f g : WorkFolder) → MayUnlock f g → HoldsOwn limit compare k f → HoldsOwn limit compare k g
  unlocked_own f g may = same_own f g (same_unlocked f g (unlocks f g may))

-- new listings written, the steps done, and the switch begun
pub switched_own : (limit : ℕ) (prepared : Prepared) (k f g h : WorkFolder) → IsNewStamp limit k prepared.stamp → IsReady limit f (next_base prepared) → ChangesLock f g → AreBegun switch_renames g h
    → HoldsOwn limit prepared.compare k f → HoldsOwn limit prepared.compare k h
switched_own limit prepared k f g h stamp is lock begun own =
    let ready = ready_past f g lock limit (next_base prepared) is in
    let new : AreOwnWithNew limit prepared.compare k g = record {
      own = locked_own limit prepared.compare k f g lock own;
      one_new = inr (inr (prepared.stamp, prepared.plan.final1, stamp, ready.one));
      two_new = inr (inr (prepared.stamp, prepared.plan.final2, stamp, ready.two));
    } in
    (begun_keeps (AreOwnWithNew limit prepared.compare k) switch_renames (each_switched limit prepared.compare k) g h begun new).own

-- # The run

same_listings_of : (f g : WorkFolder) → g ≡ f → SameListings f g
same_listings_of f g same = subst (SameListings f) (sym same) (record { one = refl; two = refl; one_old = refl; two_old = refl })

pub kept_own : (limits : Limits) (compare : Compare) (f g : WorkFolder) → g ≡ f → HoldsOwn limits.listing compare f g
kept_own limits compare f g same = subst (HoldsOwn limits.listing compare f) (sym same) (own_same limits.listing compare f)

pub ordinary_own : (opts : Opts) (limits : Limits) (compare : Compare) (digest : Option (List ℕ)) (f f2 : WorkFolder) (same : f2 ≡ f) (started : Started) (start : IsStartOf opts limits f digest started)
    (made : Look) (fields : made.compare ≡ compare) → limits.listing < 2 ^ 64 → AreWithin limits.listing (prepared_of started.stamp made) → (g : WorkFolder)
    → ((limit : ℕ) (base : Base) (k : WorkFolder) → IsPrepared limit f2 started.pair base (prepared_of started.stamp made) → IsNewStamp limit k started.stamp → SameListings k f2 → HoldsOwn limit made.compare k g)
    → HoldsOwn limits.listing compare f g
ordinary_own opts limits compare digest f f2 same started start made fields small fits g left =
    subst (λ (c : Compare). HoldsOwn limits.listing c f g) fields
    (left limits.listing start.base f (ready_to opts limits compare digest f f2 same started start made fields small fits) start.new (same_listings_of f f2 same))

pub resync_own : (limits : Limits) (compare : Compare) (f f2 : WorkFolder) → f2 ≡ f → (prepared : Prepared) → prepared.compare ≡ compare → IsNewStamp limits.listing f prepared.stamp → AreWithin limits.listing prepared → (g : WorkFolder)
    → ((limit : ℕ) (k : WorkFolder) → AreWithin limit prepared → IsNewStamp limit k prepared.stamp → HoldsOwn limit prepared.compare k f2 → HoldsOwn limit prepared.compare k g) → HoldsOwn limits.listing compare f g
resync_own limits compare f f2 same prepared fields new fits g left =
    subst (λ (c : Compare). HoldsOwn limits.listing c f g) fields (left limits.listing f fits new (kept_own limits prepared.compare f f2 same))

-- said of the folder before the lock was taken
module _ (limit : ℕ) (compare : Compare) (f f2 : WorkFolder) (lock : ChangesLock f f2) where
  first_before : (first first2 held : Held) → first2 ≡ first → IsFirst limit compare f2 first2 held → IsFirst limit compare f first held
  first_before first first2 held same (inl none) = inl none
  first_before first first2 held same (inr (inl was)) = inr (inl (was ∙ same))
  first_before first first2 held same (inr (inr new)) = inr (inr (new.0, new.1, stamp_before f f2 lock limit new.0 new.2, new.3))

  older_before : (first older first2 older2 held : Held) → first2 ≡ first → older2 ≡ older → IsOlder first2 older2 held → IsOlder first older held
  older_before first older first2 older2 held same1 same2 (inl was) = inl (was ∙ same2)
  older_before first older first2 older2 held same1 same2 (inr (inl none)) = inr (inl none)
  older_before first older first2 older2 held same1 same2 (inr (inr was)) = inr (inr (was ∙ same1))

  pub own_before : (g : WorkFolder) → HoldsOwn limit compare f2 g → HoldsOwn limit compare f g
  own_before g x =
      let same = same_listings f f2 lock in
      record {
        one = first_before f.one f2.one g.one same.one x.one;
        two = first_before f.two f2.two g.two same.two x.two;
        one_old = older_before f.one f.one_old f2.one f2.one_old g.one_old same.one same.one_old x.one_old;
        two_old = older_before f.two f.two_old f2.two f2.two_old g.two_old same.two same.two_old x.two_old;
      }

pub own_left : (limit : ℕ) (compare : Compare) (f g left : WorkFolder) → HoldsOwn limit compare f g → (IsSettled f → IsSettled g) → MayBeLeft f g left → HoldsOwn limit compare f left
own_left limit compare f g left own settled (inl same) = subst (HoldsOwn limit compare f) (sym same) own
own_left limit compare f g left own settled (inr image) = same_own limit compare f g left (same_image g left (settled image.0) image.1) own

-- # A fall that was done before

module _ (k : WorkFolder) where
  again_one_old : (f : WorkFolder) → IsFallen k f → IsFallen k (over OneOld OneErr f)
  again_one_old f x = record { one = x.one; two = x.two; one_old = refl; two_old = x.two_old; one_err = ap (λ (h : Held). moved_over h f.one_err) x.one_old ∙ x.one_err; two_err = x.two_err }

  again_one : (f : WorkFolder) → IsFallen k f → IsFallen k (over One OneErr f)
  again_one f x = record { one = refl; two = x.two; one_old = x.one_old; two_old = x.two_old; one_err = ap (λ (h : Held). moved_over h f.one_err) x.one ∙ x.one_err; two_err = x.two_err }

  again_two_old : (f : WorkFolder) → IsFallen k f → IsFallen k (over TwoOld TwoErr f)
  again_two_old f x = record { one = x.one; two = x.two; one_old = x.one_old; two_old = refl; one_err = x.one_err; two_err = ap (λ (h : Held). moved_over h f.two_err) x.two_old ∙ x.two_err }

  again_two : (f : WorkFolder) → IsFallen k f → IsFallen k (over Two TwoErr f)
  again_two f x = record { one = x.one; two = refl; one_old = x.one_old; two_old = x.two_old; one_err = x.one_err; two_err = ap (λ (h : Held). moved_over h f.two_err) x.two ∙ x.two_err }

  pub fallen_again : (f g : WorkFolder) → AreBegun fall_renames f g → IsFallen k f → IsFallen k g
  fallen_again f g begun is = begun_keeps (IsFallen k) fall_renames (again_one_old, (again_one, (again_two_old, (again_two, tt)))) f g begun is

-- # Names that have no listing

not_none : (bad : WorkName × ℕ) → None ≡ Some bad → ⊥
not_none bad e = cc

first_good : (limit : ℕ) (f : WorkFolder) (name : WorkName) (names : List WorkName) → IsFirstBad limit f (name ∷ names) None → IsGood limit (at f name) × IsFirstBad limit f names None
first_good limit f name names (inl bad) = absurd (not_none (name, bad.0) bad.1)
first_good limit f name names (inr good) = good

first_is_good : (limit : ℕ) (compare : Compare) (f : WorkFolder) (first held : Held) → IsGood limit first → IsFirst limit compare f first held → IsGood limit held
first_is_good limit compare f first held good (inl none) = inl none
first_is_good limit compare f first held good (inr (inl was)) = subst (IsGood limit) (sym was) good
first_is_good limit compare f first held good (inr (inr new)) = inr (_, new.1, new.3)

older_is_good : (limit : ℕ) (first older held : Held) → IsGood limit first → IsGood limit older → IsOlder first older held → IsGood limit held
older_is_good limit first older held good1 good2 (inl was) = subst (IsGood limit) (sym was) good2
older_is_good limit first older held good1 good2 (inr (inl none)) = inl none
older_is_good limit first older held good1 good2 (inr (inr was)) = subst (IsGood limit) (sym was) good1

-- where each name had a listing, or nothing, each has
pub own_names_are_good : (limit : ℕ) (compare : Compare) (f g : WorkFolder) → HoldsOwn limit compare f g → HasGoodNames limit f → HasGoodNames limit g
own_names_are_good limit compare f g own good =
    let one = first_good limit f One (Two ∷ OneOld ∷ TwoOld ∷ []) good in
    let two = first_good limit f Two (OneOld ∷ TwoOld ∷ []) one.1 in
    let one_old = first_good limit f OneOld (TwoOld ∷ []) two.1 in
    let two_old = first_good limit f TwoOld [] one_old.1 in
    inr (
      first_is_good limit compare f f.one g.one one.0 own.one,
      inr (
        first_is_good limit compare f f.two g.two two.0 own.two,
        inr (
          older_is_good limit f.one f.one_old g.one_old one.0 one_old.0 own.one_old,
          inr (older_is_good limit f.two f.two_old g.two_old two.0 two_old.0 own.two_old, refl),
        ),
      ),
    )
