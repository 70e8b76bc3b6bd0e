-- At most one refusal of a resync comes.
use Rattle.std.proofs.Common.{◌≡◌, ◌⊎◌, ◌≤◌, ◌<◌, ℕ, length, refl, sym, ◌∙◌, ap, subst, inl, inr, arith}
use Rattle.bisync_tree.specs.Rows.{Rows}
use Rattle.bisync_tree.specs.Tree.{Tree}
use Rattle.bisync_tree.specs.declared.sides.Side.{Side}
use Rattle.bisync_tree.specs.declared.sides.Side.TheVariants.{One, Two}
use Rattle.bisync_tree.specs.declared.options.Limits.{Limits}
use Rattle.bisync_tree.specs.declared.options.Prefer.{Prefer}
use Rattle.bisync_device.specs.WorkFolder.{WorkFolder}
use Rattle.bisync_model.specs.Entries.{Entries}
use Rattle.bisync_model.specs.Resync.{resync_entry}
use Rattle.bisync_listing.specs.Spelling.{listing_text}
use Rattle.bisync_listing.specs.declared.headers.Header.{Header}
use Rattle.bisync_observe.specs.Counting.{IsOver, AreOfTree}
use Rattle.bisync_plan.specs.Plans.{header_of}
use Rattle.bisync_plan.specs.Faults.{most, Fits, IsTooLong}
use Rattle.bisync_plan.specs.declared.faults.PlanFault.{PlanFault}
use Rattle.bisync_plan.specs.declared.faults.PlanFault.TheVariants as unplanned
use Rattle.bisync_plan.proofs.FaultLaws.{rows_same, resync_fault_same}
use Rattle.bisync_work.specs.Stamps.{IsNewStamp}
use Rattle.bisync_work.proofs.BaseLaws.{stamp_is_one}
use Rattle.bisync_report.specs.declared.ends.End.{End}
use Rattle.bisync_report.specs.declared.ends.End.TheVariants.{TooMany, ListingTooLong}
use Rattle.bisync_run.specs.Sides.{Sides, IsListable, resync_known}
use Rattle.bisync_run.specs.ResyncRefusals.{HasLongListing, IsResyncRefusal, HasNoResyncRefusal}

-- # Numbers of files

too_many : (files bytes most_files most_bytes count sum : ℕ) → files ≡ count → bytes ≡ sum → count ≤ most_files → sum ≤ most_bytes → (most_files < files) ⊎ (most_bytes < bytes) → ⊥
too_many files bytes most_files most_bytes count sum is is_sum few short over = omega arith

pub over_not_listable : (limits : Limits) (tree : Tree) (files bytes : ℕ) → IsOver limits files bytes → AreOfTree tree files bytes → IsListable limits tree → ⊥
over_not_listable limits tree files bytes over are within = too_many files bytes limits.files limits.names _ _ are.count are.sum within.few within.short over

pub many_same : (side : Side) (tree : Tree) (m n a b : ℕ) → AreOfTree tree m a → AreOfTree tree n b → TooMany side m a ≡ TooMany side n b
many_same side tree m n a b one two =
    let count : m ≡ n = one.count ∙ sym two.count in
    let sum : a ≡ b = one.sum ∙ sym two.sum in
    λ i. TooMany side (count i) (sum i)

-- # Lengths of listings

over_within : (m n most : ℕ) → m ≡ n → most < m → n ≤ most → ⊥
over_within m n most is over within = omega arith

pub long_not_fits : (entries : Entries) (header : Header) (limit : ℕ) (side : Side) (number : ℕ) → IsTooLong entries header limit side number → Fits entries header limit side → ⊥
long_not_fits entries header limit side number long fit =
    let same : long.size ≡ fit.size = long.text.size_is ∙ ap (λ (r : Rows). length (listing_text header r)) (rows_same entries side long.text.rows fit.text.rows long.text.are fit.text.are) ∙ sym fit.text.size_is in
    over_within long.size fit.size (most limit) same long.over fit.within

abbrev long_of : PlanFault → End
long_of (unplanned.TooLong side path) = TooMany side 0 0
long_of (unplanned.ListingTooLong side bytes) = ListingTooLong side bytes
long_of (unplanned.OutOfSync path one two) = TooMany One 0 0
long_of unplanned.OutOfMemory = TooMany One 0 0

long_same : (mode : Prefer) (limits : Limits) (f : WorkFolder) (s : Sides) (side other : Side) (m n : ℕ) → HasLongListing mode limits f s side m → HasLongListing mode limits f s other n
    → ListingTooLong side m ≡ ListingTooLong other n
long_same mode limits f s side other m n a b =
    let long = subst (λ (x : ℕ). IsTooLong (resync_entry (resync_known mode s)) (header_of x s.compare) limits.listing other n) (stamp_is_one limits.listing f b.stamp a.stamp b.new a.new) b.long in
    ap long_of (resync_fault_same (resync_known mode s) (header_of a.stamp s.compare) limits.listing (unplanned.ListingTooLong side m) (unplanned.ListingTooLong other n) a.long long (λ e. cc) (λ e. cc))

-- # Refusals

-- which of the refusals it is
abbrev Kinds : Prefer → Limits → WorkFolder → Sides → End → Type 0
Kinds mode limits f s e =
    ((files : ℕ) × (bytes : ℕ) × (e ≡ TooMany One files bytes) × IsOver limits files bytes × AreOfTree s.one files bytes)
    ⊎ (((files : ℕ) × (bytes : ℕ) × (e ≡ TooMany Two files bytes) × IsListable limits s.one × IsOver limits files bytes × AreOfTree s.two files bytes)
    ⊎ ((side : Side) × (bytes : ℕ) × (e ≡ ListingTooLong side bytes) × HasLongListing mode limits f s side bytes))

module _ (mode : Prefer) (limits : Limits) (f : WorkFolder) (s : Sides) where
  kinds : (e : End) → IsResyncRefusal mode limits f s e → Kinds mode limits f s e
  kinds (TooMany One files bytes) h = inl (files, bytes, refl, h.0, h.1)
  kinds (TooMany Two files bytes) h = inr (inl (files, bytes, refl, h.0, h.1, h.2))
  kinds (ListingTooLong side bytes) h = inr (inr (side, bytes, refl, h))
  kinds e h = absurd h

  same_of : (a b : End) → Kinds mode limits f s a → Kinds mode limits f s b → a ≡ b
  same_of a b (inl x) (inl y) = x.2 ∙ many_same One s.one x.0 y.0 x.1 y.1 x.4 y.4 ∙ sym y.2
  same_of a b (inl x) (inr (inl y)) = absurd (over_not_listable limits s.one x.0 x.1 x.3 x.4 y.3)
  same_of a b (inl x) (inr (inr y)) = absurd (over_not_listable limits s.one x.0 x.1 x.3 x.4 y.3.one)
  same_of a b (inr (inl x)) (inl y) = absurd (over_not_listable limits s.one y.0 y.1 y.3 y.4 x.3)
  same_of a b (inr (inl x)) (inr (inl y)) = x.2 ∙ many_same Two s.two x.0 y.0 x.1 y.1 x.5 y.5 ∙ sym y.2
  same_of a b (inr (inl x)) (inr (inr y)) = absurd (over_not_listable limits s.two x.0 x.1 x.4 x.5 y.3.two)
  same_of a b (inr (inr x)) (inl y) = absurd (over_not_listable limits s.one y.0 y.1 y.3 y.4 x.3.one)
  same_of a b (inr (inr x)) (inr (inl y)) = absurd (over_not_listable limits s.two y.0 y.1 y.4 y.5 x.3.two)
  same_of a b (inr (inr x)) (inr (inr y)) = x.2 ∙ long_same mode limits f s x.0 y.0 x.1 y.1 x.3 y.3 ∙ sym y.2

  pub refusals_same : (a b : End) → IsResyncRefusal mode limits f s a → IsResyncRefusal mode limits f s b → a ≡ b
  refusals_same a b h k = same_of a b (kinds a h) (kinds b k)

  fits_at : (stamp : ℕ) (side : Side) → HasNoResyncRefusal mode limits f s → IsNewStamp limits.listing f stamp → Fits (resync_entry (resync_known mode s)) (header_of stamp s.compare) limits.listing side
  fits_at stamp One none new = subst (λ (x : ℕ). Fits (resync_entry (resync_known mode s)) (header_of x s.compare) limits.listing One) (stamp_is_one limits.listing f none.stamp stamp none.new new) none.fits1
  fits_at stamp Two none new = subst (λ (x : ℕ). Fits (resync_entry (resync_known mode s)) (header_of x s.compare) limits.listing Two) (stamp_is_one limits.listing f none.stamp stamp none.new new) none.fits2

  none_of : (e : End) → Kinds mode limits f s e → HasNoResyncRefusal mode limits f s → ⊥
  none_of e (inl x) none = over_not_listable limits s.one x.0 x.1 x.3 x.4 none.one
  none_of e (inr (inl x)) none = over_not_listable limits s.two x.0 x.1 x.4 x.5 none.two
  none_of e (inr (inr x)) none = long_not_fits _ _ limits.listing x.0 x.1 x.3.long (fits_at x.3.stamp x.0 none x.3.new)

  pub none_refused : (e : End) → IsResyncRefusal mode limits f s e → HasNoResyncRefusal mode limits f s → ⊥
  none_refused e h none = none_of e (kinds e h) none
