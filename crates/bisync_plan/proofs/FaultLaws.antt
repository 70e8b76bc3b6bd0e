-- At most one fault of a run holds, and none where there is a plan.
use Rattle.std.proofs.Common.{◌≡◌, ◌≢◌, ℕ, ◌≤◌, ◌<◌, Bool, true, false, IsTrue, List, length, refl, sym, ◌∙◌, ap, subst, arith, Option}
use Rattle.std.specs.declared.cmp.Ordering.{Ordering}
use Rattle.std.specs.declared.cmp.Ordering.TheVariants.{Less, Equal, Greater}
use Rattle.bisync_tree.specs.Rows.{PathBytes, Rows, look}
use Rattle.bisync_tree.specs.Same.{same, Agree}
use Rattle.bisync_tree.specs.declared.sides.Side.{Side}
use Rattle.bisync_tree.specs.declared.sides.Side.TheVariants.{One, Two}
use Rattle.bisync_tree.specs.declared.entries.Entry.{Entry}
use Rattle.bisync_tree.specs.declared.entries.Compare.{Compare}
use Rattle.bisync_tree.specs.declared.steps.Given.{Given}
use Rattle.bisync_tree.proofs.PathOrder.{order, order_same, order_back}
use Rattle.bisync_tree.proofs.LookLemmas.{same_rows}
use Rattle.bisync_model.specs.Entries.{Entries}
use Rattle.bisync_model.specs.Known.{Known}
use Rattle.bisync_model.specs.Names.{AreNames, AreNotNames}
use Rattle.bisync_model.specs.Finals.{final_entry}
use Rattle.bisync_model.specs.Plan.{plan}
use Rattle.bisync_model.specs.Resync.{resync_entry}
use Rattle.bisync_model.proofs.NamesUnique.{names_unique}
use Rattle.bisync_model.proofs.NamesTooLong.{no_names, one_refused}
use Rattle.bisync_listing.specs.Spelling.{listing_text}
use Rattle.bisync_listing.specs.declared.headers.Header.{Header}
use Rattle.bisync_plan.specs.Plans.{AreRowsOf, HasFinals, IsPlanOf, IsResyncOf}
use Rattle.bisync_plan.specs.Faults.{most, HasLength, Fits, IsTooLong, IsFirstApart, IsApartAt, IsListingTooLong, IsOutOfSync, IsFaultOf, IsResyncFault}
use Rattle.bisync_plan.specs.declared.plans.Plan.{Plan}
use Rattle.bisync_plan.specs.declared.faults.PlanFault.{PlanFault}
use Rattle.bisync_plan.specs.declared.faults.PlanFault.TheVariants.{TooLong, ListingTooLong, OutOfSync, OutOfMemory}

pub rows_same : (entries : Entries) (side : Side) (rows others : Rows) → AreRowsOf entries side rows → AreRowsOf entries side others → rows ≡ others
rows_same entries side rows others a b = same_rows rows others a.rising b.rising (λ p. a.looks p ∙ sym (b.looks p))

length_same : (entries : Entries) (header : Header) (side : Side) (m n : ℕ) → HasLength entries header side m → HasLength entries header side n → m ≡ n
length_same entries header side m n a b = a.size_is ∙ ap (λ rows. length (listing_text header rows)) (rows_same entries side a.rows b.rows a.are b.are) ∙ sym b.size_is

not_within : (m n most : ℕ) → m ≡ n → n ≤ most → most < m → ⊥
not_within m n most e h k = omega arith

-- a listing that fits isn't too long
fits_not : (entries : Entries) (header : Header) (limit : ℕ) (side : Side) (size : ℕ) → Fits entries header limit side → HasLength entries header side size → most limit < size → ⊥
fits_not entries header limit side size f h over = not_within size f.size (most limit) (length_same entries header side size f.size h f.text) f.within over

both_fit : (entries : Entries) (header : Header) (limit : ℕ) (side : Side) (n : ℕ) → Fits entries header limit One → Fits entries header limit Two → IsTooLong entries header limit side n → ⊥
both_fit entries header limit One n one two h = fits_not entries header limit One h.size one h.text h.over
both_fit entries header limit Two n one two h = fits_not entries header limit Two h.size two h.text h.over

number_same : (entries : Entries) (header : Header) (limit : ℕ) (side : Side) (m n : ℕ) → IsTooLong entries header limit side m → IsTooLong entries header limit side n → m ≡ n
number_same entries header limit side m n a b =
    let same : a.size ≡ b.size = length_same entries header side a.size b.size a.text b.text in
    let a_is = a.number_is in let b_is = b.number_is in omega arith

long_same : (entries : Entries) (header : Header) (limit : ℕ) (s t : Side) (m n : ℕ) → IsTooLong entries header limit s m → IsTooLong entries header limit t n → ListingTooLong s m ≡ ListingTooLong t n
long_same entries header limit One One m n a b = ap (ListingTooLong One) (number_same entries header limit One m n a b)
long_same entries header limit Two Two m n a b = ap (ListingTooLong Two) (number_same entries header limit Two m n a b)
long_same entries header limit One Two m n a b = absurd (fits_not entries header limit One a.size b.before a.text a.over)
long_same entries header limit Two One m n a b = absurd (fits_not entries header limit One b.size a.before b.text b.over)

differ : (c : Compare) (a b x y : Option Entry) → a ≡ x → b ≡ y → same c x y ≡ false → same c a b ≡ true → ⊥
differ c a b x y e f h k = let wrong : true ≡ false = sym k ∙ (λ i. same c (e i) (f i)) ∙ h in cc

apart_same : (c : Compare) (entries : Entries) (p q : PathBytes) (a b x y : Option Entry) → IsFirstApart c entries p a b → IsFirstApart c entries q x y → OutOfSync p a b ≡ OutOfSync q x y
apart_same c entries p q a b x y f g = go (order p q) refl
  where
    go : (o : Ordering) → order p q ≡ o → OutOfSync p a b ≡ OutOfSync q x y
    go Less e = absurd (differ c (entries One p) (entries Two p) a b f.one_is f.two_is f.differ (g.first p e))
    go Greater e = absurd (differ c (entries One q) (entries Two q) x y g.one_is g.two_is g.differ (f.first q (order_back p q e)))
    go Equal e =
        let is : p ≡ q = order_same p q e in
        let one : a ≡ x = sym f.one_is ∙ ap (entries One) is ∙ g.one_is in
        let two : b ≡ y = sym f.two_is ∙ ap (entries Two) is ∙ g.two_is in
        λ i. OutOfSync (is i) (one i) (two i)

module _ (known : Known) (paths : List PathBytes) where
  same_names : (names others : List Given) → AreNames known paths names → AreNames known paths others → names ≡ others
  same_names names others a b = names_unique known _ _ names others a b

  pub steps_same : (made other : Plan) → IsPlanOf known paths made → IsPlanOf known paths other → made.steps.items ≡ other.steps.items
  steps_same made other a b = a.steps ∙ ap (λ ns. plan known ns paths) (same_names a.names b.names a.are b.are) ∙ sym b.steps

  -- the same finals, by one list of names
  moved_finals : (made other : Plan) (a : IsPlanOf known paths made) → IsPlanOf known paths other → HasFinals (final_entry known a.names) other
  moved_finals made other a b = subst (λ ns. HasFinals (final_entry known ns) other) (same_names b.names a.names b.are a.are) b.finals

  pub final1_same : (made other : Plan) → IsPlanOf known paths made → IsPlanOf known paths other → made.final1 ≡ other.final1
  final1_same made other a b = rows_same (final_entry known a.names) One made.final1 other.final1 a.finals.one (moved_finals made other a b).one

  pub final2_same : (made other : Plan) → IsPlanOf known paths made → IsPlanOf known paths other → made.final2 ≡ other.final2
  final2_same made other a b = rows_same (final_entry known a.names) Two made.final2 other.final2 a.finals.two (moved_finals made other a b).two

  module _ (header : Header) (limit : ℕ) (check : Bool) where
    refused_same : (s t : Side) (p q : PathBytes) → AreNotNames known paths s p → AreNotNames known paths t q → TooLong s p ≡ TooLong t q
    refused_same s t p q a b = let h = one_refused known paths paths s t p q refl a b in λ i. TooLong (h.1 i) (h.0 i)

    long_by : (names : List Given) → AreNames known paths names → (s : Side) (n : ℕ) → IsListingTooLong known paths header limit s n → IsTooLong (final_entry known names) header limit s n
    long_by names are s n h = subst (λ ns. IsTooLong (final_entry known ns) header limit s n) (same_names h.names names h.are are) h.long

    apart_by : (names : List Given) → AreNames known paths names → (p : PathBytes) (a b : Option Entry) → IsOutOfSync known paths header limit p a b → IsApartAt known.policy.compare (final_entry known names) header limit p a b
    apart_by names are p a b h = subst (λ ns. IsApartAt known.policy.compare (final_entry known ns) header limit p a b) (same_names h.names names h.are are) h.apart

    clash : (s : Side) (n : ℕ) (p : PathBytes) (a b : Option Entry) → IsListingTooLong known paths header limit s n → IsOutOfSync known paths header limit p a b → ⊥
    clash s n p a b h k = let apart = apart_by h.names h.are p a b k in both_fit (final_entry known h.names) header limit s n apart.fits1 apart.fits2 h.long

    pub fault_same : (f g : PlanFault) → IsFaultOf known paths header limit check f → IsFaultOf known paths header limit check g → f ≢ OutOfMemory → g ≢ OutOfMemory → f ≡ g
    fault_same OutOfMemory g a b e h = absurd (e refl)
    fault_same (TooLong s p) OutOfMemory a b e h = absurd (h refl)
    fault_same (ListingTooLong s n) OutOfMemory a b e h = absurd (h refl)
    fault_same (OutOfSync p x y) OutOfMemory a b e h = absurd (h refl)
    fault_same (TooLong s p) (TooLong t q) a b e h = refused_same s t p q a b
    fault_same (TooLong s p) (ListingTooLong t n) a b e h = absurd (no_names known paths s p a b.names b.are)
    fault_same (TooLong s p) (OutOfSync q x y) a b e h = absurd (no_names known paths s p a b.1.names b.1.are)
    fault_same (ListingTooLong s n) (TooLong t q) a b e h = absurd (no_names known paths t q b a.names a.are)
    fault_same (OutOfSync p x y) (TooLong t q) a b e h = absurd (no_names known paths t q b a.1.names a.1.are)
    fault_same (ListingTooLong s m) (ListingTooLong t n) a b e h = long_same (final_entry known a.names) header limit s t m n a.long (long_by a.names a.are t n b)
    fault_same (ListingTooLong s m) (OutOfSync q x y) a b e h = absurd (clash s m q x y a b.1)
    fault_same (OutOfSync p x y) (ListingTooLong t n) a b e h = absurd (clash t n p x y b a.1)
    fault_same (OutOfSync p x y) (OutOfSync q v w) a b e h =
        apart_same known.policy.compare (final_entry known a.1.names) p q x y v w a.1.apart.apart (apart_by a.1.names a.1.are q v w b.1).apart

    own_fits : (entries : Entries) (side : Side) (rows : Rows) → AreRowsOf entries side rows → length (listing_text header rows) ≤ most limit → Fits entries header limit side
    own_fits entries side rows are within = record { size = _; text = record { rows = rows; are = are; size_is = refl }; within = within }

    pub no_fault : (made : Plan) → IsPlanOf known paths made → length (listing_text header made.final1) ≤ most limit → length (listing_text header made.final2) ≤ most limit
        → (IsTrue check → Agree known.policy.compare (look made.final1) (look made.final2))
        → (fault : PlanFault) → IsFaultOf known paths header limit check fault → fault ≡ OutOfMemory
    no_fault made plan one two agree OutOfMemory h = refl
    no_fault made plan one two agree (TooLong s p) h = absurd (no_names known paths s p h plan.names plan.are)
    no_fault made plan one two agree (ListingTooLong s n) h =
        absurd (both_fit (final_entry known plan.names) header limit s n (own_fits _ One made.final1 plan.finals.one one) (own_fits _ Two made.final2 plan.finals.two two) (long_by plan.names plan.are s n h))
    no_fault made plan one two agree (OutOfSync p a b) h =
        let apart = (apart_by plan.names plan.are p a b h.1).apart in
        absurd (differ known.policy.compare (look made.final1 p) (look made.final2 p) a b (plan.finals.one.looks p ∙ apart.one_is) (plan.finals.two.looks p ∙ apart.two_is) apart.differ (agree h.0 p))

    pub no_resync_fault : (made : Plan) → IsResyncOf known paths made → length (listing_text header made.final1) ≤ most limit → length (listing_text header made.final2) ≤ most limit
        → (fault : PlanFault) → IsResyncFault known header limit fault → fault ≡ OutOfMemory
    no_resync_fault made plan one two OutOfMemory h = refl
    no_resync_fault made plan one two (TooLong s p) h = absurd h
    no_resync_fault made plan one two (OutOfSync p a b) h = absurd h
    no_resync_fault made plan one two (ListingTooLong s n) h =
        absurd (both_fit (resync_entry known) header limit s n (own_fits _ One made.final1 plan.finals.one one) (own_fits _ Two made.final2 plan.finals.two two) h)

pub resync_fault_same : (known : Known) (header : Header) (limit : ℕ) (f g : PlanFault) → IsResyncFault known header limit f → IsResyncFault known header limit g → f ≢ OutOfMemory → g ≢ OutOfMemory → f ≡ g
resync_fault_same known header limit OutOfMemory g a b e h = absurd (e refl)
resync_fault_same known header limit (TooLong s p) g a b e h = absurd a
resync_fault_same known header limit (OutOfSync p x y) g a b e h = absurd a
resync_fault_same known header limit (ListingTooLong s n) OutOfMemory a b e h = absurd (h refl)
resync_fault_same known header limit (ListingTooLong s n) (TooLong t q) a b e h = absurd b
resync_fault_same known header limit (ListingTooLong s n) (OutOfSync q x y) a b e h = absurd b
resync_fault_same known header limit (ListingTooLong s m) (ListingTooLong t n) a b e h = long_same (resync_entry known) header limit s t m n a b
