-- What marks of names say of their stamps.
use Rattle.std.proofs.Common.{◌≡◌, ◌⊎◌, ◌==◌, ◌||◌, ◌<◌, ◌^◌, ℕ, Bool, true, false, refl, sym, ◌∙◌, ap, subst, inl, inr, arith, eq-eqb}
use Rattle.std.proofs.lemmas.Bool.Decides.{nat_tests}
use Rattle.bisync_tree.specs.Rows.{Rows}
use Rattle.bisync_listing.specs.declared.headers.Header.{Header}
use Rattle.bisync_listing.specs.ListingText.{IsListingText}
use Rattle.bisync_device.specs.WorkFolder.{Held, Absent, WorkFolder}
use Rattle.bisync_work.specs.Base.{HasListing}
use Rattle.bisync_work.specs.Stamps.{HasStamp, LacksStamp, IsUsed, IsUnused}
use Rattle.bisync_work.specs.BadNames.{IsBad}
use Rattle.bisync_work.specs.Standing.{IsMark, AreMarks, is_stamp, has_stamp}
use Rattle.bisync_work.specs.declared.stamps.Mark.{Mark}
use Rattle.bisync_work.specs.declared.stamps.Mark.TheVariants as mark
use Rattle.bisync_work.specs.declared.stamps.Marks.{Marks}
use Rattle.bisync_work.proofs.PairLaws.{no_listing, one_listing, same_bytes}

eqb_true : (m n : ℕ) → (m == n) ≡ true → m ≡ n
eqb_true m n e = grind (arith, nat_tests)

true_false : (b : Bool) → b ≡ true → b ≡ false → ⊥
true_false b t f = cc

-- a bad name has no listing
pub bad_no_listing : (limit line : ℕ) (held : Held) → IsBad limit held line → (header : Header) (rows : Rows) → HasListing limit held header rows → ⊥
bad_no_listing limit line held bad header rows l =
    let same = same_bytes l.bytes bad.bytes (sym l.there ∙ bad.there) in
    bad.first.no_listing header rows (subst (IsListingText limit header rows) same l.listing)

absent_no_listing : (limit : ℕ) (held : Held) → held ≡ Absent → (header : Header) (rows : Rows) → HasListing limit held header rows → ⊥
absent_no_listing limit held gone header rows l = no_listing limit header rows (subst (λ (h : Held). HasListing limit h header rows) gone l)

stamp_used : (limit n : ℕ) (held : Held) (m : Mark) → IsMark limit held m → is_stamp n m ≡ true → HasStamp limit held n
stamp_used limit n held mark.Absent is e = absurd cc
stamp_used limit n held (mark.Stamp stamp) is e = (is.0, is.1, is.2, is.3 ∙ eqb_true stamp n e)
stamp_used limit n held (mark.Bad line) is e = absurd cc

stamp_unused : (limit n : ℕ) (held : Held) (m : Mark) → limit < 2 ^ 64 → IsMark limit held m → is_stamp n m ≡ false → LacksStamp limit held n
stamp_unused limit n held mark.Absent small is e = λ header rows l. absurd (absent_no_listing limit held is header rows l)
stamp_unused limit n held (mark.Stamp stamp) small is e = λ header rows l same.
    let one = one_listing limit limit held header is.0 rows is.1 small small l is.2 in
    let eq : stamp ≡ n = sym is.3 ∙ sym (ap (λ (h : Header). h.stamp) one.0) ∙ same in
    true_false (stamp == n) (eq-eqb stamp n eq) e
stamp_unused limit n held (mark.Bad line) small is e = λ header rows l. absurd (bad_no_listing limit line held is header rows l)

or_cases : (a b : Bool) → (a || b) ≡ true → (a ≡ true) ⊎ (b ≡ true)
or_cases true b e = inl refl
or_cases false b e = inr e

or_left : (a b : Bool) → (a || b) ≡ false → a ≡ false
or_left true b e = e
or_left false b e = refl

or_right : (a b : Bool) → (a || b) ≡ false → b ≡ false
or_right true b e = absurd cc
or_right false b e = e

module _ (limit n : ℕ) (f : WorkFolder) (marks : Marks) (are : AreMarks limit f marks) where
  old_used : (is_stamp n marks.one_old || is_stamp n marks.two_old) ≡ true → HasStamp limit f.one_old n ⊎ HasStamp limit f.two_old n
  old_used e = elim (or_cases (is_stamp n marks.one_old) (is_stamp n marks.two_old) e) [
    | inl a ↦ inl (stamp_used limit n f.one_old marks.one_old are.one_old a)
    | inr b ↦ inr (stamp_used limit n f.two_old marks.two_old are.two_old b)
  ]

  later_used : (is_stamp n marks.two || (is_stamp n marks.one_old || is_stamp n marks.two_old)) ≡ true → HasStamp limit f.two n ⊎ (HasStamp limit f.one_old n ⊎ HasStamp limit f.two_old n)
  later_used e = elim (or_cases (is_stamp n marks.two) (is_stamp n marks.one_old || is_stamp n marks.two_old) e) [
    | inl a ↦ inl (stamp_used limit n f.two marks.two are.two a)
    | inr b ↦ inr (old_used b)
  ]

  pub marked_used : has_stamp n marks ≡ true → IsUsed limit f n
  marked_used e = elim (or_cases (is_stamp n marks.one) (is_stamp n marks.two || (is_stamp n marks.one_old || is_stamp n marks.two_old)) e) [
    | inl a ↦ inl (stamp_used limit n f.one marks.one are.one a)
    | inr b ↦ inr (later_used b)
  ]

  pub marked_unused : limit < 2 ^ 64 → has_stamp n marks ≡ false → IsUnused limit f n
  marked_unused small e =
      let one = or_left (is_stamp n marks.one) (is_stamp n marks.two || (is_stamp n marks.one_old || is_stamp n marks.two_old)) e in
      let after = or_right (is_stamp n marks.one) (is_stamp n marks.two || (is_stamp n marks.one_old || is_stamp n marks.two_old)) e in
      let two = or_left (is_stamp n marks.two) (is_stamp n marks.one_old || is_stamp n marks.two_old) after in
      let old = or_right (is_stamp n marks.two) (is_stamp n marks.one_old || is_stamp n marks.two_old) after in
      record {
        one = stamp_unused limit n f.one marks.one small are.one one;
        two = stamp_unused limit n f.two marks.two small are.two two;
        one_old = stamp_unused limit n f.one_old marks.one_old small are.one_old (or_left (is_stamp n marks.one_old) (is_stamp n marks.two_old) old);
        two_old = stamp_unused limit n f.two_old marks.two_old small are.two_old (or_right (is_stamp n marks.one_old) (is_stamp n marks.two_old) old);
      }
