-- Four names leave one of five stamps unused.
use Rattle.std.proofs.Common.{◌≡◌, ◌≢◌, ◌⊎◌, ◌==◌, ◌||◌, ◌+◌, ◌<◌, ◌≤◌, ◌^◌, ℕ, Bool, true, false, List, [], ◌∷◌, length, refl, sym, ◌∙◌, inl, inr, ⊎_elim, arith}
use Rattle.std.proofs.lemmas.Bool.Decides.{nat_tests}
use Rattle.bisync_device.specs.WorkFolder.{WorkFolder}
use Rattle.bisync_work.specs.Stamps.{IsNewStamp}
use Rattle.bisync_work.specs.Standing.{AreMarks, is_stamp, has_stamp}
use Rattle.bisync_work.specs.declared.stamps.Mark.{Mark}
use Rattle.bisync_work.specs.declared.stamps.Mark.TheVariants as mark
use Rattle.bisync_work.specs.declared.stamps.Marks.{Marks}
use Rattle.bisync_work.proofs.MarkLaws.{marked_used, marked_unused}

IsIn : ℕ → List ℕ → Type 0
IsIn n [] = ⊥
IsIn n (x ∷ xs) = (x ≡ n) ⊎ IsIn n xs

-- the list without one of its numbers
record Without (n : ℕ) (xs : List ℕ) : Type 0 where
  rest : List ℕ
  shorter : length xs ≡ length rest + 1
  others : (m : ℕ) → m ≢ n → IsIn m xs → IsIn m rest

without : (n : ℕ) (xs : List ℕ) → IsIn n xs → Without n xs
unfolding IsIn
without n [] is = absurd is
without n (x ∷ xs) (inl e) = record { rest = xs; shorter = omega arith; others = λ m ne. ⊎_elim (λ same. absurd (ne (sym same ∙ e))) (λ later. later) }
without n (x ∷ xs) (inr is) =
    let w = without n xs is in
    record { rest = x ∷ w.rest; shorter = omega (arith, w.shorter); others = λ m ne. ⊎_elim (λ same. inl same) (λ later. inr (w.others m ne later)) }

some_short : (n : ℕ) (xs : List ℕ) → IsIn n xs → 0 < length xs
unfolding IsIn
some_short n [] is = absurd is
some_short n (x ∷ xs) is = omega arith

not_five : (xs : List ℕ) → length xs ≡ 4 → IsIn 1 xs → IsIn 2 xs → IsIn 3 xs → IsIn 4 xs → IsIn 5 xs → ⊥
not_five xs four a b c d e =
    let p = without 1 xs a in
    let b1 = p.others 2 (omega arith) b in
    let c1 = p.others 3 (omega arith) c in
    let d1 = p.others 4 (omega arith) d in
    let e1 = p.others 5 (omega arith) e in
    let q = without 2 p.rest b1 in
    let c2 = q.others 3 (omega arith) c1 in
    let d2 = q.others 4 (omega arith) d1 in
    let e2 = q.others 5 (omega arith) e1 in
    let r = without 3 q.rest c2 in
    let d3 = r.others 4 (omega arith) d2 in
    let e3 = r.others 5 (omega arith) e2 in
    let s = without 4 r.rest d3 in
    let e4 = s.others 5 (omega arith) e3 in
    let some = some_short 5 s.rest e4 in
    omega (arith, four, p.shorter, q.shorter, r.shorter, s.shorter, some)

-- the stamp of a mark, or 0
value : Mark → ℕ
value mark.Absent = 0
value (mark.Stamp stamp) = stamp
value (mark.Bad line) = 0

values : Marks → List ℕ
values marks = value marks.one ∷ value marks.two ∷ value marks.one_old ∷ value marks.two_old ∷ []

eqb_true : (m n : ℕ) → (m == n) ≡ true → m ≡ n
eqb_true m n e = grind (arith, nat_tests)

is_value : (n : ℕ) (m : Mark) → is_stamp n m ≡ true → value m ≡ n
unfolding value
is_value n mark.Absent e = absurd cc
is_value n (mark.Stamp stamp) e = eqb_true stamp n e
is_value n (mark.Bad line) e = absurd cc

or_in : (n v : ℕ) (vs : List ℕ) (a b : Bool) → (a ≡ true → v ≡ n) → (b ≡ true → IsIn n vs) → (a || b) ≡ true → IsIn n (v ∷ vs)
unfolding IsIn
or_in n v vs true b here later e = inl (here refl)
or_in n v vs false b here later e = inr (later e)

last_in : (n v : ℕ) (a : Bool) → (a ≡ true → v ≡ n) → a ≡ true → IsIn n (v ∷ [])
unfolding IsIn
last_in n v a here e = inl (here e)

in_values : (n : ℕ) (marks : Marks) → has_stamp n marks ≡ true → IsIn n (values marks)
unfolding values
in_values n marks e =
    or_in n (value marks.one) (value marks.two ∷ value marks.one_old ∷ value marks.two_old ∷ []) (is_stamp n marks.one) (is_stamp n marks.two || (is_stamp n marks.one_old || is_stamp n marks.two_old)) (is_value n marks.one) (λ e2.
    or_in n (value marks.two) (value marks.one_old ∷ value marks.two_old ∷ []) (is_stamp n marks.two) (is_stamp n marks.one_old || is_stamp n marks.two_old) (is_value n marks.two) (λ e3.
    or_in n (value marks.one_old) (value marks.two_old ∷ []) (is_stamp n marks.one_old) (is_stamp n marks.two_old) (is_value n marks.one_old) (last_in n (value marks.two_old) (is_stamp n marks.two_old) (is_value n marks.two_old)) e3) e2) e

four_values : (marks : Marks) → length (values marks) ≡ 4
unfolding values
four_values marks = refl

bool_cases : (b : Bool) → (b ≡ true) ⊎ (b ≡ false)
bool_cases true = inl refl
bool_cases false = inr refl

-- where 1 to 4 are all used, 5 is not
pub five_unused : (marks : Marks) → ((m : ℕ) → 1 ≤ m → m < 5 → has_stamp m marks ≡ true) → has_stamp 5 marks ≡ false
five_unused marks all =
    elim (bool_cases (has_stamp 5 marks)) [
      | inl five ↦ absurd (not_five (values marks) (four_values marks)
          (in_values 1 marks (all 1 (omega arith) (omega arith))) (in_values 2 marks (all 2 (omega arith) (omega arith)))
          (in_values 3 marks (all 3 (omega arith) (omega arith))) (in_values 4 marks (all 4 (omega arith) (omega arith))) (in_values 5 marks five))
      | inr none ↦ none
    ]

-- the least stamp that no mark has is the new one
pub least_is_new : (limit n : ℕ) (f : WorkFolder) (marks : Marks) → limit < 2 ^ 64 → AreMarks limit f marks → 1 ≤ n → has_stamp n marks ≡ false → ((m : ℕ) → 1 ≤ m → m < n → has_stamp m marks ≡ true) → IsNewStamp limit f n
least_is_new limit n f marks small are low none below = record {
  low = low;
  unused = marked_unused limit n f marks are small none;
  least = λ m at_least less. marked_used limit m f marks are (below m at_least less);
}
