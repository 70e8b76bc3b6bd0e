-- The fields that are read spell the text, and the text of fields is read as them.
use Rattle.std.proofs.Common.{◌≡◌, ℕ, ◌^◌, ◌<◌, List, [], ◌∷◌, ◌++◌, Option, Some, None, refl, sym, ap, subst, ◌∙◌, append_assoc, arith}
use Rattle.bisync_text.specs.declared.civil_times.CivilTime.{CivilTime}
use Rattle.bisync_text.specs.Digits.{◌>>=◌, padded, number_at, byte_at}
use Rattle.bisync_text.specs.Time.{IsCivil, IsTimeText, civil_text, moment_of}
use Rattle.bisync_text.specs.TimeFields.{FitsDigits, fields_at}
use Rattle.std.proofs.Common.{ℤ, pos}
use Rattle.std.proofs.lemmas.List.{append-nil}
use Rattle.jiff_core.proofs.CalendarLemmas.{days_in_month_bounds}
use Rattle.bisync_text.proofs.DigitLaws.{some_is, bind_some, number_takes, number_again, byte_takes, byte_again}

-- one step of a reader that did not fail, with names for what it read
number_then : {B G : Type 0} (k : ℕ) (bytes : List ℕ) (f : ℕ × List ℕ → Option B) (y : B) → (number_at k bytes >>= f) ≡ Some y
    → ((n : ℕ) (rest : List ℕ) → bytes ≡ padded k n ++ rest → n < 10 ^ k → f (n, rest) ≡ Some y → G) → G
number_then k bytes f y e go =
    let s = bind_some (number_at k bytes) f y e in
    let t = number_takes k bytes s.0 s.1 in
    go s.0.0 s.0.1 t.0 t.1 s.2

byte_then : {B G : Type 0} (b : ℕ) (bytes : List ℕ) (f : List ℕ → Option B) (y : B) → (byte_at b bytes >>= f) ≡ Some y
    → ((rest : List ℕ) → bytes ≡ b ∷ rest → f rest ≡ Some y → G) → G
byte_then b bytes f y e go =
    let s = bind_some (byte_at b bytes) f y e in
    go s.0 (byte_takes b bytes s.0 s.1) s.2

-- each field and what follows it make the whole
glue : (c : CivilTime) (bytes r0 r1 r2 r3 r4 r5 r6 r7 r8 r9 r10 r11 r12 r13 r14 r15 r16 r17 : List ℕ) → bytes ≡ padded 4 c.year ++ r0 → r0 ≡ 45 ∷ r1 → r1 ≡ padded 2 c.month ++ r2 → r2 ≡ 45 ∷ r3 → r3 ≡ padded 2 c.day ++ r4 → r4 ≡ 84 ∷ r5 → r5 ≡ padded 2 c.hour ++ r6 → r6 ≡ 58 ∷ r7 → r7 ≡ padded 2 c.minute ++ r8 → r8 ≡ 58 ∷ r9 → r9 ≡ padded 2 c.second ++ r10 → r10 ≡ 46 ∷ r11 → r11 ≡ padded 9 c.nanosecond ++ r12 → r12 ≡ 43 ∷ r13 → r13 ≡ 48 ∷ r14 → r14 ≡ 48 ∷ r15 → r15 ≡ 48 ∷ r16 → r16 ≡ 48 ∷ r17 → bytes ≡ civil_text c ++ r17
unfolding civil_text
glue c bytes r0 r1 r2 r3 r4 r5 r6 r7 r8 r9 r10 r11 r12 r13 r14 r15 r16 r17 e0 e1 e2 e3 e4 e5 e6 e7 e8 e9 e10 e11 e12 e13 e14 e15 e16 e17 = e0 ∙ rw (e1, e2, e3, e4, e5, e6, e7, e8, e9, e10, e11, e12, e13, e14, e15, e16, e17) (simp append_assoc)

pub fields_take : (bytes : List ℕ) (x : CivilTime × List ℕ) → fields_at bytes ≡ Some x → (bytes ≡ civil_text x.0 ++ x.1) × FitsDigits x.0
unfolding fields_at
fields_take bytes x h =
    number_then 4 bytes _ x h (λ year r0 e0 b0 h0.
    byte_then 45 r0 _ x h0 (λ r1 e1 h1.
    number_then 2 r1 _ x h1 (λ month r2 e2 b2 h2.
    byte_then 45 r2 _ x h2 (λ r3 e3 h3.
    number_then 2 r3 _ x h3 (λ day r4 e4 b4 h4.
    byte_then 84 r4 _ x h4 (λ r5 e5 h5.
    number_then 2 r5 _ x h5 (λ hour r6 e6 b6 h6.
    byte_then 58 r6 _ x h6 (λ r7 e7 h7.
    number_then 2 r7 _ x h7 (λ minute r8 e8 b8 h8.
    byte_then 58 r8 _ x h8 (λ r9 e9 h9.
    number_then 2 r9 _ x h9 (λ second r10 e10 b10 h10.
    byte_then 46 r10 _ x h10 (λ r11 e11 h11.
    number_then 9 r11 _ x h11 (λ nanosecond r12 e12 b12 h12.
    byte_then 43 r12 _ x h12 (λ r13 e13 h13.
    byte_then 48 r13 _ x h13 (λ r14 e14 h14.
    byte_then 48 r14 _ x h14 (λ r15 e15 h15.
    byte_then 48 r15 _ x h15 (λ r16 e16 h16.
    byte_then 48 r16 _ x h16 (λ r17 e17 h17.
    let made : CivilTime × List ℕ = (record { year = year; month = month; day = day; hour = hour; minute = minute; second = second; nanosecond = nanosecond }, r17) in
    subst (λ (y : CivilTime × List ℕ). (bytes ≡ civil_text y.0 ++ y.1) × FitsDigits y.0) (some_is made x h17)
    (glue made.0 bytes r0 r1 r2 r3 r4 r5 r6 r7 r8 r9 r10 r11 r12 r13 r14 r15 r16 r17 e0 e1 e2 e3 e4 e5 e6 e7 e8 e9 e10 e11 e12 e13 e14 e15 e16 e17, record { year = b0; month = b2; day = b4; hour = b6; minute = b8; second = b10; nanosecond = b12 })))))))))))))))))))

pub fields_again : (c : CivilTime) (rest : List ℕ) → FitsDigits c → fields_at (civil_text c ++ rest) ≡ Some (c, rest)
unfolding fields_at civil_text
fields_again c rest fits =
    let regrouped : civil_text c ++ rest ≡ padded 4 c.year ++ (45 ∷ (padded 2 c.month ++ (45 ∷ (padded 2 c.day ++ (84 ∷ (padded 2 c.hour ++ (58 ∷ (padded 2 c.minute ++ (58 ∷ (padded 2 c.second ++ (46 ∷ (padded 9 c.nanosecond ++ (43 ∷ (48 ∷ (48 ∷ (48 ∷ (48 ∷ rest))))))))))))))))) = simp append_assoc in
    ap fields_at regrouped ∙ rw (number_again 4 c.year _ fits.year, byte_again, number_again 2 c.month _ fits.month, byte_again, number_again 2 c.day _ fits.day, byte_again, number_again 2 c.hour _ fits.hour, byte_again, number_again 2 c.minute _ fits.minute, byte_again, number_again 2 c.second _ fits.second, byte_again, number_again 9 c.nanosecond _ fits.nanosecond, byte_again, byte_again, byte_again, byte_again, byte_again) refl

pub civil_fits : (c : CivilTime) → IsCivil c → FitsDigits c
civil_fits c h = record {
  year = omega (arith, h.year);
  month = omega (arith, h.month.1);
  day = omega (arith, h.day.1, days_in_month_bounds (pos c.year) c.month);
  hour = omega (arith, h.hour);
  minute = omega (arith, h.minute);
  second = omega (arith, h.second);
  nanosecond = h.nanosecond;
}

-- what is no text of fields is no time text
pub no_text : (text : List ℕ) (t : ℤ) → fields_at text ≡ None → IsTimeText t text → ⊥
no_text text t none h =
    let again : fields_at (civil_text h.civil ++ []) ≡ Some (h.civil, []) = fields_again h.civil [] (civil_fits h.civil h.is_civil) in
    let here : fields_at text ≡ Some (h.civil, []) = ap fields_at (h.spelled ∙ sym (append-nil (civil_text h.civil))) ∙ again in
    cc

-- the fields of a time text
pub fields_of_text : (text rest : List ℕ) (c : CivilTime) (t : ℤ) → fields_at text ≡ Some (c, rest) → IsTimeText t text → IsCivil c × (moment_of c ≡ t) × (rest ≡ [])
fields_of_text text rest c t e h =
    let again : fields_at (civil_text h.civil ++ []) ≡ Some (h.civil, []) = fields_again h.civil [] (civil_fits h.civil h.is_civil) in
    let here : fields_at text ≡ Some (h.civil, []) = ap fields_at (h.spelled ∙ sym (append-nil (civil_text h.civil))) ∙ again in
    let same : (h.civil, []) ≡ (c, rest) = some_is (h.civil, []) (c, rest) (sym here ∙ e) in
    subst (λ (p : CivilTime × List ℕ). IsCivil p.0 × (moment_of p.0 ≡ t) × (p.1 ≡ [])) same (h.is_civil, h.moment, refl)
