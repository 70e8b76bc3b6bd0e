-- Each moment has one civil time.
use Rattle.std.proofs.Common.{◌≡◌, ℕ, zero, suc, ◌+◌, ◌*◌, ◌/◌, ◌%◌, ◌<◌, ◌≤◌, ◌⊎◌, inl, inr, refl, sym, ap, subst, ◌∙◌, arith, add-one, true, false, Bool, ℤ, pos, negsuc, ◌+ℤ◌, ◌-ℤ◌, ◌*ℤ◌, ◌<ℤ◌, ◌≤ℤ◌, unsigned_abs, FitsSigned, w64}
use Rattle.std.specs.Int.{int_div_euclid, int_rem_euclid}
use Rattle.std.specs.Prelude.{int_le}
use Rattle.std.proofs.lemmas.Bool.{cases_order}
use Rattle.jiff_core.specs.Calendar.{days_in_month, days_from_civil, day_count, IsCivilDate}
use Rattle.jiff_core.proofs.SignedLemmas.{signed_arith, int_div_euclid-parts, int_rem_euclid-parts}
use Rattle.jiff_core.proofs.CalendarLemmas.{days_from_civil-day_count, day_count-lt_year, day_count-lt_month, day_count-day, day_count-next_month, day_count-next_year, day_count-last_of_year, day_count-end}
use Rattle.jiff_core.proofs.MarchLemmas.{day_count-early}
use Rattle.bisync_text.specs.declared.civil_times.CivilTime.{CivilTime}
use Rattle.bisync_text.specs.Time.{IsCivil, nanos_of_day, moment_of, last_begun, year_on, month_on, day_on, civil_on, civil_at}

-- ---- the start that has begun last

tested : (b : Bool) → (b ≡ true) ⊎ (b ≡ false)
tested true = inl refl
tested false = inr refl

more_left : (start : ℕ → ℤ) (day : ℤ) (n : ℕ) → start 1 ≤ℤ day → int_le (start (suc n)) day ≡ false → 1 ≤ n
more_left start day zero low miss = absurd (omega (arith, signed_arith))
more_left start day (suc n) low miss = omega arith

pub begun : (start : ℕ → ℤ) (day : ℤ) (n : ℕ) → start 1 ≤ℤ day → 1 ≤ n → (1 ≤ last_begun start day n) × (last_begun start day n ≤ n) × (start (last_begun start day n) ≤ℤ day)
unfolding last_begun
begun start day zero low some = absurd (omega arith)
begun start day (suc n) low some =
    elim (tested (int_le (start (suc n)) day)) [
      | inl hit ↦ rw hit (omega arith, omega arith, omega (arith, signed_arith))
      | inr miss ↦ let rest = begun start day n low (more_left start day n low miss) in rw miss (rest.0, omega arith, rest.2)
    ]

pub not_begun : (start : ℕ → ℤ) (day : ℤ) (n : ℕ) → day <ℤ start (suc n) → day <ℤ start (suc (last_begun start day n))
unfolding last_begun
not_begun start day zero high = high
not_begun start day (suc n) high =
    elim (tested (int_le (start (suc n)) day)) [
      | inl hit ↦ rw hit high
      | inr miss ↦ rw miss (not_begun start day n (omega (arith, signed_arith)))
    ]

-- ---- two civil times of one moment are one

months_same : (y : ℤ) (m d m₂ d₂ : ℕ) → IsCivilDate y m d → IsCivilDate y m₂ d₂ → day_count y m d ≡ day_count y m₂ d₂ → (m ≡ m₂) × (d ≡ d₂)
months_same y m d m₂ d₂ is is₂ e =
    elim (cases_order m m₂) [
      | inl same ↦ let there : day_count y m d ≡ day_count y m d₂ = e ∙ ap (λ k. day_count y k d₂) (sym same) in (same, omega (arith, day_count-day y m d d₂ is.2.0 is₂.2.0))
      | inr apart ↦ elim apart [
        | inl before ↦ absurd (omega (arith, day_count-lt_month y m d m₂ d₂ is is₂.2.0 before))
        | inr after ↦ absurd (omega (arith, day_count-lt_month y m₂ d₂ m d is₂ is.2.0 after))
      ]
    ]

dates_same : (y m d y₂ m₂ d₂ : ℕ) → IsCivilDate (pos y) m d → IsCivilDate (pos y₂) m₂ d₂ → days_from_civil (pos y) m d ≡ days_from_civil (pos y₂) m₂ d₂ → (y ≡ y₂) × (m ≡ m₂) × (d ≡ d₂)
dates_same y m d y₂ m₂ d₂ is is₂ e =
    let count : day_count (pos y) m d ≡ day_count (pos y₂) m₂ d₂ = omega (arith, signed_arith, days_from_civil-day_count (pos y) m d, days_from_civil-day_count (pos y₂) m₂ d₂) in
    elim (cases_order y y₂) [
      | inl same ↦
          let P : ℕ → Type 0 = λ n. IsCivilDate (pos n) m₂ d₂ in
          let Q : ℕ → Type 0 = λ n. day_count (pos y) m d ≡ day_count (pos n) m₂ d₂ in
          let rest = months_same (pos y) m d m₂ d₂ is (subst P (sym same) is₂) (subst Q (sym same) count) in
          (same, rest.0, rest.1)
      | inr apart ↦ elim apart [
        | inl before ↦ absurd (omega (arith, day_count-lt_year (pos y) m d (pos y₂) m₂ d₂ is is₂.2.0 (omega (arith, signed_arith))))
        | inr after ↦ absurd (omega (arith, day_count-lt_year (pos y₂) m₂ d₂ (pos y) m d is₂ is.2.0 (omega (arith, signed_arith))))
      ]
    ]

civil_same : (a b : CivilTime) → a.year ≡ b.year → a.month ≡ b.month → a.day ≡ b.day → a.hour ≡ b.hour → a.minute ≡ b.minute → a.second ≡ b.second → a.nanosecond ≡ b.nanosecond → a ≡ b
civil_same a b e1 e2 e3 e4 e5 e6 e7 = λ i. record { year = e1 i; month = e2 i; day = e3 i; hour = e4 i; minute = e5 i; second = e6 i; nanosecond = e7 i }

date_of_civil : (c : CivilTime) → IsCivil c → IsCivilDate (pos c.year) c.month c.day
date_of_civil c is = let year : c.year ≤ 9999 = is.year in ((omega (arith, signed_arith), omega (arith, signed_arith)), is.month, is.day)

pub moment_one : (a b : CivilTime) → IsCivil a → IsCivil b → moment_of a ≡ moment_of b → a ≡ b
unfolding moment_of
moment_one a b is is₂ e =
    let days : days_from_civil (pos a.year) a.month a.day ≡ days_from_civil (pos b.year) b.month b.day = omega (arith, signed_arith) in
    let date = dates_same a.year a.month a.day b.year b.month b.day (date_of_civil a is) (date_of_civil b is₂) days in
    let clock : nanos_of_day a ≡ nanos_of_day b = omega (arith, signed_arith) in
    civil_same a b date.0 date.1 date.2 (omega arith) (omega arith) (omega arith) (omega arith)

-- ---- each moment has one

first_year : day_count (pos 1) 1 1 ≡ 3_652_791
first_year = day_count-early (pos 1) 10000 1 1 refl (omega arith) (omega arith) (omega arith)

year_is : (day : ℤ) → pos 0 ≤ℤ (day +ℤ pos 700_000) → day ≤ℤ pos 700_000 → (1 ≤ year_on day) × (year_on day ≤ 9999) × (days_from_civil (pos (year_on day)) 1 1 ≤ℤ day) × (day <ℤ days_from_civil (pos (suc (year_on day))) 1 1)
year_is day low high =
    let start : ℕ → ℤ = λ y. days_from_civil (pos y) 1 1 in
    let early : start 1 ≤ℤ day = omega (arith, signed_arith, first_year, days_from_civil-day_count (pos 1) 1 1) in
    let late : day <ℤ start (suc 9999) = omega (arith, signed_arith, day_count-end, days_from_civil-day_count (pos 10000) 1 1) in
    let k = begun start day 9999 early (omega arith) in
    (k.0, k.1, k.2, not_begun start day 9999 late)

year_end : (y : ℕ) → day_count (pos (suc y)) 1 1 ≡ day_count (pos y) 13 1
year_end y =
    omega (arith, day_count-next_year (pos y) (pos (suc y)) (omega (arith, signed_arith)) (omega (arith, signed_arith)), day_count-last_of_year (pos y), day_count-day (pos y) 12 31 1 (omega arith) (omega arith), day_count-next_month (pos y) 12 (omega arith))

month_is : (day : ℤ) (y : ℕ) → days_from_civil (pos y) 1 1 ≤ℤ day → day <ℤ days_from_civil (pos (suc y)) 1 1 → (1 ≤ month_on day y) × (month_on day y ≤ 12) × (days_from_civil (pos y) (month_on day y) 1 ≤ℤ day) × (day <ℤ days_from_civil (pos y) (suc (month_on day y)) 1)
month_is day y low high =
    let start : ℕ → ℤ = λ m. days_from_civil (pos y) m 1 in
    let late : day <ℤ start 13 = omega (arith, signed_arith, year_end y, days_from_civil-day_count (pos (suc y)) 1 1, days_from_civil-day_count (pos y) 13 1) in
    let k = begun start day 12 low (omega arith) in
    (k.0, k.1, k.2, not_begun start day 12 late)

whole : (z : ℤ) → pos 0 ≤ℤ z → pos (unsigned_abs z) ≡ z
whole (pos n) h = refl
whole (negsuc n) h = absurd (omega (arith, signed_arith))

day_is : (day : ℤ) (y m : ℕ) → 1 ≤ m → days_from_civil (pos y) m 1 ≤ℤ day → day <ℤ days_from_civil (pos y) (suc m) 1 → (1 ≤ day_on day y m) × (day_on day y m ≤ days_in_month (pos y) m) × (days_from_civil (pos y) m (day_on day y m) ≡ day)
day_is day y m some low high =
    let next : day_count (pos y) (suc m) 1 ≡ day_count (pos y) m 1 + days_in_month (pos y) m = rw add-one at (day_count-next_month (pos y) m some) in
    let a = days_from_civil-day_count (pos y) m 1 in
    let b = days_from_civil-day_count (pos y) (suc m) 1 in
    let c = days_from_civil-day_count (pos y) m (day_on day y m) in
    let past = whole (day -ℤ days_from_civil (pos y) m 1) (omega (arith, signed_arith)) in
    let d = day_count-day (pos y) m (day_on day y m) 1 (omega arith) (omega arith) in
    (omega arith, omega (arith, signed_arith), omega (arith, signed_arith))

clock_is : (n : ℕ) → n < 86_400_000_000_000 → (n / 3_600_000_000_000 < 24) × ((n / 3_600_000_000_000 * 3600 + n / 60_000_000_000 % 60 * 60 + n / 1_000_000_000 % 60) * 1_000_000_000 + n % 1_000_000_000 ≡ n)
clock_is n lt = (omega arith, omega arith)

pub civil_on_is : (day : ℤ) (n : ℕ) → pos 0 ≤ℤ (day +ℤ pos 700_000) → day ≤ℤ pos 700_000 → n < 86_400_000_000_000 → IsCivil (civil_on day n) × (moment_of (civil_on day n) ≡ day *ℤ pos 86_400_000_000_000 +ℤ pos n)
unfolding civil_on moment_of
civil_on_is day n low high lt =
    let y = year_is day low high in
    let m = month_is day (year_on day) y.2 y.3 in
    let d = day_is day (year_on day) (month_on day (year_on day)) m.0 m.2 m.3 in
    let t = clock_is n lt in
    (record { year = y.1; month = (m.0, m.1); day = (d.0, d.1); hour = t.0; minute = omega arith; second = omega arith; nanosecond = omega arith }, rw (d.2, t.1) refl)

pub civil_at_is : (t : ℤ) → FitsSigned w64 t → IsCivil (civil_at t) × (moment_of (civil_at t) ≡ t)
unfolding civil_at
civil_at_is t fits =
    let day = int_div_euclid t (pos 86_400_000_000_000) in
    let rest = int_rem_euclid t (pos 86_400_000_000_000) in
    let a = int_div_euclid-parts t 86_400_000_000_000 (omega arith) in
    let b = int_rem_euclid-parts t 86_400_000_000_000 (omega arith) in
    let is = civil_on_is day (unsigned_abs rest) (omega (arith, signed_arith)) (omega (arith, signed_arith)) (omega (arith, signed_arith)) in
    (is.0, is.1 ∙ omega (arith, signed_arith))
