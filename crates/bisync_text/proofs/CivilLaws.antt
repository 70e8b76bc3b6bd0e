-- The moments of civil times, as `jiff` has them.
use Rattle.std.proofs.Common.{◌≡◌, ℕ, ◌<◌, Option, Some, None, refl, sym, subst, ◌∙◌, arith}
use Rattle.bisync_text.specs.declared.civil_times.CivilTime.{CivilTime}
use Rattle.bisync_text.specs.Time.{IsCivil, moment_of}
use Rattle.bisync_text.specs.TimeFields.{FitsDigits}
use Rattle.std.proofs.Common.{ℤ, pos, ◌*ℤ◌, ◌+ℤ◌, FitsSigned, w64, IfSome, IfNone}
use Rattle.jiff_core.specs.declared.civil.date.Date.{Date}
use Rattle.jiff_core.specs.declared.civil.time.Time.{Time}
use Rattle.jiff_core.specs.declared.civil.datetime.DateTime.{DateTime}
use Rattle.jiff_core.specs.DateTime.{civil_nanos}
use Rattle.jiff_core.specs.Calendar.{days_in_month}
use Rattle.std.specs.Int.{IsInRange}
use Rattle.jiff_core.specs.Date.{epoch_day}
use Rattle.jiff_core.specs.Time.{time_nanos}
use Rattle.jiff_core.proofs.CalendarLemmas.{day_count-lt_year, days_from_civil-day_count}
use Rattle.jiff_core.proofs.MarchLemmas.{day_count-early}
use Rattle.jiff_core.proofs.SignedLemmas.{signed_arith}
use Rattle.jiff_core.proofs.DateLemmas.{civil}
use Rattle.jiff_core.specs.Calendar.{day_count}
use Rattle.std.proofs.lemmas.Int.{by_lt_z}
use Rattle.std.proofs.Common.{◌≤ℤ◌}

pub moment_is : (c : CivilTime) (d : Date) (t : Time) (at : DateTime) → at.date ≡ d → at.time ≡ t → d.year ≡ pos c.year → d.month ≡ c.month → d.day ≡ c.day → t.hour ≡ c.hour → t.minute ≡ c.minute → t.second ≡ c.second → t.subsec_nanosecond ≡ c.nanosecond
    → civil_nanos at ≡ moment_of c
unfolding moment_of civil_nanos
moment_is c d t at e0 e00 e1 e2 e3 e4 e5 e6 e7 = rw (e0, e00, e1, e2, e3, e4, e5, e6, e7) refl

pub civil_is : (c : CivilTime) (d : Date) (t : Time) → FitsDigits c → d.year ≡ pos c.year → d.month ≡ c.month → d.day ≡ c.day → t.hour ≡ c.hour → t.minute ≡ c.minute → t.second ≡ c.second → t.subsec_nanosecond ≡ c.nanosecond → IsCivil c
civil_is c d t fits e1 e2 e3 e4 e5 e6 e7 = record {
  year = omega (arith, fits.year);
  month = rw e2 at d.month_in;
  day = rw (e1, e2, e3) at d.day_in;
  hour = omega (arith, t.hour_in, e4);
  minute = omega (arith, t.minute_in, e5);
  second = omega (arith, t.second_in, e6);
  nanosecond = omega (arith, t.subsec_in, e7);
}

pub day_count-zero : day_count (pos 0) 1 1 ≡ 3_652_425
day_count-zero = day_count-early (pos 0) 9999 1 1 refl (omega arith) (omega arith) (omega arith)

-- a moment of 64 bits lies after the year 0 began
pub year_low : (d : Date) (t : Time) (n : ℤ) → FitsSigned w64 n → epoch_day d *ℤ pos 86_400_000_000_000 +ℤ pos (time_nanos t) ≡ n → pos 0 ≤ℤ d.year
year_low d t n fits e =
    by_lt_z d.year (pos 0) (λ lt.
    let before : day_count d.year d.month d.day < day_count (pos 0) 1 1 = day_count-lt_year d.year d.month d.day (pos 0) 1 1 (civil d) (omega arith) lt in
    let day = days_from_civil-day_count d.year d.month d.day in
    let hour = t.hour_in in
    absurd (omega (arith, signed_arith, day_count-zero))) (λ le. le)

pub moment_back : (c : CivilTime) (at : DateTime) (n : ℤ) → pos c.year ≡ at.date.year → c.month ≡ at.date.month → c.day ≡ at.date.day → c.hour ≡ at.time.hour → c.minute ≡ at.time.minute → c.second ≡ at.time.second → c.nanosecond ≡ at.time.subsec_nanosecond
    → civil_nanos at ≡ n → moment_of c ≡ n
unfolding moment_of civil_nanos
moment_back c at n e1 e2 e3 e4 e5 e6 e7 e = rw (e1, e2, e3, e4, e5, e6, e7) e

pub civil_back : (c : CivilTime) (d : Date) (t : Time) → pos c.year ≡ d.year → c.month ≡ d.month → c.day ≡ d.day → c.hour ≡ t.hour → c.minute ≡ t.minute → c.second ≡ t.second → c.nanosecond ≡ t.subsec_nanosecond → IsCivil c
civil_back c d t e1 e2 e3 e4 e5 e6 e7 = record {
  year = omega (arith, signed_arith, d.year_in, e1);
  month = let P : ℕ → Type 0 = λ m. IsInRange 1 12 m in subst P (sym e2) d.month_in;
  day = let P : ℤ → ℕ → ℕ → Type 0 = λ y m k. IsInRange 1 (days_in_month y m) k in subst (λ (y : ℤ). P y c.month c.day) (sym e1) (subst (λ (m : ℕ). P d.year m c.day) (sym e2) (subst (λ (k : ℕ). P d.year d.month k) (sym e3) d.day_in));
  hour = omega (arith, t.hour_in, e4);
  minute = omega (arith, t.minute_in, e5);
  second = omega (arith, t.second_in, e6);
  nanosecond = omega (arith, t.subsec_in, e7);
}

pub at_year_low : (at : DateTime) (n : ℤ) → FitsSigned w64 n → civil_nanos at ≡ n → pos 0 ≤ℤ at.date.year
unfolding civil_nanos
at_year_low at n fits e = year_low at.date at.time n fits e

pub moment_found : (c : CivilTime) (at : DateTime) (r : Option ℤ) → IsCivil c → civil_nanos at ≡ moment_of c → IfSome r (λ v. FitsSigned w64 v × (v ≡ civil_nanos at)) → IfSome r (λ v. FitsSigned w64 v × IsCivil c × (moment_of c ≡ v))
moment_found c at None is e h = tt
moment_found c at (Some v) is e h = (h.0, is, sym (h.1 ∙ e))

pub moment_none : (c : CivilTime) (at : DateTime) (r : Option ℤ) → civil_nanos at ≡ moment_of c → IfNone r (FitsSigned w64 (civil_nanos at) → ⊥) → IfNone r (IsCivil c → FitsSigned w64 (moment_of c) → ⊥)
moment_none c at None e h = λ (is : IsCivil c). λ (fits : FitsSigned w64 (moment_of c)). h (let P : ℤ → Type 0 = λ z. FitsSigned w64 z in subst P (sym e) fits)
moment_none c at (Some v) e h = tt
