-- Time texts, by the civil calendar in UTC.
use Rattle.std.specs.Prelude.{◌≡◌, ◌↔◌, ℕ, zero, suc, ◌+◌, ◌*◌, ◌<◌, ◌≤◌, ℤ, pos, ◌+ℤ◌, ◌-ℤ◌, ◌*ℤ◌, List, ◌∷◌, ◌++◌, codes, unsigned_abs, ◌/◌, ◌%◌, int_le, if◌then◌else◌, FitsSigned}
use Rattle.std.specs.Int.{int_div_euclid, int_rem_euclid, IsInRange, w64}
use Rattle.jiff_core.specs.Calendar.{days_from_civil, days_in_month}
use Rattle.bisync_text.specs.declared.civil_times.CivilTime.{CivilTime}
use Rattle.bisync_text.specs.Digits.{padded}

-- the calendar has this day, in a year of four digits, and a clock shows this time
pub record IsCivil (c : CivilTime) : Type 0 where
  pub year : c.year ≤ 9999
  pub month : IsInRange 1 12 c.month
  pub day : IsInRange 1 (days_in_month (pos c.year) c.month) c.day
  pub hour : c.hour < 24
  pub minute : c.minute < 60
  pub second : c.second < 60
  pub nanosecond : c.nanosecond < 1_000_000_000

-- nanoseconds since midnight
abbrev pub nanos_of_day : CivilTime → ℕ
nanos_of_day c = (c.hour * 3600 + c.minute * 60 + c.second) * 1_000_000_000 + c.nanosecond

-- nanoseconds since 1970-01-01T00:00:00
unfoldable pub moment_of : CivilTime → ℤ
moment_of c = days_from_civil (pos c.year) c.month c.day *ℤ pos 86_400_000_000_000 +ℤ pos (nanos_of_day c)

-- the 34 bytes of a civil time
unfoldable pub civil_text : CivilTime → List ℕ
civil_text c = padded 4 c.year ++ (45 ∷ (padded 2 c.month ++ (45 ∷ (padded 2 c.day ++ (84 ∷ (padded 2 c.hour ++ (58 ∷ (padded 2 c.minute ++ (58 ∷ (padded 2 c.second ++ (46 ∷ (padded 9 c.nanosecond ++ codes "+0000"))))))))))))

-- the text shows a day and a time whose nanoseconds these are
pub record IsTimeText (t : ℤ) (text : List ℕ) : Type 0 where
  pub civil : CivilTime
  pub is_civil : IsCivil civil
  pub moment : moment_of civil ≡ t
  pub spelled : text ≡ civil_text civil

-- the last of the starts 1 to n that is not after the day, or 0
unfoldable pub last_begun : (ℕ → ℤ) → ℤ → ℕ → ℕ
last_begun start day zero = 0
last_begun start day (suc n) = if int_le (start (suc n)) day then suc n else last_begun start day n

-- the year, the month of that year and the day of that month that have begun last
abbrev pub year_on : ℤ → ℕ
year_on day = last_begun (λ y. days_from_civil (pos y) 1 1) day 9999

abbrev pub month_on : ℤ → ℕ → ℕ
month_on day year = last_begun (λ m. days_from_civil (pos year) m 1) day 12

abbrev pub day_on : ℤ → ℕ → ℕ → ℕ
day_on day year month = unsigned_abs (day -ℤ days_from_civil (pos year) month 1) + 1

unfoldable pub civil_on : ℤ → ℕ → CivilTime
civil_on day nanos = let year = year_on day in let month = month_on day year in record {
  year = year;
  month = month;
  day = day_on day year month;
  hour = nanos / 3_600_000_000_000;
  minute = nanos / 60_000_000_000 % 60;
  second = nanos / 1_000_000_000 % 60;
  nanosecond = nanos % 1_000_000_000;
}

-- what a clock in UTC shows at that moment, in nanoseconds since 1970
unfoldable pub civil_at : ℤ → CivilTime
civil_at t = civil_on (int_div_euclid t (pos 86_400_000_000_000)) (unsigned_abs (int_rem_euclid t (pos 86_400_000_000_000)))

-- the time text of a moment
unfoldable pub time_spelling : ℤ → List ℕ
time_spelling t = civil_text (civil_at t)

-- what shows a day and a time of that moment is its time text, and no other text
abbrev pub HasOneTimeText : ℤ → Type 0
HasOneTimeText t = (text : List ℕ) → IsTimeText t text ↔ (text ≡ time_spelling t)

-- no two moments have one text
abbrev pub HasItsOwnTimeText : ℤ → Type 0
HasItsOwnTimeText t = (other : ℤ) → FitsSigned w64 other → time_spelling other ≡ time_spelling t → other ≡ t

-- a byte from `+` to `T`, so no newline, space, quote or backslash
abbrev pub IsPlainTime : ℕ → Type 0
IsPlainTime b = (43 ≤ b) × (b ≤ 84)
