-- How a time text is read from left to right.
use Rattle.std.specs.Prelude.{ℕ, ◌<◌, ◌^◌, List, Option, Some}
use Rattle.bisync_text.specs.declared.civil_times.CivilTime.{CivilTime}
use Rattle.bisync_text.specs.Digits.{◌>>=◌, number_at, byte_at}

-- each field fits its digits
pub record FitsDigits (c : CivilTime) : Type 0 where
  pub year : c.year < 10 ^ 4
  pub month : c.month < 10 ^ 2
  pub day : c.day < 10 ^ 2
  pub hour : c.hour < 10 ^ 2
  pub minute : c.minute < 10 ^ 2
  pub second : c.second < 10 ^ 2
  pub nanosecond : c.nanosecond < 10 ^ 9

-- the fields, and the bytes after the text
unfoldable pub fields_at : List ℕ → Option (CivilTime × List ℕ)
fields_at bytes = do
  year ← number_at 4 bytes
  a ← byte_at 45 year.1
  month ← number_at 2 a
  b ← byte_at 45 month.1
  day ← number_at 2 b
  c ← byte_at 84 day.1
  hour ← number_at 2 c
  d ← byte_at 58 hour.1
  minute ← number_at 2 d
  e ← byte_at 58 minute.1
  second ← number_at 2 e
  f ← byte_at 46 second.1
  nanosecond ← number_at 9 f
  g ← byte_at 43 nanosecond.1
  h ← byte_at 48 g
  i ← byte_at 48 h
  j ← byte_at 48 i
  k ← byte_at 48 j
  Some (record { year = year.0; month = month.0; day = day.0; hour = hour.0; minute = minute.0; second = second.0; nanosecond = nanosecond.0 }, k)
