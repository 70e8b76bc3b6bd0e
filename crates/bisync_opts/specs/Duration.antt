-- The nanoseconds of a duration: `0`, or one or more of the parts `<n>h`, `<n>m` and `<n>s` in this order, each at most
-- once, where n has one to six digits.
use Rattle.std.specs.Prelude.{ℕ, ◌==◌, length, Option, Some, None, codes, if◌then◌else◌}
use Rattle.std.specs.Str.{bytes_eq}
use Rattle.bisync_text.specs.Duration.{nanos_of}
use Rattle.bisync_text.specs.DurationParts.{part_at}
use Rattle.bisync_opts.specs.Texts.{Text}

-- the sum of the parts, where nothing is left after the last
abbrev pub sum_of : ℕ × Text → ℕ × Text → ℕ × Text → Option ℕ
sum_of hours minutes seconds = if length seconds.1 == 0 then Some (nanos_of hours.0 minutes.0 seconds.0) else None

-- the hours (104) are at the front, then the minutes (109) and the seconds (115)
abbrev pub parts : Text → Option ℕ
parts text =
    let hours = part_at 104 text in
    let minutes = part_at 109 hours.1 in
    let seconds = part_at 115 minutes.1 in
    sum_of hours minutes seconds

unfoldable pub duration : Text → Option ℕ
duration text =
    if length text == 0 then None
    else if bytes_eq text (codes "0") then Some 0
    else parts text
