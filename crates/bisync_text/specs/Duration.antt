-- Durations: `0`, or hours, minutes and seconds in this order, each at most once.
use Rattle.std.specs.Prelude.{◌≡◌, ◌≢◌, ◌⊎◌, ℕ, ◌+◌, ◌*◌, ◌<◌, ◌≤◌, ◌^◌, ℤ, pos, List, [], ◌∷◌, ◌++◌, codes}
use Rattle.bisync_text.specs.Digits.{padded}

-- a number in one to six digits, and its unit
pub record IsCount (unit n : ℕ) (text : List ℕ) : Type 0 where
  pub digits : ℕ
  pub some : 1 ≤ digits
  pub few : digits ≤ 6
  pub fits : n < 10 ^ digits
  pub spelled : text ≡ padded digits n ++ unit ∷ []

-- a part that is left out counts nothing
abbrev pub IsPart : ℕ → ℕ → List ℕ → Type 0
IsPart unit n text = ((n ≡ 0) × (text ≡ [])) ⊎ IsCount unit n text

-- the text of a part for each unit, not all of them left out
pub record IsParts (hours minutes seconds : ℕ) (text : List ℕ) : Type 0 where
  pub hour_text : List ℕ
  pub minute_text : List ℕ
  pub second_text : List ℕ
  pub hour : IsPart 104 hours hour_text
  pub minute : IsPart 109 minutes minute_text
  pub second : IsPart 115 seconds second_text
  pub spelled : text ≡ hour_text ++ (minute_text ++ second_text)
  pub some : text ≢ []

abbrev pub nanos_of : ℕ → ℕ → ℕ → ℕ
nanos_of hours minutes seconds = (hours * 3600 + minutes * 60 + seconds) * 1_000_000_000

pub record IsSum (text : List ℕ) (t : ℤ) : Type 0 where
  pub hours : ℕ
  pub minutes : ℕ
  pub seconds : ℕ
  pub parts : IsParts hours minutes seconds text
  pub sum : t ≡ pos (nanos_of hours minutes seconds)

-- the text is a duration of that many nanoseconds
abbrev pub IsDuration : List ℕ → ℤ → Type 0
IsDuration text t = ((text ≡ codes "0") × (t ≡ pos 0)) ⊎ IsSum text t
