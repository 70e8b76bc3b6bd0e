-- The front of what stands under a name.
use Rattle.std.specs.Prelude.{◌≡◌, ℕ, List, take, length, Option, Some, None}
use Rattle.bisync_device.specs.WorkFolder.{Held, Absent, bytes_of}

-- the buffer begins with the name's bytes, as far as it goes
abbrev pub IsFront : Option ℕ → List ℕ → Held → Type 0
IsFront None buffer held = held ≡ Absent
IsFront (Some count) buffer held = (text : List ℕ) × (bytes_of held ≡ Some text) × (take count buffer ≡ take (length buffer) text)
