-- The digest beside the filters file.
use Rattle.std.specs.Prelude.{◌≡◌, ℕ, List, Some}
use Rattle.bisync_device.specs.WorkFolder.{Held, bytes_of}
use Rattle.bisync_filter.specs.Digests.{SpellsDigest}

-- the digits of the digest stand there, with at most one newline after them
abbrev pub HoldsDigest : List ℕ → Held → Type 0
HoldsDigest digest held = (text : List ℕ) × (bytes_of held ≡ Some text) × SpellsDigest digest text
