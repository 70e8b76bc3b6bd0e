-- The first name of a base that is there and has no listing.
use Rattle.std.specs.Prelude.{◌≡◌, ◌⊎◌, ℕ, List, [], ◌∷◌, Option, Some, None}
use Rattle.bisync_tree.specs.Rows.{Rows}
use Rattle.bisync_listing.specs.FirstBadLine.{IsFirstBadLine}
use Rattle.bisync_listing.specs.declared.headers.Header.{Header}
use Rattle.bisync_device.specs.WorkFolder.{Held, Absent, WorkFolder, bytes_of, at}
use Rattle.bisync_device.specs.declared.works.WorkName.{WorkName}
use Rattle.bisync_device.specs.declared.works.WorkName.TheVariants.{One, Two, OneOld, TwoOld}
use Rattle.bisync_work.specs.Base.{HasListing}

-- nothing is there, or a listing
abbrev pub IsGood : ℕ → Held → Type 0
IsGood limit held = (held ≡ Absent) ⊎ ((header : Header) × (rows : Rows) × HasListing limit held header rows)

-- what is there is no listing, and this is its first bad line
pub record IsBad (limit : ℕ) (held : Held) (line : ℕ) : Type 0 where
  pub bytes : List ℕ
  pub there : bytes_of held ≡ Some bytes
  pub first : IsFirstBadLine limit bytes line

-- the first bad one of these names, with its first bad line, or none
abbrev pub IsFirstBad : ℕ → WorkFolder → List WorkName → Option (WorkName × ℕ) → Type 0
IsFirstBad limit f [] bad = bad ≡ None
IsFirstBad limit f (n ∷ names) bad =
    ((line : ℕ) × (bad ≡ Some (n, line)) × IsBad limit (at f n) line) ⊎ (IsGood limit (at f n) × IsFirstBad limit f names bad)

-- the names of a base, in the order in which they are tried
abbrev pub base_names : List WorkName
base_names = One ∷ Two ∷ OneOld ∷ TwoOld ∷ []
