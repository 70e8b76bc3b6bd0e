-- The base of a work folder: the two listings of the last good run.
use Rattle.std.specs.Prelude.{◌≡◌, ℕ, List, Option, Some, None}
use Rattle.bisync_tree.specs.Rows.{Rows}
use Rattle.bisync_listing.specs.ListingText.{IsListingText}
use Rattle.bisync_listing.specs.declared.headers.Header.{Header}
use Rattle.bisync_device.specs.WorkFolder.{Held, WorkFolder, bytes_of}
use Rattle.bisync_work.specs.declared.bases.Pair.{Pair}
use Rattle.bisync_work.specs.declared.bases.Pair.TheVariants.{Current, Mixed, Old}

-- what stands under a name is the text of this header and this listing, within the limit
pub record HasListing (limit : ℕ) (held : Held) (header : Header) (rows : Rows) : Type 0 where
  pub bytes : List ℕ
  pub there : bytes_of held ≡ Some bytes
  pub listing : IsListingText limit header rows bytes

-- one header, and the listings of Path1 and Path2
pub record Base : Type 0 where
  pub header : Header
  pub one : Rows
  pub two : Rows

-- both names have listings, and of one header: stamp and compared fields
pub record ArePair (limit : ℕ) (one two : Held) (base : Base) : Type 0 where
  pub first : HasListing limit one base.header base.one
  pub second : HasListing limit two base.header base.two

-- one of the names is not there or has no listing, or their headers differ
abbrev pub NoPair : ℕ → Held → Held → Type 0
NoPair limit one two = (base : Base) → ArePair limit one two base → ⊥

-- the first of the three pairs of names that has two listings of one header is this pair
abbrev pub HasBaseIn : ℕ → WorkFolder → Pair → Base → Type 0
HasBaseIn limit f Current base = ArePair limit f.one f.two base
HasBaseIn limit f Mixed base = NoPair limit f.one f.two × ArePair limit f.one_old f.two base
HasBaseIn limit f Old base = NoPair limit f.one f.two × NoPair limit f.one_old f.two × ArePair limit f.one_old f.two_old base

abbrev pub HasNoBase : ℕ → WorkFolder → Type 0
HasNoBase limit f = NoPair limit f.one f.two × NoPair limit f.one_old f.two × NoPair limit f.one_old f.two_old

-- the base of a folder, or none
abbrev pub IsBase : ℕ → WorkFolder → Option Base → Type 0
IsBase limit f None = HasNoBase limit f
IsBase limit f (Some base) = (pair : Pair) × HasBaseIn limit f pair base
