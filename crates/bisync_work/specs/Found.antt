-- What is found in a work folder.
use Rattle.std.specs.Prelude.{◌≡◌, ℕ, [], Option, Some, None, IfSome, ⊤}
use Rattle.std.specs.List.{AllByRecursion}
use Rattle.bisync_tree.specs.Rows.{Rows}
use Rattle.bisync_tree.specs.declared.entries.Compare.{Compare}
use Rattle.bisync_listing.specs.ListingText.{AreFields, HasDigestFor}
use Rattle.bisync_listing.specs.declared.headers.Header.{Header}
use Rattle.bisync_device.specs.WorkFolder.{WorkFolder}
use Rattle.bisync_work.specs.Base.{Base, HasBaseIn, HasNoBase}
use Rattle.bisync_work.specs.Stamps.{IsNewStamp}
use Rattle.bisync_work.specs.BadNames.{IsFirstBad, base_names}
use Rattle.bisync_work.specs.declared.bases.Pair.{Pair}
use Rattle.bisync_work.specs.declared.found.Found.{Found}
use Rattle.bisync_work.specs.declared.found.Listings.{Listings}

-- the pair of the base, its two listings and its fields; without a base empty listings and no fields
abbrev pub IsFoundIn : ℕ → WorkFolder → Option Pair → Rows → Rows → Option Compare → Type 0
IsFoundIn limit f None one two fields = HasNoBase limit f × (one ≡ []) × (two ≡ []) × (fields ≡ None)
IsFoundIn limit f (Some pair) one two fields =
    (header : Header) × HasBaseIn limit f pair (record { header = header; one = one; two = two }) × (fields ≡ header.fields)

-- the base, the first bad name and the new stamp of the folder
pub record IsFound (limit : ℕ) (f : WorkFolder) (found : Found) : Type 0 where
  pub base : IsFoundIn limit f found.pair found.one found.two found.fields
  pub bad : IsFirstBad limit f base_names found.bad
  pub stamp : IsNewStamp limit f found.stamp

-- at least one field, times to the nanosecond, and digests exactly where the fields say
pub record AreFoundFields (fields : Option Compare) (one two : Rows) : Type 0 where
  pub are_fields : IfSome fields AreFields
  pub first : AllByRecursion (λ row. HasDigestFor fields row.1) one
  pub second : AllByRecursion (λ row. HasDigestFor fields row.1) two

-- two listings of one header, as a base
abbrev pub base_of : Listings → Base
base_of listings = record { header = listings.header; one = listings.one; two = listings.two }

-- without a pair no listing and no fields are told
abbrev pub IsEmptyUnpaired : Option Pair → Rows → Rows → Option Compare → Type 0
IsEmptyUnpaired None one two fields = (one ≡ []) × (two ≡ []) × (fields ≡ None)
IsEmptyUnpaired (Some pair) one two fields = ⊤
