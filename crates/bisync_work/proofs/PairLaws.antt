-- Names that are not there or were moved over others, and the pairs and stamps that they have.
use Rattle.std.proofs.Common.{◌≡◌, ◌<◌, ◌^◌, ℕ, refl, sym, ◌∙◌, subst, List, Some, None}
use Rattle.bisync_tree.specs.Rows.{Rows}
use Rattle.bisync_listing.specs.ListingText.{IsListingText}
use Rattle.bisync_listing.specs.declared.headers.Header.{Header}
use Rattle.bisync_listing.proofs.ListingLaws.{listing_text_one}
use Rattle.bisync_device.specs.WorkFolder.{Held, Absent, Kept, Loose, IsSynced}
use Rattle.bisync_work.specs.Base.{HasListing, NoPair}
use Rattle.bisync_work.specs.Stamps.{LacksStamp}
use Rattle.bisync_work.specs.Moves.{moved_over}

no_bytes : (bytes : List ℕ) → None ≡ Some bytes → ⊥
no_bytes bytes e = cc

pub no_listing : (limit : ℕ) (header : Header) (rows : Rows) → HasListing limit Absent header rows → ⊥
no_listing limit header rows l = no_bytes l.bytes l.there

-- a name that has a listing hides what it is moved over
pub listing_over : (limit : ℕ) (held below : Held) (header : Header) (rows : Rows) → HasListing limit held header rows → moved_over held below ≡ held
listing_over limit Absent below header rows l = absurd (no_listing limit header rows l)
listing_over limit (Kept bytes) below header rows l = refl
listing_over limit (Loose bytes) below header rows l = refl

pub no_first : (limit : ℕ) (two : Held) → NoPair limit Absent two
no_first limit two base p = no_listing limit base.header base.one p.first

pub no_second : (limit : ℕ) (one : Held) → NoPair limit one Absent
no_second limit one base p = no_listing limit base.header base.two p.second

pub lacks_absent : (limit n : ℕ) → LacksStamp limit Absent n
lacks_absent limit n = λ header rows l. absurd (no_listing limit header rows l)

pub lacks_over : (limit n : ℕ) (held below : Held) → LacksStamp limit held n → LacksStamp limit below n → LacksStamp limit (moved_over held below) n
lacks_over limit n Absent below a b = b
lacks_over limit n (Kept bytes) below a b = a
lacks_over limit n (Loose bytes) below a b = a

pub synced_over : (held below : Held) → IsSynced held → IsSynced below → IsSynced (moved_over held below)
synced_over Absent below a b = b
synced_over (Kept bytes) below a b = a
synced_over (Loose bytes) below a b = a

pub same_bytes : (x y : List ℕ) → Some x ≡ Some y → x ≡ y
same_bytes x y e = cc

-- a name has one header and one listing
pub one_listing : (limit other : ℕ) (held : Held) (g h : Header) (rows others : Rows) → limit < 2 ^ 64 → other < 2 ^ 64 → HasListing limit held g rows → HasListing other held h others → (g ≡ h) × (rows ≡ others)
one_listing limit other held g h rows others small small_other a b =
    let same : b.bytes ≡ a.bytes = same_bytes b.bytes a.bytes (sym b.there ∙ a.there) in
    listing_text_one limit other g h rows others a.bytes small small_other a.listing (subst (IsListingText other h others) same b.listing)
