-- Which names are a pair, by what was read of them.
use Rattle.std.proofs.Common.{◌≡◌, ◌<◌, ◌^◌, ℕ, Result, Ok, Err, sym, ◌∙◌, ap, subst}
use Rattle.std.specs.Prelude.{IfOk, IfErr}
use Rattle.std.specs.List.{AllByRecursion}
use Rattle.bisync_tree.specs.Rows.{Rows}
use Rattle.bisync_listing.specs.ListingText.{IsHeader, AreListed, HasDigestFor}
use Rattle.bisync_listing.specs.declared.headers.Header.{Header}
use Rattle.bisync_device.specs.WorkFolder.{Held}
use Rattle.bisync_work.specs.Base.{HasListing, ArePair, NoPair}
use Rattle.bisync_work.specs.Found.{AreFoundFields, base_of}
use Rattle.bisync_work.specs.declared.found.Listings.{Listings}
use Rattle.bisync_work.specs.Standing.{IsStanding, IsListedWell}
use Rattle.bisync_work.specs.declared.listing_reads.Standing.{Standing}
use Rattle.bisync_work.specs.declared.listing_reads.Standing.TheVariants as standing
use Rattle.bisync_work.proofs.PairLaws.{no_first, one_listing}
use Rattle.bisync_work.proofs.MarkLaws.{bad_no_listing}

abbrev pub IsUnlisted : Standing → Type 0
IsUnlisted standing.Absent = Unit {0}
IsUnlisted (standing.Listed header rows) = ⊥
IsUnlisted (standing.Bad line) = Unit {0}

unlisted_none : (limit : ℕ) (held : Held) (s : Standing) → IsStanding limit held s → IsUnlisted s → (header : Header) (rows : Rows) → HasListing limit held header rows → ⊥
unlisted_none limit held standing.Absent is un header rows l = no_first limit held (record { header = header; one = rows; two = rows }) (record { first = subst (λ (h : Held). HasListing limit h header rows) is l; second = l })
unlisted_none limit held (standing.Listed h r) is un header rows l = absurd un
unlisted_none limit held (standing.Bad line) is un header rows l = bad_no_listing limit line held is header rows l

pub first_unlisted : (limit : ℕ) (a b : Held) (s : Standing) → IsStanding limit a s → IsUnlisted s → NoPair limit a b
first_unlisted limit a b s is un base p = unlisted_none limit a s is un base.header base.one p.first

pub second_unlisted : (limit : ℕ) (a b : Held) (s : Standing) → IsStanding limit b s → IsUnlisted s → NoPair limit a b
second_unlisted limit a b s is un base p = unlisted_none limit b s is un base.header base.two p.second

pub headers_apart : (limit : ℕ) (a b : Held) (g h : Header) (rows others : Rows) → limit < 2 ^ 64 → HasListing limit a g rows → HasListing limit b h others → (g ≡ h → ⊥) → NoPair limit a b
headers_apart limit a b g h rows others small one two apart base p =
    let first = one_listing limit limit a g base.header rows base.one small small one p.first in
    let second = one_listing limit limit b h base.header others base.two small small two p.second in
    apart (first.0 ∙ sym second.0)

-- what a pair that was joined is
pub joined_pair : (limit : ℕ) (a b : Held) (g h : Header) (rows others : Rows) (listings : Listings) → (g ≡ h) × (listings ≡ record { header = g; one = rows; two = others })
    → HasListing limit a g rows → HasListing limit b h others → ArePair limit a b (base_of listings)
joined_pair limit a b g h rows others listings is one two =
    subst (λ (l : Listings). ArePair limit a b (base_of l)) (sym is.1) (record { first = one; second = subst (λ (x : Header). HasListing limit b x others) (sym is.0) two })

pub joined_fields : (g h : Header) (rows others : Rows) (listings : Listings) → (g ≡ h) × (listings ≡ record { header = g; one = rows; two = others })
    → IsHeader g × AreListed g rows → IsHeader h × AreListed h others → AreFoundFields listings.header.fields listings.one listings.two
joined_fields g h rows others listings is one two =
    subst (λ (l : Listings). AreFoundFields l.header.fields l.one l.two) (sym is.1) (record {
      are_fields = one.0.fields;
      first = one.1.digests;
      second = subst (λ (x : Header). AllByRecursion (λ row. HasDigestFor x.fields row.1) others) (sym is.0) two.1.digests;
    })

-- what the joining of two names answers
pub join_apart : (g h : Header) (rows others : Rows) (one two : Standing) (result : Result Listings (Standing × Standing)) → one ≡ standing.Listed g rows → two ≡ standing.Listed h others
    → IfErr result (λ again. (g ≡ h → ⊥) × (again ≡ (standing.Listed g rows, standing.Listed h others)))
    → IfErr result (λ again. (again.0 ≡ one) × (again.1 ≡ two) × ((limit : ℕ) (a b : Held) → limit < 2 ^ 64 → IsStanding limit a one → IsStanding limit b two → NoPair limit a b))
join_apart g h rows others one two (Ok listings) is_one is_two is = tt
join_apart g h rows others one two (Err again) is_one is_two is = (
  ap (λ (x : Standing × Standing). x.0) is.1 ∙ sym is_one,
  ap (λ (x : Standing × Standing). x.1) is.1 ∙ sym is_two,
  λ limit a b small s t. headers_apart limit a b g h rows others small (subst (IsStanding limit a) is_one s) (subst (IsStanding limit b) is_two t) is.0,
)

pub join_fields : (g h : Header) (rows others : Rows) (one two : Standing) (result : Result Listings (Standing × Standing)) → one ≡ standing.Listed g rows → two ≡ standing.Listed h others
    → IfOk result (λ pair. (g ≡ h) × (pair ≡ record { header = g; one = rows; two = others }))
    → IsListedWell one → IsListedWell two → IfOk result (λ pair. AreFoundFields pair.header.fields pair.one pair.two)
join_fields g h rows others one two (Ok listings) is_one is_two is well_one well_two = joined_fields g h rows others listings is (subst IsListedWell is_one well_one) (subst IsListedWell is_two well_two)
join_fields g h rows others one two (Err again) is_one is_two is well_one well_two = tt

pub join_pair : (g h : Header) (rows others : Rows) (one two : Standing) (result : Result Listings (Standing × Standing)) → one ≡ standing.Listed g rows → two ≡ standing.Listed h others
    → IfOk result (λ pair. (g ≡ h) × (pair ≡ record { header = g; one = rows; two = others }))
    → IfOk result (λ pair. (limit : ℕ) (a b : Held) → IsStanding limit a one → IsStanding limit b two → ArePair limit a b (base_of pair))
join_pair g h rows others one two (Ok listings) is_one is_two is = λ limit a b s t. joined_pair limit a b g h rows others listings is (subst (IsStanding limit a) is_one s) (subst (IsStanding limit b) is_two t)
join_pair g h rows others one two (Err again) is_one is_two is = tt
