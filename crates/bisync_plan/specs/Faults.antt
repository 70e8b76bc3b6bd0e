-- Why there is no plan. A listing stands here for its entries, which decide it.
use Rattle.std.specs.Prelude.{◌≡◌, ℕ, ◌-◌, ◌^◌, ◌<◌, ◌≤◌, min, length, List, Option, Bool, true, false, IsTrue, ⊤}
use Rattle.std.specs.Ordering.{nat_cmp}
use Rattle.std.specs.Cmp.Lexicographic.{slice_cmp}
use Rattle.std.specs.declared.cmp.Ordering.TheVariants.{Less}
use Rattle.bisync_tree.specs.Rows.{PathBytes, Rows}
use Rattle.bisync_tree.specs.Same.{same}
use Rattle.bisync_tree.specs.declared.sides.Side.{Side}
use Rattle.bisync_tree.specs.declared.sides.Side.TheVariants.{One, Two}
use Rattle.bisync_tree.specs.declared.entries.Entry.{Entry}
use Rattle.bisync_tree.specs.declared.entries.Compare.{Compare}
use Rattle.bisync_tree.specs.declared.steps.Given.{Given}
use Rattle.bisync_model.specs.Entries.{Entries}
use Rattle.bisync_model.specs.Known.{Known}
use Rattle.bisync_model.specs.Names.{AreNames, AreNotNames}
use Rattle.bisync_model.specs.Finals.{final_entry}
use Rattle.bisync_model.specs.Resync.{resync_entry}
use Rattle.bisync_listing.specs.Spelling.{listing_text}
use Rattle.bisync_listing.specs.declared.headers.Header.{Header}
use Rattle.bisync_conflict.specs.declared.faults.NameFault.{NameFault}
use Rattle.bisync_conflict.specs.declared.faults.NameFault.TheVariants.{TooLong as NameTooLong, OutOfMemory as NoMemory}
use Rattle.bisync_plan.specs.Plans.{AreRowsOf}
use Rattle.bisync_plan.specs.declared.faults.PlanFault.{PlanFault}
use Rattle.bisync_plan.specs.declared.faults.PlanFault.TheVariants.{TooLong, ListingTooLong, OutOfSync, OutOfMemory}

-- the most bytes of a final listing's text: the limit, and fewer than 2^64 - 1, since a greater length isn't told from it
abbrev pub most : ℕ → ℕ
most limit = min limit (2 ^ 64 - 2)

-- the text of a side's listing has this length
pub record HasLength (entries : Entries) (header : Header) (side : Side) (size : ℕ) : Type 0 where
  pub rows : Rows
  pub are : AreRowsOf entries side rows
  pub size_is : size ≡ length (listing_text header rows)

-- it is within the limit
pub record Fits (entries : Entries) (header : Header) (limit : ℕ) (side : Side) : Type 0 where
  pub size : ℕ
  pub text : HasLength entries header side size
  pub within : size ≤ most limit

-- Path1's listing is tested before Path2's
abbrev pub FitsBefore : Entries → Header → ℕ → Side → Type 0
FitsBefore entries header limit One = ⊤
FitsBefore entries header limit Two = Fits entries header limit One

-- the side's is the first over the limit, and the number is its length, or the greatest of 64 bits where it is above that
pub record IsTooLong (entries : Entries) (header : Header) (limit : ℕ) (side : Side) (number : ℕ) : Type 0 where
  pub size : ℕ
  pub text : HasLength entries header side size
  pub over : most limit < size
  pub number_is : number ≡ min size (2 ^ 64 - 1)
  pub before : FitsBefore entries header limit side

-- at the path, as the first, the two listings have these entries, which aren't the same
pub record IsFirstApart (compare : Compare) (entries : Entries) (p : PathBytes) (one two : Option Entry) : Type 0 where
  pub one_is : entries One p ≡ one
  pub two_is : entries Two p ≡ two
  pub differ : same compare one two ≡ false
  pub first : (q : PathBytes) → slice_cmp nat_cmp q p ≡ Less → same compare (entries One q) (entries Two q) ≡ true

-- and both texts are within the limit
pub record IsApartAt (compare : Compare) (entries : Entries) (header : Header) (limit : ℕ) (p : PathBytes) (one two : Option Entry) : Type 0 where
  pub fits1 : Fits entries header limit One
  pub fits2 : Fits entries header limit Two
  pub apart : IsFirstApart compare entries p one two

-- why the final listings with these entries are refused; want of memory may be told of each
abbrev pub IsFaultIn : Compare → Entries → Header → ℕ → Bool → PlanFault → Type 0
IsFaultIn compare entries header limit check (TooLong side p) = ⊥
IsFaultIn compare entries header limit check (ListingTooLong side number) = IsTooLong entries header limit side number
IsFaultIn compare entries header limit check (OutOfSync p one two) = IsTrue check × IsApartAt compare entries header limit p one two
IsFaultIn compare entries header limit check OutOfMemory = ⊤

-- the run has names, and with them a final listing is too long
pub record IsListingTooLong (known : Known) (paths : List PathBytes) (header : Header) (limit : ℕ) (side : Side) (number : ℕ) : Type 0 where
  pub names : List Given
  pub are : AreNames known paths names
  pub long : IsTooLong (final_entry known names) header limit side number

-- the run has names, and with them the final listings aren't the same
pub record IsOutOfSync (known : Known) (paths : List PathBytes) (header : Header) (limit : ℕ) (p : PathBytes) (one two : Option Entry) : Type 0 where
  pub names : List Given
  pub are : AreNames known paths names
  pub apart : IsApartAt known.policy.compare (final_entry known names) header limit p one two

-- why a run has no plan
abbrev pub IsFaultOf : Known → List PathBytes → Header → ℕ → Bool → PlanFault → Type 0
IsFaultOf known paths header limit check (TooLong side p) = AreNotNames known paths side p
IsFaultOf known paths header limit check (ListingTooLong side number) = IsListingTooLong known paths header limit side number
IsFaultOf known paths header limit check (OutOfSync p one two) = IsTrue check × IsOutOfSync known paths header limit p one two
IsFaultOf known paths header limit check OutOfMemory = ⊤

-- why there is no plan where there are no names
abbrev pub of_names : NameFault → PlanFault
of_names (NameTooLong side p) = TooLong side p
of_names NoMemory = OutOfMemory

-- why a resync has none
abbrev pub IsResyncFault : Known → Header → ℕ → PlanFault → Type 0
IsResyncFault known header limit (TooLong side p) = ⊥
IsResyncFault known header limit (ListingTooLong side number) = IsTooLong (resync_entry known) header limit side number
IsResyncFault known header limit (OutOfSync p one two) = ⊥
IsResyncFault known header limit OutOfMemory = ⊤

-- why two listings don't agree; want of memory may be told of any two
abbrev pub IsApart : Compare → Entries → PlanFault → Type 0
IsApart compare entries (TooLong side p) = ⊥
IsApart compare entries (ListingTooLong side number) = ⊥
IsApart compare entries (OutOfSync p one two) = IsFirstApart compare entries p one two
IsApart compare entries OutOfMemory = ⊤
