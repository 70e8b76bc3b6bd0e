-- What the writing of an ordinary run leaves of the base and of the new listings.
use Rattle.std.proofs.Common.{◌≡◌, ◌≤◌, ◌∙◌, ℕ, length, ap, sym, subst}
use Rattle.bisync_tree.specs.Rows.{Rows}
use Rattle.bisync_listing.specs.Spelling.{listing_text}
use Rattle.bisync_listing.specs.ListingText.{IsListingText}
use Rattle.bisync_listing.specs.declared.headers.Header.{Header}
use Rattle.bisync_plan.specs.Plans.{header_of}
use Rattle.bisync_device.specs.WorkFolder.{Held, Kept, WorkFolder, IsSynced, bytes_of}
use Rattle.bisync_work.specs.declared.bases.Pair.{Pair}
use Rattle.bisync_work.specs.declared.bases.Pair.TheVariants.{Current, Mixed, Old}
use Rattle.bisync_work.specs.Base.{Base, HasListing, HasBaseIn}
use Rattle.bisync_work.specs.Moves.{KeepsBase, SetsBack, IsReady, but_set_back}
use Rattle.bisync_work.specs.Stamps.{IsUnused}
use Rattle.bisync_work.specs.NewListings.{AreWritten, but_new}
use Rattle.bisync_work.proofs.BaseLaws.{same_keeps, same_in_pair}
use Rattle.bisync_work.proofs.SetBackLaws.{keeps_then}
use Rattle.bisync_run.specs.OrdinaryChanges.{IsPrepared, IsSetBack}
use Rattle.bisync_run.specs.declared.prepared.Prepared.{Prepared}
use Rattle.bisync_run.proofs.ResyncWrites.{new_same}

pub new_keeps : (limit : ℕ) (f g : WorkFolder) → but_new g ≡ but_new f → KeepsBase limit f g
new_keeps limit f g rest = same_keeps limit f g (new_same f g rest)

-- new listings, and then a set back
pub back_keeps : (limit : ℕ) (f g h : WorkFolder) (pair : Pair) (before : Base) → but_new g ≡ but_new f → SetsBack pair g h → HasBaseIn limit f pair before → KeepsBase limit f h
back_keeps limit f g h pair before rest back is =
    keeps_then limit (new_keeps limit f g rest) (back.base limit before (same_in_pair limit f g (new_same f g rest) pair before is))

-- # The new listings

one_new_stays : (pair : Pair) (f g : WorkFolder) → but_set_back pair g ≡ but_set_back pair f → g.one_new ≡ f.one_new
one_new_stays Current f g rest = ap (λ (x : WorkFolder). x.one_new) rest
one_new_stays Mixed f g rest = ap (λ (x : WorkFolder). x.one_new) rest
one_new_stays Old f g rest = ap (λ (x : WorkFolder). x.one_new) rest

two_new_stays : (pair : Pair) (f g : WorkFolder) → but_set_back pair g ≡ but_set_back pair f → g.two_new ≡ f.two_new
two_new_stays Current f g rest = ap (λ (x : WorkFolder). x.two_new) rest
two_new_stays Mixed f g rest = ap (λ (x : WorkFolder). x.two_new) rest
two_new_stays Old f g rest = ap (λ (x : WorkFolder). x.two_new) rest

pub written_past : (pair : Pair) (f g : WorkFolder) (header : Header) (rows others : Rows) → SetsBack pair f g → AreWritten header rows others f → AreWritten header rows others g
written_past pair f g header rows others back are = record {
  one = one_new_stays pair f g back.rest ∙ are.one;
  two = two_new_stays pair f g back.rest ∙ are.two;
}

written_synced : (held : Held) (header : Header) (rows : Rows) → held ≡ Kept (listing_text header rows) → IsSynced held
written_synced held header rows is = subst IsSynced (sym is) tt

pub one_synced : (f : WorkFolder) (header : Header) (rows others : Rows) → AreWritten header rows others f → IsSynced f.one_new
one_synced f header rows others are = written_synced f.one_new header rows are.one

pub two_synced : (f : WorkFolder) (header : Header) (rows others : Rows) → AreWritten header rows others f → IsSynced f.two_new
two_synced f header rows others are = written_synced f.two_new header others are.two

written_listing : (limit : ℕ) (held : Held) (header : Header) (rows : Rows) → held ≡ Kept (listing_text header rows) → IsListingText limit header rows (listing_text header rows) → HasListing limit held header rows
written_listing limit held header rows is text = record { bytes = listing_text header rows; there = ap bytes_of is; listing = text }

-- # The set back

written_ready : (limit : ℕ) (f : WorkFolder) (header : Header) (rows others : Rows) (before : Base) → AreWritten header rows others f
    → IsListingText limit header rows (listing_text header rows) → IsListingText limit header others (listing_text header others)
    → IsUnused limit f header.stamp → HasBaseIn limit f Old before → IsReady limit f (record { header = header; one = rows; two = others })
written_ready limit f header rows others before are first second unused old = record {
  one = written_listing limit f.one_new header rows are.one first;
  two = written_listing limit f.two_new header others are.two second;
  one_synced = one_synced f header rows others are;
  two_synced = two_synced f header rows others are;
  unused = unused;
  no_current = old.0;
  no_mixed = old.1;
}

reads_again : (header made : Header) → header ≡ made → (rows : Rows) → ((limit : ℕ) → length (listing_text header rows) ≤ limit → IsListingText limit header rows (listing_text header rows))
    → (limit : ℕ) → length (listing_text made rows) ≤ limit → IsListingText limit made rows (listing_text made rows)
reads_again header made same rows read =
    subst (λ (x : Header). (limit : ℕ) → length (listing_text x rows) ≤ limit → IsListingText limit x rows (listing_text x rows)) same read

module _ (limit : ℕ) (f g h : WorkFolder) (pair : Pair) (before : Base) (prepared : Prepared) (header : Header) (same : header ≡ header_of prepared.stamp prepared.compare) where
  pub set_back : IsPrepared limit f pair before prepared → but_new g ≡ but_new f → AreWritten header prepared.plan.final1 prepared.plan.final2 g
      → ((most : ℕ) → length (listing_text header prepared.plan.final1) ≤ most → IsListingText most header prepared.plan.final1 (listing_text header prepared.plan.final1))
      → ((most : ℕ) → length (listing_text header prepared.plan.final2) ≤ most → IsListingText most header prepared.plan.final2 (listing_text header prepared.plan.final2))
      → SetsBack pair g h → (HasBaseIn limit g pair before → HasBaseIn limit h Old before) → IsSetBack limit before prepared h
  set_back is rest are read1 read2 back moved =
      let made = header_of prepared.stamp prepared.compare in
      let old : HasBaseIn limit h Old before = moved (same_in_pair limit f g (new_same f g rest) pair before is.is) in
      let written : AreWritten made prepared.plan.final1 prepared.plan.final2 g = subst (λ (x : Header). AreWritten x prepared.plan.final1 prepared.plan.final2 g) same are in
      record {
        is = old;
        ready = written_ready limit h made prepared.plan.final1 prepared.plan.final2 before (written_past pair g h made prepared.plan.final1 prepared.plan.final2 back written)
            (reads_again header made same prepared.plan.final1 read1 limit is.fits.one)
            (reads_again header made same prepared.plan.final2 read2 limit is.fits.two)
            ((back_keeps limit f g h pair before rest back is.is).unused prepared.stamp is.unused)
            old;
      }
