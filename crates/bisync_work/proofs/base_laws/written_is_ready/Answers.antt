use Rattle.std.proofs.Common.{◌≡◌, ◌⊎◌, ℕ, sym, ap, subst, inl, inr}
use Rattle.bisync_tree.specs.Rows.{Rows}
use Rattle.bisync_listing.specs.Spelling.{listing_text}
use Rattle.bisync_listing.specs.ListingText.{IsListingText}
use Rattle.bisync_listing.specs.declared.headers.Header.{Header}
use Rattle.bisync_device.specs.WorkFolder.{Held, Kept, WorkFolder, IsSynced, bytes_of}
use Rattle.bisync_work.specs.declared.bases.Pair.TheVariants.{Old}
use Rattle.bisync_work.specs.Base.{Base, HasListing, NoPair, HasBaseIn, HasNoBase}
use Rattle.bisync_work.proofs.base_laws.written_is_ready.Goals as goal

no_first_pairs : (limit : ℕ) (f : WorkFolder) → ((base : Base) × HasBaseIn limit f Old base) ⊎ HasNoBase limit f → NoPair limit f.one f.two × NoPair limit f.one_old f.two
no_first_pairs limit f (inl old) = (old.1.0, old.1.1)
no_first_pairs limit f (inr none) = (none.0, none.1)

written : (limit : ℕ) (held : Held) (header : Header) (rows : Rows) → held ≡ Kept (listing_text header rows) → IsListingText limit header rows (listing_text header rows) → HasListing limit held header rows
written limit held header rows is text = record { bytes = listing_text header rows; there = ap bytes_of is; listing = text }

pub returns : goal.returns
returns c = λ limit f header one two are first second unused base.
    let no = no_first_pairs limit f base in
    record {
      one = written limit f.one_new header one are.one first;
      two = written limit f.two_new header two are.two second;
      one_synced = subst IsSynced (sym are.one) tt;
      two_synced = subst IsSynced (sym are.two) tt;
      unused = unused;
      no_current = no.0;
      no_mixed = no.1;
    }
