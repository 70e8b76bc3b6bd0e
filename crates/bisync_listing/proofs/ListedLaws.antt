-- The rows of a listing that was gone through.
use Rattle.std.proofs.Common.{◌≡◌, ℕ, zero, suc, ◌≤◌, List, [], ◌∷◌, length, take, Some, refl, sym, subst, arith, is_some, true}
use Rattle.std.specs.Prelude.{slice_get}
use Rattle.std.specs.List.{AllByRecursion}
use Rattle.bisync_tree.specs.Rows.{PathBytes, Rows, keys, values, AreRising}
use Rattle.bisync_tree.specs.declared.entries.Entry.{Entry}
use Rattle.bisync_listing.specs.Spelling.{listing_text}
use Rattle.bisync_listing.specs.ListingText.{IsListed, IsListingText}
use Rattle.bisync_listing.specs.Writing.{MayBeWritten}
use Rattle.bisync_listing.specs.declared.headers.Header.{Header}

-- one row more
pub seen_more : (rows : Rows) (n : ℕ) (path : PathBytes) (entry : Entry) → slice_get (keys rows) n ≡ Some path → slice_get (values rows) n ≡ Some entry → IsListed (path, entry) → AllByRecursion IsListed (take n rows) → AllByRecursion IsListed (take (suc n) rows)
seen_more [] n path entry p e is all = tt
seen_more (r ∷ rows) zero path entry p e is all =
    let first : r.0 ≡ path = cc in
    let second : r.1 ≡ entry = cc in
    let same : r ≡ (path, entry) = λ i. (first i, second i) in
    (subst IsListed (sym same) is, tt)
seen_more (r ∷ rows) (suc n) path entry p e is all = (all.0, seen_more rows n path entry p e is all.1)

pub seen_all : (rows : Rows) (n : ℕ) → length rows ≤ n → AllByRecursion IsListed (take n rows) → AllByRecursion IsListed rows
seen_all [] n h all = tt
seen_all (r ∷ rows) zero h all = absurd (omega arith)
seen_all (r ∷ rows) (suc n) h all = (all.0, seen_all rows n (omega arith) all.1)

-- what is written is a listing text under each limit that it does not pass
pub written_is_text : (header : Header) (rows : Rows) → MayBeWritten header rows → AreRising (keys rows) → AllByRecursion IsListed rows → (limit : ℕ) → length (listing_text header rows) ≤ limit → IsListingText limit header rows (listing_text header rows)
written_is_text header rows may rising each limit within = record {
  is_header = may.is_header;
  are_listed = record { rising = rising; each = each; digests = may.digests };
  spelled = refl;
  within = within;
}

-- what was read in version 2 may be written
pub may_be_written : (limit : ℕ) (header : Header) (rows : Rows) (text : List ℕ) → IsListingText limit header rows text → is_some header.fields ≡ true → MayBeWritten header rows
may_be_written limit header rows text t some = record { is_header = t.is_header; has_fields = some; digests = t.are_listed.digests }
