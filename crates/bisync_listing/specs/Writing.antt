-- What may be written, and what of a text is still to come.
use Rattle.std.specs.Prelude.{◌≡◌, ℕ, ◌≤◌, Bool, true, false, List, [], ◌∷◌, ◌++◌, length, map, drop, is_some}
use Rattle.std.specs.List.{AllByRecursion}
use Rattle.bisync_tree.specs.Rows.{Rows}
use Rattle.bisync_listing.specs.Words.{text_of_lines}
use Rattle.bisync_listing.specs.Spelling.{file_line, end_line}
use Rattle.bisync_listing.specs.ListingText.{IsHeader, HasDigestFor}
use Rattle.bisync_listing.specs.declared.headers.Header.{Header}
use Rattle.bisync_listing.specs.declared.pending.Pending.{Pending}

-- a stamp in its range, fields with at least one set, and entries with a digest exactly where checksums are compared
pub record MayBeWritten (header : Header) (rows : Rows) : Type 0 where
  pub is_header : IsHeader header
  pub has_fields : is_some header.fields ≡ true
  pub digests : AllByRecursion (λ row. HasDigestFor header.fields row.1) rows

-- the lines after the first from that row on, or none where the end line was begun
abbrev pub lines_from : Bool → Rows → ℕ → List (List ℕ)
lines_from true rows next = []
lines_from false rows next = map file_line (drop next rows) ++ end_line (length rows) ∷ []

abbrev pub to_come : Pending → List ℕ
to_come p = drop p.given p.line ++ text_of_lines (lines_from p.ended p.listing.now p.next)

pub record IsWriting (p : Pending) : Type 0 where
  pub in_range : p.next ≤ length p.listing.now
  pub in_line : p.given ≤ length p.line
