-- A text is that of one header and one listing.
use Rattle.std.proofs.Common.{◌≡◌, ℕ, ◌<◌, ◌^◌, List, ◌++◌, length, map, sym, ap, ◌∙◌}
use Rattle.bisync_tree.specs.Rows.{Rows}
use Rattle.bisync_listing.specs.Spelling.{header_line, file_line, end_lines, listing_lines, listing_text}
use Rattle.bisync_listing.specs.ListingText.{IsListingText}
use Rattle.bisync_listing.specs.declared.headers.Header.{Header}
use Rattle.bisync_listing.proofs.SpellingLaws.{header_line_one}
use Rattle.bisync_listing.proofs.TextLaws.{lines_same, rows_one}
use Rattle.bisync_listing.proofs.FrontLaws.{lines_of_short, listing_short}

pub listing_text_one : (limit other : ℕ) (g h : Header) (rows others : Rows) (text : List ℕ) → limit < 2 ^ 64 → other < 2 ^ 64 → IsListingText limit g rows text → IsListingText other h others text → (g ≡ h) × (rows ≡ others)
unfolding listing_text
listing_text_one limit other g h rows others text small small' a b =
    let lines : listing_lines g rows ≡ listing_lines h others =
    lines_same (listing_lines g rows) (listing_lines h others) (lines_of_short (listing_lines g rows) (listing_short limit g rows text a small)) (lines_of_short (listing_lines h others) (listing_short other h others text b small')) (sym a.spelled ∙ b.spelled) in
    let first : header_line g ≡ header_line h = cc in
    let rest : map file_line rows ++ end_lines g.fields (length rows) ≡ map file_line others ++ end_lines h.fields (length others) = cc in
    let header = header_line_one g h a.is_header b.is_header first in
    let same : map file_line rows ++ end_lines h.fields (length rows) ≡ map file_line others ++ end_lines h.fields (length others) =
    ap (λ (x : Header). map file_line rows ++ end_lines x.fields (length rows)) (sym header) ∙ rest in
    (header, rows_one h.fields (length rows) (length others) rows others a.are_listed.each b.are_listed.each same)
