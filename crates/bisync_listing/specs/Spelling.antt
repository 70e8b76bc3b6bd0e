-- The lines of a listing text, without their newlines. The text is this project's own.
use Rattle.std.specs.Prelude.{ℕ, ◌/◌, ◌%◌, Bool, true, false, List, [], ◌∷◌, ◌++◌, length, map, Option, Some, None, codes}
use Rattle.std.specs.List.{flat_map}
use Rattle.std.specs.Fmt.{decimal}
use Rattle.bisync_text.specs.Quote.{hex_digit, quoted}
use Rattle.bisync_text.specs.Time.{time_spelling}
use Rattle.bisync_tree.specs.Rows.{PathBytes, Rows}
use Rattle.bisync_tree.specs.declared.entries.Entry.{Entry}
use Rattle.bisync_tree.specs.declared.entries.Compare.{Compare}
use Rattle.bisync_listing.specs.Words.{text_of_lines}
use Rattle.bisync_listing.specs.declared.headers.Header.{Header}

-- the compared fields: size, modtime and checksum in this order, joined by commas
abbrev pub field_names : Bool → Bool → Bool → List ℕ
field_names true false false = codes "size"
field_names false true false = codes "modtime"
field_names false false true = codes "checksum"
field_names true true false = codes "size,modtime"
field_names true false true = codes "size,checksum"
field_names false true true = codes "modtime,checksum"
field_names true true true = codes "size,modtime,checksum"
field_names false false false = []

abbrev pub fields_text : Compare → List ℕ
fields_text fields = field_names fields.size fields.time fields.hash

-- the first line, in version 1 without fields and in version 2 with them
abbrev pub header_text : ℕ → Option Compare → List ℕ
header_text stamp None = codes "# bisync listing v1 stamp " ++ decimal stamp
header_text stamp (Some fields) = codes "# bisync listing v2 stamp " ++ (decimal stamp ++ (codes " fields " ++ fields_text fields))

unfoldable pub header_line : Header → List ℕ
header_line header = header_text header.stamp header.fields

-- two lower-case hexadecimal digits for each byte
abbrev pub hex_digits : List ℕ → List ℕ
hex_digits bytes = flat_map (λ b. hex_digit (b / 16) ∷ (hex_digit (b % 16) ∷ [])) bytes

abbrev pub digest_text : Option (List ℕ) → List ℕ
digest_text None = codes "-"
digest_text (Some bytes) = codes "md5:" ++ hex_digits bytes

-- the line of a file
unfoldable pub file_line : PathBytes × Entry → List ℕ
file_line row = codes "- " ++ (decimal row.1.size ++ (32 ∷ (digest_text row.1.hash ++ (codes " - " ++ (time_spelling row.1.time ++ (32 ∷ quoted row.0))))))

-- the last line of version 2, with the number of file lines
unfoldable pub end_line : ℕ → List ℕ
end_line count = codes "# end " ++ (decimal count ++ codes " files")

-- version 1 has no end line
abbrev pub end_lines : Option Compare → ℕ → List (List ℕ)
end_lines None count = []
end_lines (Some fields) count = end_line count ∷ []

abbrev pub listing_lines : Header → Rows → List (List ℕ)
listing_lines header rows = header_line header ∷ (map file_line rows ++ end_lines header.fields (length rows))

-- the text of a listing: its lines, each ended by a newline
unfoldable pub listing_text : Header → Rows → List ℕ
listing_text header rows = text_of_lines (listing_lines header rows)
