-- Which texts are listing texts.
use Rattle.std.specs.Prelude.{◌≡◌, ◌≢◌, ℕ, ◌<◌, ◌≤◌, ◌^◌, List, [], length, Option, Some, None, IfSome, is_some, FitsSigned}
use Rattle.std.specs.Int.{w64}
use Rattle.std.specs.List.{AllByRecursion}
use Rattle.bisync_text.specs.Path.{IsPath}
use Rattle.bisync_tree.specs.Rows.{PathBytes, Rows, keys, AreRising}
use Rattle.bisync_tree.specs.declared.entries.Entry.{Entry}
use Rattle.bisync_tree.specs.declared.entries.Compare.{Compare}
use Rattle.bisync_tree.specs.declared.windows.Window.TheVariants.{Ns1}
use Rattle.bisync_listing.specs.Spelling.{fields_text, listing_text}
use Rattle.bisync_listing.specs.declared.headers.Header.{Header}

-- at least one field is compared, and times to the nanosecond
pub record AreFields (fields : Compare) : Type 0 where
  pub some : fields_text fields ≢ []
  pub window : fields.window ≡ Ns1

-- a stamp in its range, and in version 2 the compared fields
pub record IsHeader (header : Header) : Type 0 where
  pub low : 1 ≤ header.stamp
  pub high : header.stamp ≤ 999_999_999_999_999_999
  pub fields : IfSome header.fields AreFields

-- 16 bytes
pub record IsDigest (bytes : List ℕ) : Type 0 where
  pub count : length bytes ≡ 16
  pub each : AllByRecursion (λ b. b < 256) bytes

-- a path, and a size, a time and a digest that 64 bits and 16 bytes hold
pub record IsListed (row : PathBytes × Entry) : Type 0 where
  pub path : IsPath row.0
  pub size : row.1.size < 2 ^ 64
  pub time : FitsSigned w64 row.1.time
  pub hash : IfSome row.1.hash IsDigest

-- in version 2 there is a digest exactly where checksums are compared
abbrev pub HasDigestFor : Option Compare → Entry → Type 0
HasDigestFor None entry = Unit {0}
HasDigestFor (Some fields) entry = fields.hash ≡ is_some entry.hash

-- what a listing with that header may hold: paths in strictly ascending byte order
pub record AreListed (header : Header) (rows : Rows) : Type 0 where
  pub rising : AreRising (keys rows)
  pub each : AllByRecursion IsListed rows
  pub digests : AllByRecursion (λ row. HasDigestFor header.fields row.1) rows

-- the text is that of the header and the rows, within the limit
pub record IsListingText (limit : ℕ) (header : Header) (rows : Rows) (text : List ℕ) : Type 0 where
  pub is_header : IsHeader header
  pub are_listed : AreListed header rows
  pub spelled : text ≡ listing_text header rows
  pub within : length text ≤ limit
