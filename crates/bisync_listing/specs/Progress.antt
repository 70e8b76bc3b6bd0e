-- How far a reader has come: the lines that it has seen, and the line that it is in.
use Rattle.std.specs.Prelude.{◌≡◌, ℕ, ◌+◌, ◌*◌, ◌<◌, ◌≤◌, ◌^◌, ◌⊎◌, ⊤, List, [], ◌∷◌, ◌++◌, length, map, Option, Some, None, is_some, true, Result, Ok, Err}
use Rattle.bisync_tree.specs.Rows.{PathBytes, Rows, keys, IsAboveLast}
use Rattle.bisync_tree.specs.declared.entries.Entry.{Entry}
use Rattle.bisync_listing.specs.Words.{Lacks, text_of_lines}
use Rattle.bisync_listing.specs.Spelling.{header_line, file_line, end_line}
use Rattle.bisync_listing.specs.ListingText.{IsHeader, IsListed, HasDigestFor, AreListed}
use Rattle.bisync_listing.specs.Answers.{Reading}
use Rattle.bisync_listing.specs.declared.headers.Header.{Header}
use Rattle.bisync_listing.specs.declared.faults.ListingFault.{ListingFault}
use Rattle.bisync_listing.specs.declared.faults.ListingFault.TheVariants.{BadLine, OutOfMemory}
use Rattle.bisync_listing.specs.declared.progress.Place.{Place}
use Rattle.bisync_listing.specs.declared.progress.Place.TheVariants.{Start, Open, Closed}
use Rattle.bisync_listing.specs.declared.progress.Progress.{Progress}

-- the lines that a reader at that place has seen
unfoldable pub lines_at : Place → Header → Rows → List (List ℕ)
lines_at Start header rows = []
lines_at Open header rows = header_line header ∷ map file_line rows
lines_at Closed header rows = header_line header ∷ (map file_line rows ++ end_line (length rows) ∷ [])

abbrev pub text_at : Place → Header → Rows → List ℕ
text_at place header rows = text_of_lines (lines_at place header rows)

-- these lines are as required
abbrev pub IsGoodAt : Place → Header → Rows → Type 0
IsGoodAt Start header rows = rows ≡ []
IsGoodAt Open header rows = IsHeader header × AreListed header rows
IsGoodAt Closed header rows = IsHeader header × AreListed header rows × (is_some header.fields ≡ true)

-- the file may be the next one
pub record MayFollow (header : Header) (rows : Rows) (row : PathBytes × Entry) : Type 0 where
  pub listed : IsListed row
  pub digest : HasDigestFor header.fields row.1
  pub above : IsAboveLast (keys rows) row.0

-- the line may be the next one
abbrev pub CanFollow : Place → Header → Rows → List ℕ → Type 0
CanFollow Start header rows line = (next : Header) × IsHeader next × (line ≡ header_line next)
CanFollow Open header rows line = ((row : PathBytes × Entry) × MayFollow header rows row × (line ≡ file_line row)) ⊎ ((is_some header.fields ≡ true) × (line ≡ end_line (length rows)))
CanFollow Closed header rows line = ⊥

-- a text may end there
abbrev pub IsWhole : Place → Header → Type 0
IsWhole Start header = ⊥
IsWhole Open header = header.fields ≡ None
IsWhole Closed header = ⊤

-- a line that is ended and may not be the next one
pub record IsWrong (place : Place) (header : Header) (rows : Rows) (rest : List ℕ) : Type 0 where
  pub line : List ℕ
  pub more : List ℕ
  pub one : Lacks 10 line
  pub parts : rest ≡ line ++ 10 ∷ more
  pub refused : CanFollow place header rows line → ⊥

-- a line that has more bytes than any line, or holds a byte past the room that is left
pub record IsLong (room : ℕ) (rest : List ℕ) : Type 0 where
  pub line : List ℕ
  pub more : List ℕ
  pub one : Lacks 10 line
  pub parts : rest ≡ line ++ more
  pub long : (16483 < length line) ⊎ (room < length line)

-- a newline that is the first byte past the limit
pub record IsCutOff (room : ℕ) (rest : List ℕ) : Type 0 where
  pub line : List ℕ
  pub more : List ℕ
  pub one : Lacks 10 line
  pub parts : rest ≡ line ++ 10 ∷ more
  pub full : length line ≡ room

-- line n is the first bad line, whatever comes
pub record IsBad (limit n : ℕ) (text : List ℕ) : Type 0 where
  pub place : Place
  pub header : Header
  pub rows : Rows
  pub before : IsGoodAt place header rows
  pub number : n ≡ length (lines_at place header rows) + 1
  pub room : ℕ
  pub within : length (text_at place header rows) + room ≡ limit
  pub rest : List ℕ
  pub parts : text ≡ text_at place header rows ++ rest
  pub bad : IsWrong place header rows rest ⊎ (IsLong room rest ⊎ IsCutOff room rest)

-- the text so far, of a reader that has met no fault
abbrev pub text_so_far : Progress → List ℕ
text_so_far p = text_at p.place p.header p.rows ++ p.line

pub record IsReading (p : Progress) : Type 0 where
  pub good : IsGoodAt p.place p.header p.rows
  pub one : Lacks 10 p.line
  pub short : length p.line ≤ 16483
  pub used : p.used ≡ length (text_so_far p)
  pub within : p.used ≤ p.limit
  pub limit : p.limit < 2 ^ 64
  pub number : p.lines ≡ length (lines_at p.place p.header p.rows)
  pub few : 2 * p.lines ≤ length (text_at p.place p.header p.rows)

-- a reader that has a fault keeps it; any other has a text
abbrev pub IsSoundAt : Option ListingFault → Progress → Type 0
IsSoundAt None p = IsReading p
IsSoundAt (Some fault) p = Unit {0}

abbrev pub IsSound : Progress → Type 0
IsSound p = IsSoundAt p.fault p

abbrev pub reading_of : Progress → Reading
reading_of p = record { limit = p.limit; text = text_so_far p; fault = p.fault }

-- why the fault comes, for a text that begins so
abbrev pub IsCause : ℕ → ListingFault → List ℕ → Type 0
IsCause limit (BadLine n) text = IsBad limit n text
IsCause limit OutOfMemory text = Unit {0}

-- what a piece does to a reader that has met no fault
abbrev pub Takes : Progress → List ℕ → Result Unit ListingFault → Progress → Type 0
Takes old piece (Ok u) new = (new.fault ≡ None) × (text_so_far new ≡ text_so_far old ++ piece)
Takes old piece (Err fault) new = (new.fault ≡ Some fault) × IsCause old.limit fault (text_so_far old ++ piece)

-- the text ends in a line, or where no text may end
abbrev pub IsUnended : Progress → Type 0
IsUnended p = IsWhole p.place p.header → p.line ≡ [] → ⊥
