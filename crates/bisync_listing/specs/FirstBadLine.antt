-- The first bad line of a text. Lines are counted from 1.
use Rattle.std.specs.Prelude.{◌≡◌, ℕ, ◌+◌, ◌<◌, ◌≤◌, ◌⊎◌, List, ◌∷◌, ◌++◌, length}
use Rattle.bisync_tree.specs.Rows.{Rows}
use Rattle.bisync_listing.specs.Words.{Lacks, AreLines, text_of_lines}
use Rattle.bisync_listing.specs.Spelling.{listing_lines}
use Rattle.bisync_listing.specs.ListingText.{IsHeader, AreListed, IsListingText}
use Rattle.bisync_listing.specs.declared.headers.Header.{Header}

-- The first n lines of the text are as required: they are there with their newlines, they are the first n
-- lines of some listing, so each has its form, its place, a path above the one before and the right count,
-- and none holds a byte past the limit.
pub record AreAsRequired (limit : ℕ) (text : List ℕ) (n : ℕ) : Type 0 where
  pub header : Header
  pub rows : Rows
  pub is_header : IsHeader header
  pub are_listed : AreListed header rows
  pub front : List (List ℕ)
  pub after : List (List ℕ)
  pub lines : listing_lines header rows ≡ front ++ after
  pub count : length front ≡ n
  pub rest : List ℕ
  pub begins : text ≡ text_of_lines front ++ rest
  pub within : length (text_of_lines front) ≤ limit

-- The lines before line n are as required, and line n is not. A text without its last line is bad in the line
-- after its last, and an empty one in line 1. A listing text has no bad line.
pub record IsFirstBadLine (limit : ℕ) (text : List ℕ) (n : ℕ) : Type 0 where
  pub before : (m : ℕ) × (n ≡ m + 1) × AreAsRequired limit text m
  pub bad : AreAsRequired limit text n → ⊥
  pub no_listing : (header : Header) (rows : Rows) → IsListingText limit header rows text → ⊥

-- What can be seen of line n shows how it ends: by its newline, or in more than 16,483 bytes, or with the
-- first byte past the limit.
pub record IsSettled (limit : ℕ) (text : List ℕ) (n : ℕ) : Type 0 where
  pub before : List (List ℕ)
  pub lines : AreLines before
  pub number : n ≡ length before + 1
  pub line : List ℕ
  pub one : Lacks 10 line
  pub more : List ℕ
  pub parts : text ≡ text_of_lines before ++ (line ++ more)
  pub how : ((next : List ℕ) × (more ≡ 10 ∷ next)) ⊎ ((16483 < length line) ⊎ (limit < length (text_of_lines before) + length line))
