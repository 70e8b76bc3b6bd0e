-- What reading a text answers, at once or in pieces.
use Rattle.std.specs.Prelude.{⊤, ℕ, List, Option}
use Rattle.bisync_listing.specs.FirstBadLine.{IsFirstBadLine, IsSettled}
use Rattle.bisync_listing.specs.declared.faults.ListingFault.{ListingFault}
use Rattle.bisync_listing.specs.declared.faults.ListingFault.TheVariants.{BadLine, OutOfMemory}

-- a reader: the most bytes that its text may have, the fault that it has met, and while there is none the text so far; of the
-- text nothing is said once a fault was met
pub record Reading : Type 0 where
  pub limit : ℕ
  pub text : List ℕ
  pub fault : Option ListingFault

-- The fault of a whole text. Want of memory may be told of each text.
abbrev pub IsFault : ℕ → List ℕ → ListingFault → Type 0
IsFault limit text (BadLine n) = IsFirstBadLine limit text n
IsFault limit text OutOfMemory = ⊤

-- the fault of a text that may go on
abbrev pub IsSettledFault : ℕ → List ℕ → ListingFault → Type 0
IsSettledFault limit text (BadLine n) = IsFirstBadLine limit text n × IsSettled limit text n
IsSettledFault limit text OutOfMemory = ⊤

-- no bad line can be told yet
abbrev pub IsGoodSoFar : ℕ → List ℕ → Type 0
IsGoodSoFar limit text = (n : ℕ) → IsFirstBadLine limit text n → IsSettled limit text n → ⊥
