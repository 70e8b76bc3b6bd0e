-- Lists of bytes, each ended by one byte that is in none of them: lines and words.
use Rattle.std.specs.Prelude.{◌≡◌, ℕ, List, [], ◌∷◌, ◌++◌}
use Rattle.std.specs.List.{flat_map, AllByRecursion}

-- this byte is not among them
abbrev pub Lacks : ℕ → List ℕ → Type 0
Lacks b bytes = AllByRecursion (λ c. c ≡ b → ⊥) bytes

-- a line with its newline
abbrev pub ended : List ℕ → List ℕ
ended line = line ++ 10 ∷ []

-- the text of these lines
abbrev pub text_of_lines : List (List ℕ) → List ℕ
text_of_lines lines = flat_map ended lines

-- none of the lines has a newline in it
abbrev pub AreLines : List (List ℕ) → Type 0
AreLines lines = AllByRecursion (Lacks 10) lines
