-- What a path is: names joined by `/`.
use Rattle.std.specs.Prelude.{◌≡◌, ◌≢◌, ◌≤◌, ◌==◌, ◌||◌, ◌⊎◌, ℕ, Bool, not, IsTrue, List, [], ◌∷◌, ◌++◌, length, codes, All, IsUtf8}
use Rattle.std.specs.Str.{bytes_eq}
use Rattle.std.specs.List.{slice_split, list_all, list_any}

-- the names, from the front
abbrev pub names : List ℕ → List (List ℕ)
names text = slice_split (λ b. b == 47) text

-- whether a text may stand as a name: not empty, not `.` or `..`, and without NUL
abbrev pub is_name : List ℕ → Bool
is_name name = not (bytes_eq name [] || bytes_eq name (46 ∷ []) || bytes_eq name (46 ∷ 46 ∷ []) || list_any (λ b. b == 0) name)

-- the name under which a commit is written before it is renamed
abbrev pub partial_name : List ℕ
partial_name = codes ".bisync-partial"

-- a text that is a path
pub record IsPath (text : List ℕ) : Type 0 where
  pub names : IsTrue (list_all is_name (names text))
  pub utf8 : IsUtf8 text
  pub short : length text ≤ 4096
  pub not_partial : text ≢ partial_name

-- the part is the whole text or what follows a slash of it, and no slash is in it
pub record IsLastPart (text part : List ℕ) : Type 0 where
  pub ends : (text ≡ part) ⊎ ((before : List ℕ) × (text ≡ before ++ 47 ∷ part))
  pub no_slash : All (λ b. b ≢ 47) part
