-- The matching by tests: whether a text has a front that a part matches and a back that passes a test. Internal: the public contracts cite Matching.
use Rattle.std.specs.Prelude.{◌≡◌, ◌≤◌, ◌<◌, ◌==◌, ◌&&◌, ◌||◌, ◌+◌, ℕ, Bool, true, false, not, List, [], ◌∷◌, length, get_or, drop}
use Rattle.bisync_glob.specs.declared.parts.Simple.{Simple}
use Rattle.bisync_glob.specs.declared.parts.Simple.TheVariants.{Literal, AnyChar, Class, Star, Stars}
use Rattle.bisync_glob.specs.declared.parts.Part.{Part}
use Rattle.bisync_glob.specs.declared.parts.Part.TheVariants.{Plain, Choice}
use Rattle.bisync_glob.specs.Matching.{class_takes}

-- a front of one character that p takes
abbrev pub one_then : (ℕ → Bool) → (List ℕ → Bool) → List ℕ → Bool
one_then p q [] = false
one_then p q (c ∷ text) = q text && p c

-- a front of characters that all pass p
abbrev pub run_then : (ℕ → Bool) → (List ℕ → Bool) → List ℕ → Bool
run_then p q [] = q []
run_then p q (c ∷ text) = q (c ∷ text) || (run_then p q text && p c)

abbrev pub simple_then : Simple → (List ℕ → Bool) → List ℕ → Bool
simple_then (Literal d) q text = one_then (λ c. c == d) q text
simple_then AnyChar q text = one_then (λ c. not (c == 47)) q text
simple_then (Class class) q text = one_then (class_takes class) q text
simple_then Star q text = run_then (λ c. not (c == 47)) q text
simple_then Stars q text = run_then (λ c. true) q text

abbrev pub alternative_then : List Simple → (List ℕ → Bool) → List ℕ → Bool
alternative_then [] q text = q text
alternative_then (part ∷ rest) q text = simple_then part (alternative_then rest q) text

abbrev pub any_then : List (List Simple) → (List ℕ → Bool) → List ℕ → Bool
any_then [] q text = false
any_then (alternative ∷ others) q text = alternative_then alternative q text || any_then others q text

abbrev pub part_then : Part → (List ℕ → Bool) → List ℕ → Bool
part_then (Plain simple) q text = simple_then simple q text
part_then (Choice alternatives) q text = any_then alternatives q text

abbrev pub is_nil : List ℕ → Bool
is_nil [] = true
is_nil (c ∷ text) = false

abbrev pub parts_match : List Part → List ℕ → Bool
parts_match [] text = is_nil text
parts_match (part ∷ rest) text = part_then part (parts_match rest) text

-- no entry below low is set
abbrev pub IsBlank : List Bool → ℕ → Type 0
IsBlank table low = (k : ℕ) → k < low → get_or table k false ≡ false

-- the entry at i answers the test of what is left of the text from i on
pub record IsTable (q : List ℕ → Bool) (text : List ℕ) (table : List Bool) : Type 0 where
  pub len : length table ≡ length text + 1
  pub at : (i : ℕ) → i ≤ length text → get_or table i false ≡ q (drop i text)
