-- The names that the losers of conflicts get. After `--conflict-loser` and `--conflict-suffix` of rclone's manual page
-- "bisync"; the candidates, their order and when one is free are this project's own.
use Rattle.std.specs.Prelude.{◌≡◌, ℕ, ◌+◌, ◌<◌, ◌≤◌, ◌==◌, Bool, true, false, ◌&&◌, ◌||◌, List, [], ◌∷◌, ◌++◌, length, Option, Some, None, is_some, flat_map, bytes_eq, decimal, if◌then◌else◌}
use Rattle.bisync_tree.specs.Side.{is_side}
use Rattle.bisync_tree.specs.Rows.{PathBytes, is_among}
use Rattle.bisync_tree.specs.declared.sides.Side.{Side}
use Rattle.bisync_tree.specs.declared.sides.Side.TheVariants.{One, Two}
use Rattle.bisync_tree.specs.declared.options.Loser.{Loser}
use Rattle.bisync_tree.specs.declared.options.Loser.TheVariants.{Num, Pathname, Delete}
use Rattle.bisync_tree.specs.declared.steps.Given.{Given}
use Rattle.bisync_model.specs.Policy.{Policy}
use Rattle.bisync_model.specs.Known.{Known}
use Rattle.bisync_model.specs.Conflict.{is_named_loser}

-- a side's suffix, with the side's number, 1 or 2, where both suffixes are equal
abbrev pub mark : (Side → List ℕ) → Side → List ℕ
mark suffix side =
    if bytes_eq (suffix One) (suffix Two)
    then suffix side ++ (if is_side side One then 49 else 50) ∷ []
    else suffix side

-- what follows the point in a candidate: the suffix with a number from 1, or the mark, and from the second candidate on
-- `-` and a number from 2; candidates count from 0
abbrev pub conflict_suffix : Loser → (Side → List ℕ) → Side → ℕ → List ℕ
conflict_suffix Num suffix side k = suffix side ++ decimal (k + 1)
conflict_suffix Delete suffix side k = suffix side ++ decimal (k + 1)
conflict_suffix Pathname suffix side k = mark suffix side ++ (if k == 0 then [] else 45 ∷ decimal (k + 1))

-- a name for the file at a path of a side
abbrev pub candidate_by : Loser → (Side → List ℕ) → Side → PathBytes → ℕ → PathBytes
candidate_by loser suffix side p k = p ++ (46 ∷ conflict_suffix loser suffix side k)

-- the same by a policy
abbrev pub candidate : Policy → Side → PathBytes → ℕ → PathBytes
candidate policy side p k = candidate_by policy.loser policy.suffix side p k

-- a name that one of the trees, a full base listing or a name given before has
abbrev pub is_held : Known → List PathBytes → PathBytes → Bool
is_held known taken n =
    known.is_there One n || (known.is_there Two n || (is_some (known.base One n) || (is_some (known.base Two n) || is_among n taken)))

-- the name is the loser's first candidate that nothing holds, when these names were given before
pub record IsFirstFree (known : Known) (taken : List PathBytes) (side : Side) (p : PathBytes) (name : PathBytes) : Type 0 where
  pub place : ℕ
  pub is : name ≡ candidate known.policy side p place
  pub free : is_held known taken name ≡ false
  pub first : (k : ℕ) → k < place → is_held known taken (candidate known.policy side p k) ≡ true

-- these losers in their order get these names, each of at most 4,096 bytes, when these names were given before
abbrev pub AreGiven : Known → List PathBytes → List (PathBytes × Side) → List Given → Type 0
AreGiven known taken [] [] = Unit {0}
AreGiven known taken (loser ∷ losers) (g ∷ gs) =
    (g.path ≡ loser.0) × (g.side ≡ loser.1) × IsFirstFree known taken g.side g.path g.name × (length g.name ≤ 4096)
    × AreGiven known (g.name ∷ taken) losers gs
AreGiven known taken [] (g ∷ gs) = ⊥
AreGiven known taken (loser ∷ losers) [] = ⊥

-- Path1's loser is named before Path2's
abbrev pub losers_at : Known → PathBytes → List (PathBytes × Side)
losers_at known p =
    (if is_named_loser known p One then (p, One) ∷ [] else []) ++ (if is_named_loser known p Two then (p, Two) ∷ [] else [])

-- the losers of a run that goes through these paths
abbrev pub losers_of : Known → List PathBytes → List (PathBytes × Side)
losers_of known paths = flat_map (losers_at known) paths

-- the given names of a run that goes through these paths
abbrev pub AreNames : Known → List PathBytes → List Given → Type 0
AreNames known paths names = AreGiven known [] (losers_of known paths) names

-- the names taken after these were given, the last one first
abbrev pub names_after : List PathBytes → List Given → List PathBytes
names_after taken [] = taken
names_after taken (g ∷ gs) = names_after (g.name ∷ taken) gs

-- a run through these paths has no given names: the losers before this one get names, and its own has more than 4,096 bytes
pub record AreNotNames (known : Known) (paths : List PathBytes) (side : Side) (p : PathBytes) : Type 0 where
  pub before : List (PathBytes × Side)
  pub later : List (PathBytes × Side)
  pub names : List Given
  pub name : PathBytes
  pub losers : losers_of known paths ≡ before ++ (p, side) ∷ later
  pub given : AreGiven known [] before names
  pub first : IsFirstFree known (names_after [] names) side p name
  pub long : 4096 < length name

-- the name of the loser at a path of a side
abbrev pub name_for : List Given → PathBytes → Side → Option PathBytes
name_for [] p side = None
name_for (g ∷ gs) p side = if bytes_eq p g.path && is_side side g.side then Some g.name else name_for gs p side

-- the loser that got a name
abbrev pub loser_named : List Given → PathBytes → Option Given
loser_named [] n = None
loser_named (g ∷ gs) n = if bytes_eq n g.name then Some g else loser_named gs n
