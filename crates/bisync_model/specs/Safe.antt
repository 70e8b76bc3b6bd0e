-- Which versions of a file are safe: no ordinary run takes them away unless losers are deleted. This project's own.
use Rattle.std.specs.Prelude.{◌≡◌, ◌≢◌, ◌⊎◌, ℕ, false, List, [], ◌∷◌, Option, Some, None, option_map}
use Rattle.bisync_tree.specs.Rows.{PathBytes}
use Rattle.bisync_tree.specs.Same.{class}
use Rattle.bisync_tree.specs.declared.sides.Side.{Side}
use Rattle.bisync_tree.specs.declared.sides.Side.TheVariants.{One, Two}
use Rattle.bisync_tree.specs.declared.classes.Class.{Class}
use Rattle.bisync_tree.specs.declared.classes.Class.TheVariants.{Quiet}
use Rattle.bisync_model.specs.Trees.{Trees}
use Rattle.bisync_model.specs.Policy.{Policy}
use Rattle.bisync_model.specs.Entries.{Entries, entries_of, SameWherePassing}
use Rattle.bisync_model.specs.Names.{candidate}

-- a path with these conflict suffixes, one after another, each by a side and its place among the candidates
abbrev pub with_suffixes : Policy → PathBytes → List (Side × ℕ) → PathBytes
with_suffixes policy p [] = p
with_suffixes policy p (s ∷ ss) = with_suffixes policy (candidate policy s.0 p s.1) ss

-- n is a name of p: p itself, or p followed by conflict suffixes
abbrev pub IsNameOf : Policy → PathBytes → PathBytes → Type 0
IsNameOf policy p n = (suffixes : List (Side × ℕ)) × (with_suffixes policy p suffixes ≡ n)

-- what became of a path on a side of these trees, against this base
abbrev pub class_in : Policy → Entries → Trees → Side → PathBytes → Class
class_in policy base trees side p = class policy.compare (base side p) (entries_of policy.compare trees side p)

-- a run keeps what a side has at a path: there is no base, or the path doesn't pass, or it changed on that side since
-- the base, or it is as in the base on both sides
abbrev pub IsKept : Policy → Option Entries → Trees → Side → PathBytes → Type 0
IsKept policy None trees side n = Unit {0}
IsKept policy (Some base) trees side n =
    (policy.passes n ≡ false) ⊎ (class_in policy base trees side n ≢ Quiet)
    ⊎ ((class_in policy base trees One n ≡ Quiet) × (class_in policy base trees Two n ≡ Quiet))

-- how a run may leave the base: as it was, lost, or made anew of the trees
abbrev pub IsBaseLeft : Policy → Trees → Option Entries → Option Entries → Type 0
IsBaseLeft policy trees before base =
    (base ≡ before) ⊎ (base ≡ None) ⊎ ((listed : Entries) × (base ≡ Some listed) × SameWherePassing policy listed (entries_of policy.compare trees))

-- some side has these bytes under a name of p where a run keeps them
pub record IsSafe (policy : Policy) (base : Option Entries) (trees : Trees) (p : PathBytes) (bytes : List ℕ) : Type 0 where
  pub side : Side
  pub name : PathBytes
  pub named : IsNameOf policy p name
  pub held : option_map (λ file. file.bytes) (trees side name) ≡ Some bytes
  pub kept : IsKept policy base trees side name
