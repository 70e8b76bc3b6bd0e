-- What is seen of check files with a further cell.
use Rattle.std.proofs.Common.{◌≡◌, ℕ, Bool, true, false, cond, ◌&&◌, ◌||◌, List, [], ◌∷◌, Option, Some, None, refl, sym, ◌∙◌, ap, subst, Bor}
use Rattle.std.specs.Prelude.{is_some, not, IfSome}
use Rattle.std.specs.Option.{option_or}
use Rattle.bisync_text.specs.declared.path.Path.{Path}
use Rattle.bisync_tree.specs.Walk.{CellValue}
use Rattle.bisync_tree.specs.declared.entries.Entry.{Entry}
use Rattle.bisync_tree.specs.declared.sides.Side.{Side}
use Rattle.bisync_guard.specs.declared.access.Access.{Access}
use Rattle.bisync_guard.specs.declared.access.Access.TheVariants.{Unseen, Whole, Missing}
use Rattle.bisync_guard.specs.CheckFiles.{is_check_file, missing_at}
use Rattle.bisync_guard.specs.Tally.{guard_of, guard_after, first_missing_in, missing_file_in}

abbrev pub IsNotMissing : Access → Type 0
IsNotMissing a = (side : Side) (path : Bor Path) → a ≡ Missing side path → ⊥

pub of_another_name : (name : List ℕ) (a : Access) (cell : CellValue) (rest : List CellValue) → is_check_file name cell.path ≡ false
    → guard_after name a rest ≡ guard_after name a (cell ∷ rest)
of_another_name name Unseen cell rest e = sym (ap (λ b. cond (b && (is_some cell.now1 || is_some cell.now2)) (first_missing_in name (cell ∷ rest)) (missing_file_in name rest)) e)
of_another_name name Whole cell rest e = sym (ap (λ b. option_or (cond b (missing_at cell.path cell.now1 cell.now2) None) (first_missing_in name rest)) e)
of_another_name name (Missing side path) cell rest e = refl

pub of_check_file : (name : List ℕ) (a : Access) (cell : CellValue) (rest : List CellValue) (now1 now2 : Option Entry)
    → is_check_file name cell.path ≡ true → IsNotMissing a → cell.now1 ≡ now1 → cell.now2 ≡ now2 → (is_some now1 || is_some now2) ≡ true
    → option_or (missing_at cell.path now1 now2) (first_missing_in name rest) ≡ guard_after name a (cell ∷ rest)
of_check_file name Unseen cell rest now1 now2 t ok one two some =
    sym ((λ i. cond (t i && (is_some (one i) || is_some (two i))) (option_or (cond (t i) (missing_at cell.path (one i) (two i)) None) (first_missing_in name rest)) (missing_file_in name rest))
    ∙ ap (λ b. cond b (option_or (missing_at cell.path now1 now2) (first_missing_in name rest)) (missing_file_in name rest)) some)
of_check_file name Whole cell rest now1 now2 t ok one two some =
    sym (λ i. option_or (cond (t i) (missing_at cell.path (one i) (two i)) None) (first_missing_in name rest))
of_check_file name (Missing side path) cell rest now1 now2 t ok one two some = absurd (ok side path refl)

-- what a test of names says
pub unlike : (r b : Bool) → r ≡ true → r ≡ not b → b ≡ false
unlike r true e is = cc
unlike r false e is = refl

pub alike : (r b : Bool) → r ≡ false → r ≡ not b → b ≡ true
alike r true e is = refl
alike r false e is = cc

-- no cell is left
pub at_end : (name : List ℕ) (a : Access) → guard_of a ≡ guard_after name a []
at_end name Unseen = refl
at_end name Whole = refl
at_end name (Missing side path) = refl

pub if_some : (o : Option (List ℕ)) (P : List ℕ → Type 0) → ((name : List ℕ) → o ≡ Some name → P name) → IfSome o P
if_some None P h = tt
if_some (Some name) P h = h name refl

pub at_some : (o : Option (List ℕ)) (P : List ℕ → Type 0) (name : List ℕ) → o ≡ Some name → IfSome o P → P name
at_some None P name e h = cc
at_some (Some other) P name e h = let is : other ≡ name = cc in subst P is h
