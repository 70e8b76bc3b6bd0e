-- The check files that a walk sees are those of both sides.
use Rattle.std.proofs.Common.{◌≡◌, ℕ, Bool, true, false, cond, ◌&&◌, ◌||◌, List, [], ◌∷◌, map, Option, Some, None, refl, sym, ◌∙◌, ap}
use Rattle.std.specs.Prelude.{is_some, filter}
use Rattle.std.specs.Option.{option_or}
use Rattle.bisync_tree.specs.Rows.{PathBytes, Rows, keys, look, is_among, AreRising}
use Rattle.bisync_tree.specs.Walk.{Listings, with_paths, paths_of, cell_at, cells}
use Rattle.bisync_tree.specs.declared.entries.Entry.{Entry}
use Rattle.bisync_tree.proofs.LookLemmas.{look_is_some}
use Rattle.bisync_tree.proofs.RisingLemmas.{rising_withs, among_withs}
use Rattle.bisync_tree.proofs.WalkLemmas.{among_paths, rising_paths}
use Rattle.bisync_guard.specs.CheckFiles.{is_check_file, check_files, missing_at, first_missing, missing_file}
use Rattle.bisync_guard.specs.Tally.{first_missing_in, missing_file_in, is_check_cell}
use Rattle.bisync_guard.proofs.Picks.{same_picks}
use Rattle.bisync_guard.proofs.Values.{and_false, or_false}

-- the check files among some paths
abbrev files_in : List ℕ → Listings → List PathBytes → List PathBytes
files_in name l ps = filter (λ p. is_check_cell name (cell_at l p)) ps

first_in : (name : List ℕ) (l : Listings) (ps : List PathBytes) → first_missing_in name (map (cell_at l) ps) ≡ first_missing l.now1 l.now2 (files_in name l ps)
first_in name l [] = refl
first_in name l (p ∷ ps) = by (is_check_file name p) (look l.now1 p) (look l.now2 p) refl refl (first_in name l ps)
  where
    by : (t : Bool) (now1 now2 : Option Entry) → look l.now1 p ≡ now1 → look l.now2 p ≡ now2
        → first_missing_in name (map (cell_at l) ps) ≡ first_missing l.now1 l.now2 (files_in name l ps)
        → option_or (cond t (missing_at p now1 now2) None) (first_missing_in name (map (cell_at l) ps))
        ≡ first_missing l.now1 l.now2 (cond (t && (is_some now1 || is_some now2)) (p ∷ files_in name l ps) (files_in name l ps))
    by false now1 now2 one two rest = rest
    by true None None one two rest = rest
    by true None (Some f) one two rest = λ i. option_or (missing_at p (sym one i) (sym two i)) (rest i)
    by true (Some e) now2 one two rest = λ i. option_or (missing_at p (sym one i) (sym two i)) (rest i)

all_in : (name : List ℕ) (l : Listings) (ps : List PathBytes) → missing_file_in name (map (cell_at l) ps) ≡ missing_file l.now1 l.now2 (files_in name l ps)
all_in name l [] = refl
all_in name l (p ∷ ps) = by (is_check_cell name (cell_at l p)) refl (first_in name l (p ∷ ps)) (all_in name l ps)
  where
    by : (b : Bool) → is_check_cell name (cell_at l p) ≡ b
        → first_missing_in name (map (cell_at l) (p ∷ ps)) ≡ first_missing l.now1 l.now2 (files_in name l (p ∷ ps))
        → missing_file_in name (map (cell_at l) ps) ≡ missing_file l.now1 l.now2 (files_in name l ps)
        → cond b (first_missing_in name (map (cell_at l) (p ∷ ps))) (missing_file_in name (map (cell_at l) ps))
        ≡ missing_file l.now1 l.now2 (cond b (p ∷ files_in name l ps) (files_in name l ps))
    by true e first rest = first ∙ ap (λ b. first_missing l.now1 l.now2 (cond b (p ∷ files_in name l ps) (files_in name l ps))) e
    by false e first rest = rest

same_tests : (a b c d k : Bool) → ((a || (b || (c || d))) && (k && (c || d))) ≡ ((c || d) && k)
same_tests a b c d false = and_false (a || (b || (c || d))) ∙ sym (and_false (c || d))
same_tests true b true d true = refl
same_tests true b false true true = refl
same_tests true b false false true = refl
same_tests false true true d true = refl
same_tests false true false true true = refl
same_tests false true false false true = refl
same_tests false false true d true = refl
same_tests false false false true true = refl
same_tests false false false false true = refl

pub rising_paths_now : (now1 now2 : Rows) → AreRising (with_paths (keys now1) (with_paths (keys now2) []))
rising_paths_now now1 now2 = rising_withs (keys now1) _ (rising_withs (keys now2) [] tt)

pub among_paths_now : (now1 now2 : Rows) (p : PathBytes) → is_among p (with_paths (keys now1) (with_paths (keys now2) [])) ≡ (is_some (look now1 p) || is_some (look now2 p))
among_paths_now now1 now2 p =
    among_withs p (keys now1) _ ∙ ap (λ x. is_among p (keys now1) || x) (among_withs p (keys now2) [] ∙ or_false (is_among p (keys now2)))
    ∙ (λ i. sym (look_is_some now1 p) i || sym (look_is_some now2 p) i)

picked_files : (name : List ℕ) (l : Listings) → files_in name l (paths_of l) ≡ check_files name l.now1 l.now2
picked_files name l =
    same_picks (λ p. is_check_cell name (cell_at l p)) (is_check_file name) (paths_of l) (with_paths (keys l.now1) (with_paths (keys l.now2) []))
    (rising_paths l) (rising_paths_now l.now1 l.now2) at
  where
    at : (p : PathBytes) → (is_among p (paths_of l) && is_check_cell name (cell_at l p)) ≡ (is_among p (with_paths (keys l.now1) (with_paths (keys l.now2) [])) && is_check_file name p)
    at p =
        ap (λ x. x && is_check_cell name (cell_at l p))
        (among_paths l p ∙ (λ i. is_among p (keys l.base1) || (is_among p (keys l.base2) || (sym (look_is_some l.now1 p) i || sym (look_is_some l.now2 p) i))))
        ∙ same_tests (is_among p (keys l.base1)) (is_among p (keys l.base2)) (is_some (look l.now1 p)) (is_some (look l.now2 p)) (is_check_file name p)
        ∙ ap (λ x. x && is_check_file name p) (sym (among_paths_now l.now1 l.now2 p))

pub files_walked : (name : List ℕ) (l : Listings) → missing_file_in name (cells l) ≡ missing_file l.now1 l.now2 (check_files name l.now1 l.now2)
files_walked name l = all_in name l (paths_of l) ∙ ap (missing_file l.now1 l.now2) (picked_files name l)
