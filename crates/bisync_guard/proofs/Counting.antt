-- How far a walk has counted.
use Rattle.std.proofs.Common.{◌≡◌, suc, ◌+◌, ◌^◌, ◌<◌, ◌≤◌, Bool, true, false, cond, ◌&&◌, ◌||◌, List, [], ◌∷◌, length, Option, refl, ◌∙◌, ap, arith}
use Rattle.std.specs.Prelude.{filter, is_some}
use Rattle.std.specs.List.{list_all, count_by}
use Rattle.std.proofs.lemmas.List.Sums.{length-filter, sum_by-cons, count_by-le-length}
use Rattle.bisync_tree.specs.Rows.{PathBytes, Rows, keys, look, is_among}
use Rattle.bisync_tree.specs.Walk.{Listings, CellValue, cell_at, cells, paths_of, AllRising}
use Rattle.bisync_tree.specs.declared.entries.Entry.{Entry}
use Rattle.bisync_tree.specs.declared.entries.Compare.{Compare}
use Rattle.bisync_tree.specs.declared.options.GuardRule.{GuardRule}
use Rattle.bisync_tree.specs.declared.sides.Side.{Side}
use Rattle.bisync_tree.proofs.WalkLemmas.{among_paths, rising_paths}
use Rattle.bisync_guard.specs.declared.counts.Counts.{Counts}
use Rattle.bisync_guard.specs.BasePaths.{is_gone, class_at, gone_paths, kept_paths, all_are_fresh}
use Rattle.bisync_guard.specs.Order.{deletes_over, too_many_deletes, changed_all, all_changed}
use Rattle.bisync_guard.specs.Tally.{number, is_gone_entry, is_kept_entry, is_fresh_if_kept, AreCounts}
use Rattle.bisync_guard.proofs.WalkedPaths.{count_by-cells, list_all-cells, gone_over, kept_over, fresh_over}
use Rattle.bisync_guard.proofs.Values.{or_true}

-- the counts so far, with what the rest of the cells adds, are those of the side
pub record AreSoFar (c : Compare) (base now : Rows) (base_in now_in : CellValue → Option Entry) (rest : List CellValue) (counts : Counts) : Type 0 where
  pub base_are : counts.base ≡ length base
  pub fits : length base < 2 ^ 64
  pub gone : counts.gone + count_by (λ cell. is_gone_entry c (base_in cell) (now_in cell)) rest ≡ length (gone_paths c base now)
  pub kept : counts.kept + count_by (λ cell. is_kept_entry (base_in cell) (now_in cell)) rest ≡ length (kept_paths base now)
  pub fresh : (counts.all_fresh && list_all (λ cell. is_fresh_if_kept c (base_in cell) (now_in cell)) rest) ≡ all_are_fresh c base now

-- a cell's share in a count
count_by-cell : (f : CellValue → Bool) (cell : CellValue) (rest : List CellValue) → count_by f (cell ∷ rest) ≡ number (f cell) + count_by f rest
count_by-cell f cell rest = sum_by-cons (λ cell. cond (f cell) 1 0) cell rest

length-keys : (rows : Rows) → length (keys rows) ≡ length rows
length-keys [] = refl
length-keys (r ∷ rs) = ap suc (length-keys rs)

picked-le : (f : PathBytes → Bool) (rows : Rows) → length (filter f (keys rows)) ≤ length rows
picked-le f rows = omega (arith, length-filter f (keys rows), count_by-le-length f (keys rows), length-keys rows)

-- there is room for the next cell
pub gone_fits : {c : Compare} {base now : Rows} {base_in now_in : CellValue → Option Entry} {walk : List CellValue} {counts : Counts} (cell : CellValue) (rest : List CellValue)
    → AreSoFar c base now base_in now_in walk counts → walk ≡ cell ∷ rest → counts.gone + number (is_gone_entry c (base_in cell) (now_in cell)) < 2 ^ 64
gone_fits {c} {base} {now} {base_in} {now_in} {walk} {counts} cell rest h e =
    let more : count_by (λ cell. is_gone_entry c (base_in cell) (now_in cell)) walk ≡ number (is_gone_entry c (base_in cell) (now_in cell)) + count_by (λ cell. is_gone_entry c (base_in cell) (now_in cell)) rest
    = ap (count_by (λ cell. is_gone_entry c (base_in cell) (now_in cell))) e ∙ count_by-cell (λ cell. is_gone_entry c (base_in cell) (now_in cell)) cell rest in
    omega (arith, h.fits, h.gone, more, picked-le (λ p. is_gone (class_at c base now p)) base)

pub kept_fits : {c : Compare} {base now : Rows} {base_in now_in : CellValue → Option Entry} {walk : List CellValue} {counts : Counts} (cell : CellValue) (rest : List CellValue)
    → AreSoFar c base now base_in now_in walk counts → walk ≡ cell ∷ rest → counts.kept + number (is_kept_entry (base_in cell) (now_in cell)) < 2 ^ 64
kept_fits {c} {base} {now} {base_in} {now_in} {walk} {counts} cell rest h e =
    let more : count_by (λ cell. is_kept_entry (base_in cell) (now_in cell)) walk ≡ number (is_kept_entry (base_in cell) (now_in cell)) + count_by (λ cell. is_kept_entry (base_in cell) (now_in cell)) rest
    = ap (count_by (λ cell. is_kept_entry (base_in cell) (now_in cell))) e ∙ count_by-cell (λ cell. is_kept_entry (base_in cell) (now_in cell)) cell rest in
    omega (arith, h.fits, h.kept, more, picked-le (λ p. is_some (look now p)) base)

-- nothing is counted yet
nothing_yet : (c : Compare) (base now : Rows) (base_in now_in : CellValue → Option Entry) (all : List CellValue) (counts : Counts)
    → counts.base ≡ length base → length base < 2 ^ 64 → counts.gone ≡ 0 → counts.kept ≡ 0 → counts.all_fresh ≡ true
    → count_by (λ cell. is_gone_entry c (base_in cell) (now_in cell)) all ≡ length (gone_paths c base now)
    → count_by (λ cell. is_kept_entry (base_in cell) (now_in cell)) all ≡ length (kept_paths base now)
    → list_all (λ cell. is_fresh_if_kept c (base_in cell) (now_in cell)) all ≡ all_are_fresh c base now
    → AreSoFar c base now base_in now_in all counts
nothing_yet c base now base_in now_in all counts is fits gone kept fresh gone_all kept_all fresh_all = record {
  base_are = is;
  fits = fits;
  gone = omega (arith, gone, gone_all);
  kept = omega (arith, kept, kept_all);
  fresh = ap (λ b. b && list_all (λ cell. is_fresh_if_kept c (base_in cell) (now_in cell)) all) fresh ∙ fresh_all;
}

covered : (l : Listings) (a b c d : Bool) (p : PathBytes) → is_among p (paths_of l) ≡ (a || (b || (c || d))) → (a || b) ≡ true → is_among p (paths_of l) ≡ true
covered l true b c d p e some = e
covered l false true c d p e some = e
covered l false false c d p e some = cc

pub start_one : (c : Compare) (l : Listings) (counts : Counts) → AllRising l
    → counts.base ≡ length l.base1 → length l.base1 < 2 ^ 64 → counts.gone ≡ 0 → counts.kept ≡ 0 → counts.all_fresh ≡ true
    → AreSoFar c l.base1 l.now1 (λ cell. cell.base1) (λ cell. cell.now1) (cells l) counts
start_one c l counts rising is fits gone kept fresh =
    nothing_yet c l.base1 l.now1 (λ cell. cell.base1) (λ cell. cell.now1) (cells l) counts is fits gone kept fresh
    (count_by-cells _ (cell_at l) (paths_of l) ∙ gone_over c l.base1 l.now1 (paths_of l) (rising_paths l) rising.base1 has)
    (count_by-cells _ (cell_at l) (paths_of l) ∙ kept_over l.base1 l.now1 (paths_of l) (rising_paths l) rising.base1 has)
    (list_all-cells _ (cell_at l) (paths_of l) ∙ fresh_over c l.base1 l.now1 (paths_of l) (rising_paths l) rising.base1 has)
  where
    has : (p : PathBytes) → is_among p (keys l.base1) ≡ true → is_among p (paths_of l) ≡ true
    has p e = covered l (is_among p (keys l.base1)) (is_among p (keys l.base2)) (is_among p (keys l.now1)) (is_among p (keys l.now2)) p (among_paths l p) (ap (λ b. b || is_among p (keys l.base2)) e)

pub start_two : (c : Compare) (l : Listings) (counts : Counts) → AllRising l
    → counts.base ≡ length l.base2 → length l.base2 < 2 ^ 64 → counts.gone ≡ 0 → counts.kept ≡ 0 → counts.all_fresh ≡ true
    → AreSoFar c l.base2 l.now2 (λ cell. cell.base2) (λ cell. cell.now2) (cells l) counts
start_two c l counts rising is fits gone kept fresh =
    nothing_yet c l.base2 l.now2 (λ cell. cell.base2) (λ cell. cell.now2) (cells l) counts is fits gone kept fresh
    (count_by-cells _ (cell_at l) (paths_of l) ∙ gone_over c l.base2 l.now2 (paths_of l) (rising_paths l) rising.base2 has)
    (count_by-cells _ (cell_at l) (paths_of l) ∙ kept_over l.base2 l.now2 (paths_of l) (rising_paths l) rising.base2 has)
    (list_all-cells _ (cell_at l) (paths_of l) ∙ fresh_over c l.base2 l.now2 (paths_of l) (rising_paths l) rising.base2 has)
  where
    has : (p : PathBytes) → is_among p (keys l.base2) ≡ true → is_among p (paths_of l) ≡ true
    has p e =
        covered l (is_among p (keys l.base1)) (is_among p (keys l.base2)) (is_among p (keys l.now1)) (is_among p (keys l.now2)) p (among_paths l p)
        (ap (λ b. is_among p (keys l.base1) || b) e ∙ or_true (is_among p (keys l.base1)))

-- the guards of the counts are those of the side
pub deletes_of : (guards : GuardRule) (c : Compare) (side : Side) (base now : Rows) (counts : Counts) → AreCounts c base now counts
    → deletes_over guards side counts.gone counts.base ≡ too_many_deletes guards c side base now
deletes_of guards c side base now counts h = λ i. deletes_over guards side (h.gone_are i) (h.base_are i)

pub changes_of : (guards : GuardRule) (c : Compare) (side : Side) (base now : Rows) (counts : Counts) → AreCounts c base now counts
    → changed_all guards side counts.kept counts.all_fresh ≡ all_changed guards c side base now
changes_of guards c side base now counts h = λ i. changed_all guards side (h.kept_are i) (h.fresh_are i)
