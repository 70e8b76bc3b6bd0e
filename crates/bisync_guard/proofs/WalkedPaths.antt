-- What a walk counts on one side are the counts of its base.
use Rattle.std.proofs.Common.{◌≡◌, ◌+◌, Bool, true, false, cond, ◌&&◌, List, [], ◌∷◌, length, map, Option, Some, None, refl, sym, ◌∙◌, ap}
use Rattle.std.specs.Prelude.{is_some, filter}
use Rattle.std.specs.List.{list_all, count_by}
use Rattle.std.proofs.lemmas.List.Sums.{length-filter, sum_by-cons}
use Rattle.bisync_tree.specs.Rows.{PathBytes, Rows, keys, look, is_among, AreRising}
use Rattle.bisync_tree.specs.Walk.{CellValue}
use Rattle.bisync_tree.specs.declared.entries.Entry.{Entry}
use Rattle.bisync_tree.specs.declared.entries.Compare.{Compare}
use Rattle.bisync_tree.proofs.LookLemmas.{look_is_some}
use Rattle.bisync_guard.specs.BasePaths.{gone_paths, kept_paths, all_are_fresh, class_at, is_fresh}
use Rattle.bisync_guard.specs.Tally.{is_gone_entry, is_kept_entry, is_fresh_if_kept}
use Rattle.bisync_guard.proofs.Picks.{same_picks, list_all-filter}
use Rattle.bisync_guard.proofs.Values.{and_false}

-- the paths have all of these
abbrev pub AreCovered : Rows → List PathBytes → Type 0
AreCovered rows ps = (p : PathBytes) → is_among p (keys rows) ≡ true → is_among p ps ≡ true

pub count_by-cells : (f : CellValue → Bool) (at : PathBytes → CellValue) (ps : List PathBytes) → count_by f (map at ps) ≡ count_by (λ p. f (at p)) ps
count_by-cells f at [] = refl
count_by-cells f at (p ∷ ps) =
    sum_by-cons (λ cell. cond (f cell) 1 0) (at p) (map at ps)
    ∙ ap (λ n. cond (f (at p)) 1 0 + n) (count_by-cells f at ps)
    ∙ sym (sum_by-cons (λ q. cond (f (at q)) 1 0) p ps)

pub list_all-cells : (f : CellValue → Bool) (at : PathBytes → CellValue) (ps : List PathBytes) → list_all f (map at ps) ≡ list_all (λ p. f (at p)) ps
list_all-cells f at [] = refl
list_all-cells f at (p ∷ ps) = ap (λ b. f (at p) && b) (list_all-cells f at ps)

-- what holds of listed paths alone is picked from all paths as from the listed ones
picked : (base : Rows) (ps : List PathBytes) (f g : PathBytes → Bool) → AreRising ps → AreRising (keys base) → AreCovered base ps
    → ((p : PathBytes) → f p ≡ (is_some (look base p) && g p)) → filter f ps ≡ filter g (keys base)
picked base ps f g rising listed covered same = same_picks f g ps (keys base) rising listed (λ p. at p (is_among p (keys base)) refl)
  where
    at : (p : PathBytes) (b : Bool) → is_among p (keys base) ≡ b → (is_among p ps && f p) ≡ (is_among p (keys base) && g p)
    at p true e =
        ap (λ x. x && f p) (covered p e) ∙ same p ∙ ap (λ x. x && g p) (look_is_some base p)
    at p false e =
        ap (λ x. is_among p ps && x) (same p ∙ ap (λ x. x && g p) (look_is_some base p ∙ e)) ∙ and_false (is_among p ps) ∙ ap (λ x. x && g p) (sym e)

gone_is_listed : (c : Compare) (base now : Option Entry) → is_gone_entry c base now ≡ (is_some base && is_gone_entry c base now)
gone_is_listed c None None = refl
gone_is_listed c None (Some e) = refl
gone_is_listed c (Some e) now = refl

pub gone_over : (c : Compare) (base now : Rows) (ps : List PathBytes) → AreRising ps → AreRising (keys base) → AreCovered base ps
    → count_by (λ p. is_gone_entry c (look base p) (look now p)) ps ≡ length (gone_paths c base now)
gone_over c base now ps rising listed covered =
    sym (length-filter (λ p. is_gone_entry c (look base p) (look now p)) ps)
    ∙ ap length (picked base ps (λ p. is_gone_entry c (look base p) (look now p)) (λ p. is_gone_entry c (look base p) (look now p)) rising listed covered
    (λ p. gone_is_listed c (look base p) (look now p)))

kept_over_paths : (base now : Rows) (ps : List PathBytes) → AreRising ps → AreRising (keys base) → AreCovered base ps
    → filter (λ p. is_kept_entry (look base p) (look now p)) ps ≡ kept_paths base now
kept_over_paths base now ps rising listed covered =
    picked base ps (λ p. is_kept_entry (look base p) (look now p)) (λ p. is_some (look now p)) rising listed covered (λ p. refl)

pub kept_over : (base now : Rows) (ps : List PathBytes) → AreRising ps → AreRising (keys base) → AreCovered base ps
    → count_by (λ p. is_kept_entry (look base p) (look now p)) ps ≡ length (kept_paths base now)
kept_over base now ps rising listed covered =
    sym (length-filter (λ p. is_kept_entry (look base p) (look now p)) ps) ∙ ap length (kept_over_paths base now ps rising listed covered)

pub fresh_over : (c : Compare) (base now : Rows) (ps : List PathBytes) → AreRising ps → AreRising (keys base) → AreCovered base ps
    → list_all (λ p. is_fresh_if_kept c (look base p) (look now p)) ps ≡ all_are_fresh c base now
fresh_over c base now ps rising listed covered =
    list_all-filter (λ p. is_fresh (class_at c base now p)) (λ p. is_kept_entry (look base p) (look now p)) ps
    ∙ ap (list_all (λ p. is_fresh (class_at c base now p))) (kept_over_paths base now ps rising listed covered)
