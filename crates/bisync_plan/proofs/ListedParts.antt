-- Views that tests make of rows.
use Rattle.std.proofs.Common.{◌≡◌, ℕ, zero, suc, ◌+◌, Bool, true, false, cond, List, [], ◌∷◌, ◌++◌, drop, append_assoc, Option, Some, None, refl, sym, ◌∙◌, ap, add-one}
use Rattle.std.specs.Prelude.{bytes_eq, slice_get, is_some}
use Rattle.bisync_tree.specs.Rows.{PathBytes, Rows, keys, values, look, is_among, passing}
use Rattle.bisync_tree.specs.declared.entries.Entry.{Entry}
use Rattle.bisync_tree.specs.declared.entries.Compare.{Compare}
use Rattle.bisync_tree.proofs.LookLemmas.{look_among}
use Rattle.bisync_tree.proofs.PassingLemmas.{look-passing}
use Rattle.bisync_plan.specs.Conditions.{HasDigests}
use Rattle.bisync_plan.specs.CellRows.{either}
use Rattle.bisync_plan.proofs.MergedRows.{look_append}

abbrev pub HasNone : Rows → Type 0
HasNone rows = (p : PathBytes) (e : Entry) → look rows p ≡ Some e → e.hash ≡ None

pub none_pushed : (rows all : Rows) (k : PathBytes) (e : Entry) → all ≡ rows ++ (k, e) ∷ [] → e.hash ≡ None → HasNone rows → HasNone all
none_pushed rows all k e is none before p x h = go (look rows p) refl (bytes_eq k p) (sym (look_append rows ((k, e) ∷ []) p) ∙ ap (λ l. look l p) (sym is) ∙ h)
  where
    go : (v : Option Entry) → look rows p ≡ v → (b : Bool) → either v (cond b (Some e) None) ≡ Some x → x.hash ≡ None
    go (Some y) f b g = before p x (f ∙ g)
    go None f true g = let same : e ≡ x = cc in ap (λ y. y.hash) (sym same) ∙ none
    go None f false g = cc

pub digests_of : (rows : Rows) → HasNone rows → (compare : Compare) → compare.hash ≡ false → HasDigests compare rows
digests_of rows none compare off = record { digest = λ p e h. off ∙ ap is_some (sym (none p e h)) }

pub row_left : (rows : Rows) (i : ℕ) (p : PathBytes) (e : Entry) → slice_get (keys rows) i ≡ Some p → slice_get (values rows) i ≡ Some e → drop i rows ≡ (p, e) ∷ drop (i + 1) rows
row_left rows i p e h k = (let go = left rows i p e h k in go) ∙ ap (λ n. (p, e) ∷ drop n rows) (sym (add-one i))
  where
    left : (rows : Rows) (i : ℕ) (p : PathBytes) (e : Entry) → slice_get (keys rows) i ≡ Some p → slice_get (values rows) i ≡ Some e → drop i rows ≡ (p, e) ∷ drop (suc i) rows
    left [] i p e h k = cc
    left (r ∷ rs) zero p e h k = let p_is : r.0 ≡ p = cc in let e_is : r.1 ≡ e = cc in λ j. (p_is j, e_is j) ∷ rs
    left (r ∷ rs) (suc i) p e h k = left rs i p e h k

pub passing_left : (passes : PathBytes → Bool) (rows part : Rows) (i : ℕ) (p : PathBytes) (e : Entry) → slice_get (keys rows) i ≡ Some p → slice_get (values rows) i ≡ Some e → passes p ≡ true
    → part ++ passing passes (drop i rows) ≡ passing passes rows → (part ++ (p, e) ∷ []) ++ passing passes (drop (i + 1) rows) ≡ passing passes rows
passing_left passes rows part i p e h k passed all =
    append_assoc part ((p, e) ∷ []) (passing passes (drop (i + 1) rows))
    ∙ ap (λ b. part ++ cond b ((p, e) ∷ passing passes (drop (i + 1) rows)) (passing passes (drop (i + 1) rows))) (sym passed)
    ∙ ap (λ l. part ++ passing passes l) (sym (row_left rows i p e h k)) ∙ all

pub passed_over : (passes : PathBytes → Bool) (rows part : Rows) (i : ℕ) (p : PathBytes) (e : Entry) → slice_get (keys rows) i ≡ Some p → slice_get (values rows) i ≡ Some e → passes p ≡ false
    → part ++ passing passes (drop i rows) ≡ passing passes rows → part ++ passing passes (drop (i + 1) rows) ≡ passing passes rows
passed_over passes rows part i p e h k no_pass all =
    ap (λ b. part ++ cond b ((p, e) ∷ passing passes (drop (i + 1) rows)) (passing passes (drop (i + 1) rows))) (sym no_pass)
    ∙ ap (λ l. part ++ passing passes l) (sym (row_left rows i p e h k)) ∙ all

pub names_left : (rows : Rows) (names : List PathBytes) (i : ℕ) (p : PathBytes) → slice_get (keys rows) i ≡ Some p
    → names ++ drop i (keys rows) ≡ keys rows → (names ++ p ∷ []) ++ drop (i + 1) (keys rows) ≡ keys rows
names_left rows names i p h all =
    append_assoc names (p ∷ []) (drop (i + 1) (keys rows)) ∙ ap (λ n. names ++ p ∷ drop n (keys rows)) (add-one i)
    ∙ ap (λ l. names ++ l) (sym (left (keys rows) i h)) ∙ all
  where
    left : (ps : List PathBytes) (i : ℕ) → slice_get ps i ≡ Some p → drop i ps ≡ p ∷ drop (suc i) ps
    left [] i h = cc
    left (q ∷ qs) zero h = let is : q ≡ p = cc in ap (λ x. x ∷ qs) is
    left (q ∷ qs) (suc i) h = left qs i h

pub part_listed : (passes : PathBytes → Bool) (all part : Rows) (p : PathBytes) (e : Entry) → part ≡ passing passes all → look part p ≡ Some e → (passes p ≡ true) × (look all p ≡ Some e)
part_listed passes all part p e is h = go (passes p) refl (sym (ap (λ l. look l p) is ∙ look-passing passes all p) ∙ h)
  where
    go : (b : Bool) → passes p ≡ b → cond b (look all p) None ≡ Some e → (passes p ≡ true) × (look all p ≡ Some e)
    go true f g = (f, g)
    go false f g = cc

pub part_digests : (passes : PathBytes → Bool) (all part : Rows) → part ≡ passing passes all
    → ((compare : Compare) → compare.hash ≡ false → HasDigests compare all) → (compare : Compare) → compare.hash ≡ false → HasDigests compare part
part_digests passes all part is digests compare off = record { digest = λ p e h. (digests compare off).digest p e (part_listed passes all part p e is h).1 }

pub part_narrowed : (passes : PathBytes → Bool) (prior base : Rows) → base ≡ passing passes prior → (p : PathBytes) → look base p ≡ cond (passes p) (look prior p) None
part_narrowed passes prior base is p = ap (λ l. look l p) is ∙ look-passing passes prior p

pub part_complete : (passes : PathBytes → Bool) (all part : Rows) (names : List PathBytes) → part ≡ passing passes all → names ≡ keys all
    → (p : PathBytes) (e : Entry) → look part p ≡ Some e → is_among p names ≡ true
part_complete passes all part names is names_are p e h = ap (is_among p) names_are ∙ look_among all p e (part_listed passes all part p e is h).1
