-- From the table of a whole sequence to what a pattern matches.
use Rattle.std.proofs.Common.{◌≡◌, ◌⊎◌, ℕ, ◌+◌, ◌<◌, Bool, true, false, IsTrue, List, ◌∷◌, ◌++◌, length, get_or, take, drop, refl, sym, ◌∙◌, ap, arith, add-one, inl, inr, length-append}
use Rattle.std.proofs.Math.Seq.{drop-cons, drop-append-add, get_or-append_seam}
use Rattle.std.proofs.lemmas.List.{take-append-drop}
use Rattle.bisync_glob.specs.Matching.{Glob, Matches, MatchesWhole}
use Rattle.bisync_glob.specs.Deciding.{IsTable, parts_match}
use Rattle.bisync_glob.proofs.Decisions.{Tells, parts_match-Decides}

-- a `/` with an entry that is set behind it
abbrev pub SetAfterSlash : List ℕ → List Bool → Type 0
SetAfterSlash text table = (k : ℕ) × (k < length text) × (get_or text k 0 ≡ 47) × IsTrue (get_or table (k + 1) false)

abbrev pub AfterSlash : (List ℕ → Type 0) → List ℕ → Type 0
AfterSlash Q text = (front : List ℕ) × (back : List ℕ) × (text ≡ front ++ 47 ∷ back) × Q back

pub after_slash : (q : List ℕ → Bool) (Q : List ℕ → Type 0) (text : List ℕ) (table : List Bool) → Tells q Q → IsTable q text table → SetAfterSlash text table → AfterSlash Q text
after_slash q Q text table d t (k, below, slash, set) =
    let opened : drop k text ≡ 47 ∷ drop (k + 1) text = drop-cons text k 0 below ∙ rw slash (rw (add-one k) refl) in
    let whole : text ≡ take k text ++ 47 ∷ drop (k + 1) text = sym (take-append-drop k text) ∙ ap (λ r. take k text ++ r) opened in
    let holds : q (drop (k + 1) text) ≡ true = sym (t.at (k + 1) (omega arith)) ∙ set in
    (take k text, drop (k + 1) text, whole, (d (drop (k + 1) text)).0 holds)

pub slash_after : (q : List ℕ → Bool) (Q : List ℕ → Type 0) (text : List ℕ) (table : List Bool) → Tells q Q → IsTable q text table → AfterSlash Q text → SetAfterSlash text table
slash_after q Q text table d t (front, back, e, b) =
    let len : length text ≡ length front + length (47 ∷ back) = rw e (length-append front (47 ∷ back)) in
    let below : length front < length text = grind (arith, len) in
    let slash : get_or text (length front) 0 ≡ 47 = rw e (get_or-append_seam front 47 back 0) in
    let rest : drop (length front + 1) text ≡ back = rw e (drop-append-add front (47 ∷ back) 1) in
    (length front, below, slash, t.at (length front + 1) (omega arith) ∙ rw rest ((d back).1 b))

pub matches_from : (glob : Glob) (text : List ℕ) (table : List Bool) → IsTable (parts_match glob.parts) text table → (IsTrue (get_or table 0 false) ⊎ ((glob.anchored ≡ false) × SetAfterSlash text table)) → Matches glob text
matches_from glob text table t (inl h) = inl ((parts_match-Decides glob.parts text).0 (sym (t.at 0 (omega arith)) ∙ h))
matches_from glob text table t (inr (a, h)) =
    let found : AfterSlash (MatchesWhole glob.parts) text = after_slash (parts_match glob.parts) (MatchesWhole glob.parts) text table (parts_match-Decides glob.parts) t h in
    inr (a, found)

pub from_matches : (glob : Glob) (text : List ℕ) (table : List Bool) → IsTable (parts_match glob.parts) text table → Matches glob text → (IsTrue (get_or table 0 false) ⊎ ((glob.anchored ≡ false) × SetAfterSlash text table))
from_matches glob text table t (inl h) = inl (t.at 0 (omega arith) ∙ (parts_match-Decides glob.parts text).1 h)
from_matches glob text table t (inr (a, h)) = inr (a, slash_after (parts_match glob.parts) (MatchesWhole glob.parts) text table (parts_match-Decides glob.parts) t h)
