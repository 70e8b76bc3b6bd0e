-- Lines that are put one after the other.
use Rattle.std.proofs.Common.{◌≡◌, ℕ, ◌+◌, ◌<◌, Bool, List, [], ◌∷◌, ◌++◌, length, take, drop, get_or, Result, Ok, Err, refl, sym, ◌∙◌, ap, subst, append_assoc, codes, add-one, drop-cons}
use Rattle.std.specs.Result.{IsErrAnd}
use Rattle.std.specs.List.{flat_map}
use Rattle.std.proofs.lemmas.Grind.{flat_map-append}
use Rattle.std.proofs.lemmas.List.{append-nil, take-append-drop, flat_map_more, take_more}
use Rattle.bisync_device.specs.Sink.{SinkState}
use Rattle.bisync_device.specs.declared.faults.Failed.{Failed}
use Rattle.bisync_text.specs.Quote.{quoted}
use Rattle.bisync_tree.specs.declared.sides.Side.{Side}
use Rattle.bisync_tree.specs.declared.entries.Entry.{Entry}
use Rattle.bisync_tree.specs.declared.steps.Step.TheVariants.{Rename}
use Rattle.bisync_report.specs.Names.{side_text}
use Rattle.bisync_report.specs.Lines.{step_line}
use Rattle.bisync_report.specs.Waiting.{Puts}
use Rattle.bisync_report.specs.declared.ends.End.{End}
use Rattle.bisync_report.specs.declared.ends.End.TheVariants.{Demo}
use Rattle.bisync_report.specs.LastLine.{last_text, named_line, end_text}
use Rattle.bisync_report.proofs.WaitingLaws.{puts_nothing, puts_then, puts_break}

-- a list of texts, cut behind one of them
flat_map-cut : {X : Type 0} (f : X → List ℕ) (xs : List X) (i : ℕ) (d : X) → i < length xs
    → flat_map f xs ≡ flat_map f (take i xs) ++ (f (get_or xs i d) ++ flat_map f (drop (i + 1) xs))
flat_map-cut f xs i d h =
    ap (flat_map f) (sym (take-append-drop i xs) ∙ ap (λ (v : List _). take i xs ++ v) (rw (add-one, drop-cons xs i d)))
    ∙ flat_map-append f (take i xs) (get_or xs i d ∷ drop (i + 1) xs)

-- one text more
flat_map-more : {X : Type 0} (f : X → List ℕ) (xs : List X) (i : ℕ) (d : X) → i < length xs
    → flat_map f (take i xs) ++ f (get_or xs i d) ≡ flat_map f (take (i + 1) xs)
flat_map-more f xs i d h = flat_map_more f [] (take i xs) (get_or xs i d) ∙ ap (flat_map f) (sym (take_more xs i d h))

pub each_more : {X : Type 0} (f : X → List ℕ) (xs : List X) (i : ℕ) (d : X) (t : Bool) (x w w1 w2 : List ℕ) (s s1 s2 : SinkState)
    → i < length xs → x ≡ f (get_or xs i d) → Puts t (flat_map f (take i xs)) w s w1 s1 (Ok tt) → Puts t x w1 s1 w2 s2 (Ok tt)
    → Puts t (flat_map f (take (i + 1) xs)) w s w2 s2 (Ok tt)
each_more f xs i d t x w w1 w2 s s1 s2 h e p q =
    subst (λ (v : List ℕ). Puts t v w s w2 s2 (Ok tt)) (ap (λ (v : List ℕ). flat_map f (take i xs) ++ v) e ∙ flat_map-more f xs i d h)
    (puts_then t (flat_map f (take i xs)) x w w1 w2 s s1 s2 (Ok tt) p q)

pub each_stop : {X : Type 0} (Q : Failed → Type 0) (f : X → List ℕ) (xs : List X) (i : ℕ) (d : X) (t : Bool) (x w w1 w2 : List ℕ) (s s1 s2 : SinkState) (e : Failed) (r : Result (Unit {0}) Failed)
    → IsErrAnd r Q → i < length xs → x ≡ f (get_or xs i d) → Puts t (flat_map f (take i xs)) w s w1 s1 (Ok tt) → Puts t x w1 s1 w2 s2 (Err e)
    → Puts t (flat_map f xs) w s w2 s2 r
each_stop Q f xs i d t x w w1 w2 s s1 s2 e r is h at p q =
    puts_break Q t (flat_map f xs) (flat_map f (take i xs)) x (flat_map f (drop (i + 1) xs)) w w1 w2 s s1 s2 e r is
    (flat_map-cut f xs i d h ∙ ap (λ (v : List ℕ). flat_map f (take i xs) ++ (v ++ flat_map f (drop (i + 1) xs))) (sym at)) p q

-- what is put so far, and the rest of all that is to be put
pub record PutsUpTo (t : Bool) (all rest w : List ℕ) (s : SinkState) (w1 : List ℕ) (s1 : SinkState) : Type 0 where
  pub done : List ℕ
  pub whole : all ≡ done ++ rest
  pub puts : Puts t done w s w1 s1 (Ok tt)

pub up_to-start : (t : Bool) (all w : List ℕ) (s : SinkState) → PutsUpTo t all all w s w s
up_to-start t all w s = record { done = []; whole = refl; puts = puts_nothing t w s }

pub up_to-more : (t : Bool) (all x rest rest2 w w1 w2 : List ℕ) (s s1 s2 : SinkState)
    → PutsUpTo t all rest w s w1 s1 → rest ≡ x ++ rest2 → Puts t x w1 s1 w2 s2 (Ok tt) → PutsUpTo t all rest2 w s w2 s2
up_to-more t all x rest rest2 w w1 w2 s s1 s2 u e q = record {
  done = u.done ++ x;
  whole = u.whole ∙ ap (λ (v : List ℕ). u.done ++ v) e ∙ sym (append_assoc u.done x rest2);
  puts = puts_then t u.done x w w1 w2 s s1 s2 (Ok tt) u.puts q;
}

pub up_to-stop : (Q : Failed → Type 0) (t : Bool) (all x rest rest2 w w1 w2 : List ℕ) (s s1 s2 : SinkState) (e : Failed) (r : Result (Unit {0}) Failed)
    → IsErrAnd r Q → PutsUpTo t all rest w s w1 s1 → rest ≡ x ++ rest2 → Puts t x w1 s1 w2 s2 (Err e) → Puts t all w s w2 s2 r
up_to-stop Q t all x rest rest2 w w1 w2 s s1 s2 e r is u at q =
    puts_break Q t all u.done x rest2 w w1 w2 s s1 s2 e r is (u.whole ∙ ap (λ (v : List ℕ). u.done ++ v) at) u.puts q

pub up_to-end : (t : Bool) (all rest w w1 : List ℕ) (s s1 : SinkState)
    → PutsUpTo t all rest w s w1 s1 → rest ≡ [] → Puts t all w s w1 s1 (Ok tt)
up_to-end t all rest w w1 s s1 u e =
    subst (λ (v : List ℕ). Puts t v w s w1 s1 (Ok tt)) (sym (u.whole ∙ ap (λ (v : List ℕ). u.done ++ v) e ∙ append-nil u.done)) u.puts

-- the line of a rename, from its parts
pub rename_line : (side : Side) (from to old new : List ℕ) (entry : Entry) → old ≡ from → new ≡ to
    → codes "rename " ++ (side_text side ++ (codes " " ++ (quoted old ++ (codes " " ++ (quoted new ++ 10 ∷ []))))) ≡ step_line (Rename side from to entry)
rename_line side from to old new entry p q = cc

-- an end other than that of the demonstration has a line
pub last_text-named : (end : End) → (end ≡ Demo → ⊥) → last_text end ≡ named_line (end_text end)
last_text-named Demo h = absurd (h refl)
last_text-named _ h = refl
