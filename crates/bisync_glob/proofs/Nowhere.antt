-- A rest that matches nothing of a text matches nothing with more parts before it.
use Rattle.std.proofs.Common.{◌≡◌, ℕ, zero, suc, ◌+◌, ◌<◌, ◌≤◌, ◌||◌, ◌==◌, not, Bool, true, false, List, [], ◌∷◌, ◌++◌, length, get_or, take, drop, refl, sym, ◌∙◌, arith}
use Rattle.std.proofs.lemmas.List.{take-append-drop}
use Rattle.bisync_glob.specs.declared.parts.Simple.{Simple}
use Rattle.bisync_glob.specs.declared.parts.Simple.TheVariants.{Literal, AnyChar, Class, Star, Stars}
use Rattle.bisync_glob.specs.declared.parts.Part.{Part}
use Rattle.bisync_glob.specs.declared.parts.Part.TheVariants.{Plain, Choice}
use Rattle.bisync_glob.specs.Matching.{class_takes}
use Rattle.bisync_glob.specs.Deciding.{IsTable, one_then, run_then, simple_then, alternative_then, any_then, part_then, parts_match}

-- the test holds of no end of the text
abbrev pub Nowhere : (List ℕ → Bool) → List ℕ → Type 0
Nowhere q [] = q [] ≡ false
Nowhere q (c ∷ text) = (q (c ∷ text) ≡ false) × Nowhere q text

here : (q : List ℕ → Bool) (text : List ℕ) → Nowhere q text → q text ≡ false
here q [] n = n
here q (c ∷ text) n = n.0

one_nowhere : (p : ℕ → Bool) (q : List ℕ → Bool) (text : List ℕ) → Nowhere q text → Nowhere (one_then p q) text
one_nowhere p q [] n = refl
one_nowhere p q (c ∷ text) n = (rw (here q text n.1) refl, one_nowhere p q text n.1)

run_nowhere : (p : ℕ → Bool) (q : List ℕ → Bool) (text : List ℕ) → Nowhere q text → Nowhere (run_then p q) text
run_nowhere p q [] n = n
run_nowhere p q (c ∷ text) n =
    let rest : Nowhere (run_then p q) text = run_nowhere p q text n.1 in
    (rw n.0 (rw (here (run_then p q) text rest) refl), rest)

simple_nowhere : (s : Simple) (q : List ℕ → Bool) (text : List ℕ) → Nowhere q text → Nowhere (simple_then s q) text
simple_nowhere (Literal d) q text n = one_nowhere (λ c. c == d) q text n
simple_nowhere AnyChar q text n = one_nowhere (λ c. not (c == 47)) q text n
simple_nowhere (Class class) q text n = one_nowhere (class_takes class) q text n
simple_nowhere Star q text n = run_nowhere (λ c. not (c == 47)) q text n
simple_nowhere Stars q text n = run_nowhere (λ c. true) q text n

alternative_nowhere : (parts : List Simple) (q : List ℕ → Bool) (text : List ℕ) → Nowhere q text → Nowhere (alternative_then parts q) text
alternative_nowhere [] q text n = n
alternative_nowhere (part ∷ rest) q text n = simple_nowhere part (alternative_then rest q) text (alternative_nowhere rest q text n)

or_nowhere : (f g : List ℕ → Bool) (text : List ℕ) → Nowhere f text → Nowhere g text → Nowhere (λ t. f t || g t) text
or_nowhere f g [] n m = rw n m
or_nowhere f g (c ∷ text) n m = (rw n.0 m.0, or_nowhere f g text n.1 m.1)

false_nowhere : (text : List ℕ) → Nowhere (λ t. false) text
false_nowhere [] = refl
false_nowhere (c ∷ text) = (refl, false_nowhere text)

any_nowhere : (alternatives : List (List Simple)) (q : List ℕ → Bool) (text : List ℕ) → Nowhere q text → Nowhere (any_then alternatives q) text
any_nowhere [] q text n = false_nowhere text
any_nowhere (alternative ∷ others) q text n =
    or_nowhere (alternative_then alternative q) (any_then others q) text (alternative_nowhere alternative q text n) (any_nowhere others q text n)

part_nowhere : (part : Part) (q : List ℕ → Bool) (text : List ℕ) → Nowhere q text → Nowhere (part_then part q) text
part_nowhere (Plain simple) q text n = simple_nowhere simple q text n
part_nowhere (Choice alternatives) q text n = any_nowhere alternatives q text n

parts_nowhere : (front rest : List Part) (text : List ℕ) → Nowhere (parts_match rest) text → Nowhere (parts_match (front ++ rest)) text
parts_nowhere [] rest text n = n
parts_nowhere (part ∷ front) rest text n = part_nowhere part (parts_match (front ++ rest)) text (parts_nowhere front rest text n)

to_nowhere : (q : List ℕ → Bool) (text : List ℕ) → ((i : ℕ) → i ≤ length text → q (drop i text) ≡ false) → Nowhere q text
to_nowhere q [] f = f 0 (omega arith)
to_nowhere q (c ∷ text) f = (f 0 (omega arith), to_nowhere q text (λ i h. f (suc i) (let k : suc i ≤ suc (length text) = omega arith in k)))

from_nowhere : (q : List ℕ → Bool) (text : List ℕ) → Nowhere q text → (i : ℕ) → i ≤ length text → q (drop i text) ≡ false
from_nowhere q [] n i h = let none : i ≡ 0 = omega arith in rw none n
from_nowhere q (c ∷ text) n zero h = n.0
from_nowhere q (c ∷ text) n (suc i) h = from_nowhere q text n.1 i (omega arith)

-- a table with no entry set is that of all the parts, too
pub none_set : (parts : List Part) (k : ℕ) (text : List ℕ) (table : List Bool) → IsTable (parts_match (drop k parts)) text table → ((i : ℕ) → i < length table → get_or table i false ≡ false) → IsTable (parts_match parts) text table
none_set parts k text table t none =
    let len : length table ≡ length text + 1 = t.len in
    let rest : Nowhere (parts_match (drop k parts)) text = to_nowhere (parts_match (drop k parts)) text (λ i h. sym (t.at i h) ∙ none i (omega arith)) in
    let all : Nowhere (parts_match (take k parts ++ drop k parts)) text = parts_nowhere (take k parts) (drop k parts) text rest in
    let whole : Nowhere (parts_match parts) text = rw (take-append-drop k parts) at all in
    record { len = len; at = λ i h. none i (omega arith) ∙ sym (from_nowhere (parts_match parts) text whole i h) }
