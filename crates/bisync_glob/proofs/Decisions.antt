-- The tests decide the relation of cuts.
use Rattle.std.proofs.Common.{◌≡◌, ◌⊎◌, ℕ, ◌&&◌, ◌||◌, ◌==◌, not, Bool, true, false, List, [], ◌∷◌, ◌++◌, refl, sym, ◌∙◌, ap, subst, inl, inr, append_assoc, IsTrue}
use Rattle.std.specs.Bool.{Decides}
use Rattle.std.specs.List.{All}
use Rattle.std.proofs.lemmas.List.Elements.{All-nil, All-cons, All-head, All-tail}
use Rattle.std.proofs.lemmas.Bool.{and_parts, and_from}
use Rattle.std.proofs.lemmas.Bool.Decides.{Decides-like, Decides-eqb, Decides-or}
use Rattle.bisync_glob.specs.declared.parts.Simple.{Simple}
use Rattle.bisync_glob.specs.declared.parts.Simple.TheVariants.{Literal, AnyChar, Class, Star, Stars}
use Rattle.bisync_glob.specs.declared.parts.Part.{Part}
use Rattle.bisync_glob.specs.declared.parts.Part.TheVariants.{Plain, Choice}
use Rattle.bisync_glob.specs.Matching.{class_takes, Cut, MatchesSimple, MatchesAlternative, MatchesAny, MatchesPart, MatchesWhole}
use Rattle.bisync_glob.specs.Deciding.{one_then, run_then, simple_then, alternative_then, any_then, part_then, parts_match}

or_parts : (x y : Bool) → (x || y) ≡ true → (x ≡ true) ⊎ (y ≡ true)
or_parts true y h = inl refl
or_parts false y h = inr h

or_left : (x y : Bool) → x ≡ true → (x || y) ≡ true
or_left x y h = rw h refl

or_right : (x y : Bool) → y ≡ true → (x || y) ≡ true
or_right true y h = refl
or_right false y h = h

abbrev pub OneBy : (ℕ → Bool) → List ℕ → Type 0
OneBy p front = (c : ℕ) × (front ≡ c ∷ []) × IsTrue (p c)

abbrev pub RunBy : (ℕ → Bool) → List ℕ → Type 0
RunBy p front = All (λ c. IsTrue (p c)) front

one_cut : (p : ℕ → Bool) (q : List ℕ → Bool) (Q : List ℕ → Type 0) → ((t : List ℕ) → Decides (q t) (Q t)) → (text : List ℕ) → Decides (one_then p q text) (Cut (OneBy p) Q text)
one_cut p q Q d [] = (λ h. absurd (cc), λ (front, back, e, (c, f, g), b). absurd (let e' : [] ≡ c ∷ back = rw f at e in cc))
one_cut p q Q d (c ∷ text) = (
  λ h. let parts : (q text ≡ true) × (p c ≡ true) = and_parts (q text) (p c) h in (c ∷ [], text, refl, (c, refl, parts.1), (d text).0 parts.0),
  λ (front, back, e, (a, f, g), b).
      let e' : c ∷ text ≡ a ∷ back = rw f at e in
      let same : c ≡ a = cc in
      let rest : back ≡ text = cc in
      and_from (q text) (p c) ((d text).1 (subst Q rest b)) (rw same g),
)

-- a cut of a longer text: the front is empty, or it begins with the first character
longer : (P Q : List ℕ → Type 0) (c : ℕ) (text : List ℕ) → Cut P Q (c ∷ text) → (P [] × Q (c ∷ text)) ⊎ (Cut (λ front. P (c ∷ front)) Q text)
longer P Q c text (front, back, e, p, q) = more front back e p q
  where
    more : (front back : List ℕ) → c ∷ text ≡ front ++ back → P front → Q back → (P [] × Q (c ∷ text)) ⊎ (Cut (λ front. P (c ∷ front)) Q text)
    more [] back e p q = inl (p, subst Q (sym e) q)
    more (a ∷ front) back e p q =
        let first : a ≡ c = cc in
        let rest : text ≡ front ++ back = cc in
        inr (front, back, rest, subst (λ x. P (x ∷ front)) first p, q)

run_cut : (p : ℕ → Bool) (q : List ℕ → Bool) (Q : List ℕ → Type 0) → ((t : List ℕ) → Decides (q t) (Q t)) → (text : List ℕ) → Decides (run_then p q text) (Cut (RunBy p) Q text)
run_cut p q Q d [] = (
  λ h. ([], [], refl, All-nil (λ c. IsTrue (p c)), (d []).0 h),
  λ (front, back, e, r, b). (d []).1 (subst Q (back_empty front back e) b),
)
  where
    back_empty : (front back : List ℕ) → [] ≡ front ++ back → back ≡ []
    back_empty [] back e = sym e
    back_empty (a ∷ front) back e = absurd (cc)
run_cut p q Q d (c ∷ text) =
    let rec : Decides (run_then p q text) (Cut (RunBy p) Q text) = run_cut p q Q d text in (
      λ h. elim (or_parts (q (c ∷ text)) (run_then p q text && p c) h) [
        | inl here ↦ ([], c ∷ text, refl, All-nil (λ c. IsTrue (p c)), (d (c ∷ text)).0 here)
        | inr later ↦
            let parts : (run_then p q text ≡ true) × (p c ≡ true) = and_parts (run_then p q text) (p c) later in
            put (parts.1) (rec.0 parts.0)
      ],
      λ cut. elim (longer (RunBy p) Q c text cut) [
        | inl w ↦ or_left (q (c ∷ text)) (run_then p q text && p c) ((d (c ∷ text)).1 w.1)
        | inr (front, back, e, r, b) ↦ or_right (q (c ∷ text)) (run_then p q text && p c) (and_from (run_then p q text) (p c) (rec.1 (front, back, e, All-tail (λ c. IsTrue (p c)) c front r, b)) (All-head (λ c. IsTrue (p c)) c front r))
      ],
    )
  where
    put : p c ≡ true → Cut (RunBy p) Q text → Cut (RunBy p) Q (c ∷ text)
    put h (front, back, e, r, b) = (c ∷ front, back, ap (λ t. c ∷ t) e, All-cons (λ c. IsTrue (p c)) c front h r, b)

-- a front that P and P' both name
cut_like : (P P' Q : List ℕ → Type 0) → ((t : List ℕ) → P t → P' t) → (text : List ℕ) → Cut P Q text → Cut P' Q text
cut_like P P' Q to text (front, back, e, p, q) = (front, back, e, to front p, q)

abbrev pub Tells : (List ℕ → Bool) → (List ℕ → Type 0) → Type 0
Tells q Q = (t : List ℕ) → Decides (q t) (Q t)

simple_cut : (s : Simple) (q : List ℕ → Bool) (Q : List ℕ → Type 0) → Tells q Q → Tells (simple_then s q) (Cut (MatchesSimple s) Q)
simple_cut (Literal a) q Q d text = Decides-like (simple_then (Literal a) q text) (cut_like (OneBy (λ c. c == a)) (MatchesSimple (Literal a)) Q there text) (cut_like (MatchesSimple (Literal a)) (OneBy (λ c. c == a)) Q back text) (one_cut (λ c. c == a) q Q d text)
  where
    there : (t : List ℕ) → OneBy (λ c. c == a) t → MatchesSimple (Literal a) t
    there t (c, e, h) = rw (← (Decides-eqb c a).0 h) e

    back : (t : List ℕ) → MatchesSimple (Literal a) t → OneBy (λ c. c == a) t
    back t h = (a, h, (Decides-eqb a a).1 refl)
simple_cut AnyChar q Q d text = one_cut (λ c. not (c == 47)) q Q d text
simple_cut (Class class) q Q d text = one_cut (class_takes class) q Q d text
simple_cut Star q Q d text = run_cut (λ c. not (c == 47)) q Q d text
simple_cut Stars q Q d text = Decides-like (simple_then Stars q text) (cut_like (RunBy (λ c. true)) (MatchesSimple Stars) Q (λ t h. tt) text) (cut_like (MatchesSimple Stars) (RunBy (λ c. true)) Q (λ t h k a l. refl) text) (run_cut (λ c. true) q Q d text)

-- cuts into three
cuts_to : (P R Q : List ℕ → Type 0) (text : List ℕ) → Cut P (Cut R Q) text → Cut (Cut P R) Q text
cuts_to P R Q text (a, b, e, p, (c, d, f, r, q)) = (a ++ c, d, e ∙ rw f (sym (append_assoc a c d)), (a, c, refl, p, r), q)

cuts_from : (P R Q : List ℕ → Type 0) (text : List ℕ) → Cut (Cut P R) Q text → Cut P (Cut R Q) text
cuts_from P R Q text (ac, d, e, (a, c, f, p, r), q) = (a, c ++ d, e ∙ rw f (append_assoc a c d), p, (c, d, refl, r, q))

alternative_cut : (parts : List Simple) (q : List ℕ → Bool) (Q : List ℕ → Type 0) → Tells q Q → Tells (alternative_then parts q) (Cut (MatchesAlternative parts) Q)
alternative_cut [] q Q d text = (λ h. ([], text, refl, refl, (d text).0 h), λ (front, back, e, f, b). let same : text ≡ back = rw f at e in (d text).1 (subst Q (sym same) b))
alternative_cut (part ∷ rest) q Q d text = Decides-like (alternative_then (part ∷ rest) q text) (cuts_to (MatchesSimple part) (MatchesAlternative rest) Q text) (cuts_from (MatchesSimple part) (MatchesAlternative rest) Q text) (simple_cut part (alternative_then rest q) (Cut (MatchesAlternative rest) Q) (alternative_cut rest q Q d) text)

any_cut : (alternatives : List (List Simple)) (q : List ℕ → Bool) (Q : List ℕ → Type 0) → Tells q Q → Tells (any_then alternatives q) (Cut (MatchesAny alternatives) Q)
any_cut [] q Q d text = (λ h. absurd (cc), λ (front, back, e, never, b). absurd never)
any_cut (alternative ∷ others) q Q d text =
    let first : Decides (alternative_then alternative q text) (Cut (MatchesAlternative alternative) Q text) = alternative_cut alternative q Q d text in
    let rec : Decides (any_then others q text) (Cut (MatchesAny others) Q text) = any_cut others q Q d text in
    Decides-like (any_then (alternative ∷ others) q text) there back (Decides-or (alternative_then alternative q text) (any_then others q text) first rec)
  where
    there : Cut (MatchesAlternative alternative) Q text ⊎ Cut (MatchesAny others) Q text → Cut (MatchesAny (alternative ∷ others)) Q text
    there (inl (f, b, e, p, r)) = (f, b, e, inl p, r)
    there (inr (f, b, e, p, r)) = (f, b, e, inr p, r)

    back : Cut (MatchesAny (alternative ∷ others)) Q text → Cut (MatchesAlternative alternative) Q text ⊎ Cut (MatchesAny others) Q text
    back (f, b, e, inl p, r) = inl (f, b, e, p, r)
    back (f, b, e, inr p, r) = inr (f, b, e, p, r)

part_cut : (part : Part) (q : List ℕ → Bool) (Q : List ℕ → Type 0) → Tells q Q → Tells (part_then part q) (Cut (MatchesPart part) Q)
part_cut (Plain simple) q Q d text = simple_cut simple q Q d text
part_cut (Choice alternatives) q Q d text = any_cut alternatives q Q d text

pub parts_match-Decides : (parts : List Part) → Tells (parts_match parts) (MatchesWhole parts)
parts_match-Decides [] [] = (λ h. refl, λ h. refl)
parts_match-Decides [] (c ∷ text) = (λ h. absurd (cc), λ h. absurd (cc))
parts_match-Decides (part ∷ rest) text = part_cut part (parts_match rest) (MatchesWhole rest) (parts_match-Decides rest) text
