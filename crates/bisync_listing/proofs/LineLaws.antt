-- Texts that are cut at a byte: the cut is where that byte first stands, so a text has one list of lines.
use Rattle.std.proofs.Common.{◌≡◌, ℕ, ◌<◌, List, [], ◌∷◌, ◌++◌, length, refl, sym, ap, subst, ◌∙◌, append_assoc, arith}
use Rattle.std.specs.List.{All}
use Rattle.std.proofs.lemmas.List.{append-nil}
use Rattle.std.proofs.lemmas.List.Concat.{flat_map-append}
use Rattle.std.proofs.lemmas.List.Elements.{All-weaker, recursion_from_All}
use Rattle.bisync_listing.specs.Words.{Lacks, AreLines, ended, text_of_lines}

pub Lacks-append : (b : ℕ) (xs ys : List ℕ) → Lacks b xs → Lacks b ys → Lacks b (xs ++ ys)
Lacks-append b [] ys hx hy = hy
Lacks-append b (x ∷ xs) ys hx hy = (hx.0, Lacks-append b xs ys hx.1 hy)

pub Lacks-left : (b : ℕ) (xs ys : List ℕ) → Lacks b (xs ++ ys) → Lacks b xs
Lacks-left b [] ys h = tt
Lacks-left b (x ∷ xs) ys h = (h.0, Lacks-left b xs ys h.1)

pub Lacks-right : (b : ℕ) (xs ys : List ℕ) → Lacks b (xs ++ ys) → Lacks b ys
Lacks-right b [] ys h = h
Lacks-right b (x ∷ xs) ys h = Lacks-right b xs ys h.1

pub Lacks-same : (b : ℕ) (xs ys : List ℕ) → xs ≡ ys → Lacks b ys → Lacks b xs
Lacks-same b xs ys e h = subst (λ (l : List ℕ). Lacks b l) (sym e) h

-- bytes of which each is another one
pub Lacks-from : (b : ℕ) (P : ℕ → Type 0) → ((c : ℕ) → P c → c ≡ b → ⊥) → (xs : List ℕ) → All P xs → Lacks b xs
Lacks-from b P apart xs h = recursion_from_All (λ c. c ≡ b → ⊥) xs (All-weaker P (λ c. c ≡ b → ⊥) apart xs h)

-- the byte is not there
pub lacks_none : (b : ℕ) (xs before after : List ℕ) → Lacks b xs → xs ≡ before ++ b ∷ after → ⊥
lacks_none b xs before after h e = let all : Lacks b (before ++ b ∷ after) = subst (λ (l : List ℕ). Lacks b l) e h in (Lacks-right b before (b ∷ after) all).0 refl

pub head_same : (a b : ℕ) (x y : List ℕ) → a ∷ x ≡ b ∷ y → (a ≡ b) × (x ≡ y)
head_same a b x y e = (cc, cc)

pub append_cancel : (xs ys zs : List ℕ) → xs ++ ys ≡ xs ++ zs → ys ≡ zs
append_cancel [] ys zs e = e
append_cancel (x ∷ xs) ys zs e = append_cancel xs ys zs (head_same _ _ _ _ e).1

-- the first place of a byte
pub cut_apart : (b : ℕ) (xs ys more rest : List ℕ) → Lacks b xs → Lacks b ys → xs ++ b ∷ more ≡ ys ++ b ∷ rest → (xs ≡ ys) × (more ≡ rest)
cut_apart b [] [] more rest hx hy e = (refl, (head_same _ _ _ _ e).1)
cut_apart b [] (y ∷ ys) more rest hx hy e = absurd (hy.0 (sym (head_same _ _ _ _ e).0))
cut_apart b (x ∷ xs) [] more rest hx hy e = absurd (hx.0 (head_same _ _ _ _ e).0)
cut_apart b (x ∷ xs) (y ∷ ys) more rest hx hy e =
    let h = head_same _ _ _ _ e in
    let t = cut_apart b xs ys more rest hx.1 hy.1 h.1 in
    (rw (h.0, t.0) refl, t.1)

pub text-cons : (line : List ℕ) (lines : List (List ℕ)) (rest : List ℕ) → text_of_lines (line ∷ lines) ++ rest ≡ line ++ 10 ∷ (text_of_lines lines ++ rest)
text-cons line lines rest = append_assoc (ended line) (text_of_lines lines) rest ∙ append_assoc line (10 ∷ []) (text_of_lines lines ++ rest)

-- a text has one list of as many lines
pub lines_apart : (ls ms : List (List ℕ)) (x y : List ℕ) → AreLines ls → AreLines ms → length ls ≡ length ms → text_of_lines ls ++ x ≡ text_of_lines ms ++ y → (ls ≡ ms) × (x ≡ y)
lines_apart [] [] x y hl hm n e = (refl, e)
lines_apart [] (m ∷ ms) x y hl hm n e = absurd (omega arith)
lines_apart (l ∷ ls) [] x y hl hm n e = absurd (omega arith)
lines_apart (l ∷ ls) (m ∷ ms) x y hl hm n e =
    let h = cut_apart 10 l m (text_of_lines ls ++ x) (text_of_lines ms ++ y) hl.0 hm.0 (sym (text-cons l ls x) ∙ e ∙ text-cons m ms y) in
    let t = lines_apart ls ms x y hl.1 hm.1 (omega arith) h.1 in
    (rw (h.0, t.0) refl, t.1)

-- bytes without a newline hold no line more
pub no_more_lines : (ls ms : List (List ℕ)) (x y : List ℕ) → AreLines ls → AreLines ms → Lacks 10 x → length ls < length ms → text_of_lines ls ++ x ≡ text_of_lines ms ++ y → ⊥
no_more_lines ls [] x y hl hm hx n e = omega arith
no_more_lines [] (m ∷ ms) x y hl hm hx n e = lacks_none 10 x m (text_of_lines ms ++ y) hx (e ∙ text-cons m ms y)
no_more_lines (l ∷ ls) (m ∷ ms) x y hl hm hx n e =
    let h = cut_apart 10 l m (text_of_lines ls ++ x) (text_of_lines ms ++ y) hl.0 hm.0 (sym (text-cons l ls x) ∙ e ∙ text-cons m ms y) in
    no_more_lines ls ms x y hl.1 hm.1 hx (omega arith) h.1

pub AreLines-append : (ls ms : List (List ℕ)) → AreLines ls → AreLines ms → AreLines (ls ++ ms)
AreLines-append [] ms hl hm = hm
AreLines-append (l ∷ ls) ms hl hm = (hl.0, AreLines-append ls ms hl.1 hm)

pub AreLines-left : (ls ms : List (List ℕ)) → AreLines (ls ++ ms) → AreLines ls
AreLines-left [] ms h = tt
AreLines-left (l ∷ ls) ms h = (h.0, AreLines-left ls ms h.1)

-- with one line more
pub text-push : (lines : List (List ℕ)) (line : List ℕ) → text_of_lines (lines ++ line ∷ []) ≡ text_of_lines lines ++ line ++ 10 ∷ []
text-push lines line = flat_map-append ended lines (line ∷ []) ∙ ap (λ (t : List ℕ). text_of_lines lines ++ t) (append-nil (ended line)) ∙ sym (append_assoc (text_of_lines lines) line (10 ∷ []))
