-- A text is cut into tokens in one way.
use Rattle.std.proofs.Common.{◌≡◌, inl, inr, ℕ, true, false, List, [], ◌∷◌, ◌++◌, length, refl, sym, ◌∙◌, ap, subst}
use Rattle.bisync_glob.specs.declared.tokens.Piece.{Piece}
use Rattle.bisync_glob.specs.declared.tokens.Token.{Token}
use Rattle.bisync_glob.specs.declared.tokens.Piece.TheVariants.{Single}
use Rattle.bisync_glob.specs.declared.parts.Simple.TheVariants.{Class}
use Rattle.bisync_glob.specs.CharSet.{CharSet}
use Rattle.bisync_glob.specs.Tokens.{AreTokens, SpellsPiece, begins_escapable}
use Rattle.bisync_glob.proofs.TokenLaws.{Sort, other, star, bracket, escape, sort_of, star_piece, other_piece, View, view_of, class_one, run_one}

abbrev pub SameCut : Piece → Piece → List ℕ → List ℕ → List ℕ → List ℕ → Type 0
SameCut p q f b g h = (p ≡ q) × (f ≡ g) × (b ≡ h)

same_view : (sort : Sort) (p q : Piece) (f b g h : List ℕ) → f ++ b ≡ g ++ h → View sort p f b → View sort q g h → SameCut p q f b g h
same_view other p q f b g h e (c, front, is) (d, front', is') =
    let k : c ∷ b ≡ d ∷ h = rw front' at (rw front at e) in
    let same : c ≡ d = cc in
    let rest : b ≡ h = cc in
    (is ∙ ap other_piece same ∙ sym is', front ∙ ap (λ x. x ∷ []) same ∙ sym front', rest)
same_view star p q f b g h e (stars, none, is) (stars', none', is') =
    let both : (f ≡ g) × (b ≡ h) = run_one f g b h stars stars' none none' e in
    (is ∙ ap (λ (l : List ℕ). star_piece (length l)) both.0 ∙ sym is', both.0, both.1)
same_view bracket p q f b g h e (inl (class, spelled, is)) (inl (class', spelled', is')) =
    let all : (class ≡ class') × (f ≡ g) × (b ≡ h) = class_one class class' f b g h e spelled spelled' in
    (is ∙ ap (λ (x : CharSet). Single (Class x)) all.0 ∙ sym is', all.1, all.2)
same_view bracket p q f b g h e (inl (class, spelled, is)) (inr (front, none, is')) =
    absurd (none class f b (sym (rw front at e)) spelled)
same_view bracket p q f b g h e (inr (front, none, is)) (inl (class, spelled, is')) =
    absurd (none class g h (rw front at e) spelled)
same_view bracket p q f b g h e (inr (front, none, is)) (inr (front', none', is')) =
    let k : 91 ∷ b ≡ 91 ∷ h = rw front' at (rw front at e) in
    let rest : b ≡ h = cc in
    (is ∙ sym is', front ∙ sym front', rest)
same_view escape p q f b g h e (inl (c, front, some, is)) (inl (d, front', some', is')) =
    let k : 92 ∷ (c ∷ b) ≡ 92 ∷ (d ∷ h) = rw front' at (rw front at e) in
    let same : c ≡ d = cc in
    let rest : b ≡ h = cc in
    (is ∙ rw same (sym is'), front ∙ rw same (sym front'), rest)
same_view escape p q f b g h e (inl (c, front, some, is)) (inr (front', none, is')) =
    let k : 92 ∷ (c ∷ b) ≡ 92 ∷ h = rw front' at (rw front at e) in
    let rest : c ∷ b ≡ h = cc in
    absurd (let x : true ≡ false = sym some ∙ ap begins_escapable rest ∙ none in cc)
same_view escape p q f b g h e (inr (front, none, is)) (inl (c, front', some, is')) =
    let k : 92 ∷ b ≡ 92 ∷ (c ∷ h) = rw front' at (rw front at e) in
    let rest : b ≡ c ∷ h = cc in
    absurd (let x : true ≡ false = sym some ∙ sym (ap begins_escapable rest) ∙ none in cc)
same_view escape p q f b g h e (inr (front, none, is)) (inr (front', none', is')) =
    let k : 92 ∷ b ≡ 92 ∷ h = rw front' at (rw front at e) in
    let rest : b ≡ h = cc in
    (is ∙ sym is', front ∙ sym front', rest)

piece_one : (p q : Piece) (f b g h : List ℕ) → f ++ b ≡ g ++ h → SpellsPiece p f b → SpellsPiece q g h → SameCut p q f b g h
piece_one p q f b g h e spelled spelled' =
    let (c, r, front, view) = view_of p f b spelled in
    let (d, t, front', view') = view_of q g h spelled' in
    let k : c ∷ (r ++ b) ≡ d ∷ (t ++ h) = rw front' at (rw front at e) in
    let same : c ≡ d = cc in
    same_view (sort_of d) p q f b g h e (subst (λ (x : ℕ). View (sort_of x) p f b) same view) view'

some_front : (p : Piece) (b h : List ℕ) → [] ≡ h → SpellsPiece p h b → ⊥
some_front p b h e spelled =
    let (c, r, front, view) = view_of p h b spelled in
    absurd (let k : [] ≡ c ∷ r = e ∙ front in cc)

token_same : (t u : Token) → t.piece ≡ u.piece → t.len ≡ u.len → t ≡ u
token_same t u p l =
    let make : Piece → ℕ → Token = λ piece len. record { piece = piece; len = len } in
    ap (λ (x : Piece). make x t.len) p ∙ ap (λ (n : ℕ). make u.piece n) l

empty_front : (f b : List ℕ) → [] ≡ f ++ b → [] ≡ f
empty_front [] b e = refl
empty_front (c ∷ f) b e = absurd (cc)

pub tokens_one : (tokens others : List Token) (text : List ℕ) → AreTokens tokens text → AreTokens others text → tokens ≡ others
tokens_one [] [] text e e' = refl
tokens_one [] (other' ∷ more) text e (front, back, e', len, spelled, rest) = absurd (some_front other'.piece back front (empty_front front back (sym e ∙ e')) spelled)
tokens_one (token ∷ more) [] text (front, back, e, len, spelled, rest) e' = absurd (some_front token.piece back front (empty_front front back (sym e' ∙ e)) spelled)
tokens_one (token ∷ more) (other' ∷ others) text (front, back, e, len, spelled, rest) (front', back', e', len', spelled', rest') =
    let one : SameCut token.piece other'.piece front back front' back' = piece_one token.piece other'.piece front back front' back' (sym e ∙ e') spelled spelled' in
    let first : token ≡ other' = token_same token other' one.0 (sym len ∙ ap length one.1 ∙ len') in
    let rec : more ≡ others = tokens_one more others back rest (subst (λ (t : List ℕ). AreTokens others t) (sym one.2) rest') in
    rw (first, rec) refl
