-- Tokens are the parts of one pattern alone.
use Rattle.std.proofs.Common.{◌≡◌, ◌≢◌, ◌⊎◌, inl, inr, List, [], ◌∷◌, ◌++◌, refl, sym, ◌∙◌, ap, subst, append_assoc}
use Rattle.bisync_glob.specs.declared.parts.Simple.{Simple}
use Rattle.bisync_glob.specs.declared.parts.Simple.TheVariants.{Literal, Star, Stars}
use Rattle.bisync_glob.specs.declared.parts.Part.{Part}
use Rattle.bisync_glob.specs.declared.parts.Part.TheVariants.{Plain, Choice}
use Rattle.bisync_glob.specs.declared.tokens.Piece.{Piece}
use Rattle.bisync_glob.specs.declared.tokens.Piece.TheVariants.{Single, Escaped, Open, Comma, Close, Bad}
use Rattle.bisync_glob.specs.Parsing.{IsSimple, IsAlternative, AreAlternatives, IsPart, AreParts, AreAllParts}

-- ONE PART WITHOUT BRACES

-- what a token is outside braces
abbrev meaning : Piece → Simple
meaning (Single simple) = simple
meaning (Escaped c) = Literal c
meaning Open = Star
meaning Comma = Literal 44
meaning Close = Star
meaning (Bad kind) = Star

abbrev IsPlain : Simple → Piece → Type 0
IsPlain simple piece = IsSimple simple piece ⊎ ((piece ≡ Comma) × (simple ≡ Literal 44))

plain_meaning : (simple : Simple) (piece : Piece) → IsPlain simple piece → simple ≡ meaning piece
plain_meaning simple piece (inl (inl is)) = sym (ap meaning is)
plain_meaning simple piece (inl (inr (c, is, same))) = same ∙ sym (ap meaning is)
plain_meaning simple piece (inr (is, same)) = same ∙ sym (ap meaning is)

not_open : (simple : Simple) (piece : Piece) → IsPlain simple piece → piece ≢ Open
not_open simple piece (inl (inl is)) e = absurd (let k : Single simple ≡ Open = sym is ∙ e in cc)
not_open simple piece (inl (inr (c, is, same))) e = absurd (let k : Escaped c ≡ Open = sym is ∙ e in cc)
not_open simple piece (inr (is, same)) e = absurd (let k : Comma ≡ Open = sym is ∙ e in cc)

-- TEXTS WITHOUT A TOKEN

abbrev Without : Piece → List Piece → Type 0
Without x [] = Unit {0}
Without x (piece ∷ rest) = (piece ≢ x) × Without x rest

without_append : (x : Piece) (f g : List Piece) → Without x f → Without x g → Without x (f ++ g)
without_append x [] g p q = q
without_append x (piece ∷ f) g p q = (p.0, without_append x f g p.1 q)

split_same : (x : Piece) (f g b h : List Piece) → Without x f → Without x g → f ++ x ∷ b ≡ g ++ x ∷ h → (f ≡ g) × (b ≡ h)
split_same x [] [] b h p q e = (refl, cc)
split_same x [] (piece ∷ g) b h p q e = absurd (q.0 (cc))
split_same x (piece ∷ f) [] b h p q e = absurd (p.0 (cc))
split_same x (piece ∷ f) (piece' ∷ g) b h p q e =
    let first : piece ≡ piece' = cc in
    let rest : f ++ x ∷ b ≡ g ++ x ∷ h = cc in
    let rec : (f ≡ g) × (b ≡ h) = split_same x f g b h p.1 q.1 rest in
    ((let fg : f ≡ g = rec.0 in rw (first, fg) refl), rec.1)

without_split : (x : Piece) (f b tokens : List Piece) → Without x tokens → tokens ≡ f ++ x ∷ b → ⊥
without_split x [] b [] p e = absurd (cc)
without_split x (piece ∷ f) b [] p e = absurd (cc)
without_split x [] b (token ∷ tokens) p e = p.0 (cc)
without_split x (piece ∷ f) b (token ∷ tokens) p e = without_split x f b tokens p.1 (cc)

simple_not_comma : (simple : Simple) (piece : Piece) → IsSimple simple piece → piece ≢ Comma
simple_not_comma simple piece (inl is) e = absurd (let k : Single simple ≡ Comma = sym is ∙ e in cc)
simple_not_comma simple piece (inr (c, is, same)) e = absurd (let k : Escaped c ≡ Comma = sym is ∙ e in cc)

simple_not_close : (simple : Simple) (piece : Piece) → IsSimple simple piece → piece ≢ Close
simple_not_close simple piece (inl is) e = absurd (let k : Single simple ≡ Close = sym is ∙ e in cc)
simple_not_close simple piece (inr (c, is, same)) e = absurd (let k : Escaped c ≡ Close = sym is ∙ e in cc)

without_in_alternative : (x : Piece) → ((s : Simple) (piece : Piece) → IsSimple s piece → piece ≢ x) → (alternative : List Simple) (tokens : List Piece) → IsAlternative alternative tokens → Without x tokens
without_in_alternative x none [] tokens e = subst (λ t. Without x t) (sym e) tt
without_in_alternative x none (simple ∷ more) tokens (piece, rest, e, is, others) =
    subst (λ t. Without x t) (sym e) (none simple piece is, without_in_alternative x none more rest others)

without_comma : (alternative : List Simple) (tokens : List Piece) → IsAlternative alternative tokens → Without Comma tokens
without_comma = without_in_alternative Comma simple_not_comma

without_close : (alternatives : List (List Simple)) (tokens : List Piece) → AreAlternatives alternatives tokens → Without Close tokens
without_close [] tokens never = absurd never
without_close (alternative ∷ others) tokens (inl (none, is)) = without_in_alternative Close simple_not_close alternative tokens is
without_close (alternative ∷ others) tokens (inr (front, back, e, is, rest)) =
    subst (λ t. Without Close t) (sym e)
    (without_append Close front (Comma ∷ back) (without_in_alternative Close simple_not_close alternative front is) ((λ k. absurd (cc)), without_close others back rest))

-- ALTERNATIVES

alternative_one : (xs bs : List Simple) (tokens : List Piece) → IsAlternative xs tokens → IsAlternative bs tokens → xs ≡ bs
alternative_one [] [] tokens e e' = refl
alternative_one [] (b ∷ bs) tokens e (piece, rest, e', is, more) = absurd (let k : [] ≡ piece ∷ rest = sym e ∙ e' in cc)
alternative_one (a ∷ xs) [] tokens (piece, rest, e, is, more) e' = absurd (let k : [] ≡ piece ∷ rest = sym e' ∙ e in cc)
alternative_one (a ∷ xs) (b ∷ bs) tokens (piece, rest, e, is, more) (piece', rest', e', is', more') =
    let k : piece ∷ rest ≡ piece' ∷ rest' = sym e ∙ e' in
    let same : piece ≡ piece' = cc in
    let rests : rest ≡ rest' = cc in
    let first : a ≡ b = plain_meaning a piece (inl is) ∙ ap meaning same ∙ sym (plain_meaning b piece' (inl is')) in
    let rec : xs ≡ bs = alternative_one xs bs rest more (subst (λ t. IsAlternative bs t) (sym rests) more') in
    rw (first, rec) refl

alternatives_one : (xs bs : List (List Simple)) (tokens : List Piece) → AreAlternatives xs tokens → AreAlternatives bs tokens → xs ≡ bs
alternatives_one [] bs tokens never are = absurd never
alternatives_one (a ∷ xs) [] tokens are never = absurd never
alternatives_one (a ∷ xs) (b ∷ bs) tokens (inl (none, is)) (inl (none', is')) =
    let first : a ≡ b = alternative_one a b tokens is is' in
    rw (first, none, none') refl
alternatives_one (a ∷ xs) (b ∷ bs) tokens (inl (none, is)) (inr (front, back, e, is', rest)) =
    absurd (without_split Comma front back tokens (without_comma a tokens is) e)
alternatives_one (a ∷ xs) (b ∷ bs) tokens (inr (front, back, e, is, rest)) (inl (none, is')) =
    absurd (without_split Comma front back tokens (without_comma b tokens is') e)
alternatives_one (a ∷ xs) (b ∷ bs) tokens (inr (front, back, e, is, rest)) (inr (front', back', e', is', rest')) =
    let both : (front ≡ front') × (back ≡ back') = split_same Comma front front' back back' (without_comma a front is) (without_comma b front' is') (sym e ∙ e') in
    let first : a ≡ b = alternative_one a b front is (subst (λ t. IsAlternative b t) (sym both.0) is') in
    let rec : xs ≡ bs = alternatives_one xs bs back rest (subst (λ t. AreAlternatives bs t) (sym both.1) rest') in
    rw (first, rec) refl

-- PARTS

part_one : (p q : Part) (f b g h : List Piece) → f ++ b ≡ g ++ h → IsPart p f → IsPart q g → (p ≡ q) × (b ≡ h)
part_one (Plain s) (Plain t) f b g h e (x, front, is) (y, front', is') =
    let k : x ∷ b ≡ y ∷ h = rw front' at (rw front at e) in
    let same : x ≡ y = cc in
    let rest : b ≡ h = cc in
    (ap (λ z. Plain z) (plain_meaning s x is ∙ ap meaning same ∙ sym (plain_meaning t y is')), rest)
part_one (Plain s) (Choice bs) f b g h e (x, front, is) (body, front', are) =
    let k : x ∷ b ≡ Open ∷ ((body ++ Close ∷ []) ++ h) = rw front' at (rw front at e) in
    absurd (not_open s x is (cc))
part_one (Choice xs) (Plain t) f b g h e (body, front, are) (y, front', is) =
    let k : Open ∷ ((body ++ Close ∷ []) ++ b) ≡ y ∷ h = rw front' at (rw front at e) in
    absurd (not_open t y is (cc))
part_one (Choice xs) (Choice bs) f b g h e (body, front, are) (body', front', are') =
    let k : Open ∷ ((body ++ Close ∷ []) ++ b) ≡ Open ∷ ((body' ++ Close ∷ []) ++ h) = rw front' at (rw front at e) in
    let inner : (body ++ Close ∷ []) ++ b ≡ (body' ++ Close ∷ []) ++ h = cc in
    let flat : body ++ Close ∷ b ≡ body' ++ Close ∷ h = sym (append_assoc body (Close ∷ []) b) ∙ inner ∙ append_assoc body' (Close ∷ []) h in
    let both : (body ≡ body') × (b ≡ h) = split_same Close body body' b h (without_close xs body are) (without_close bs body' are') flat in
    (ap (λ z. Choice z) (alternatives_one xs bs body are (subst (λ t. AreAlternatives bs t) (sym both.0) are')), both.1)

some_part : (p : Part) (f b : List Piece) → [] ≡ f ++ b → IsPart p f → ⊥
some_part (Plain s) f b e (x, front, is) = absurd (let k : [] ≡ x ∷ b = rw front at e in cc)
some_part (Choice xs) f b e (body, front, are) = absurd (let k : [] ≡ Open ∷ ((body ++ Close ∷ []) ++ b) = rw front at e in cc)

parts_one : (ps qs : List Part) (tokens : List Piece) → AreParts ps tokens → AreParts qs tokens → ps ≡ qs
parts_one [] [] tokens e e' = refl
parts_one [] (q ∷ qs) tokens e (front, back, e', is, rest) = absurd (some_part q front back (sym e ∙ e') is)
parts_one (p ∷ ps) [] tokens (front, back, e, is, rest) e' = absurd (some_part p front back (sym e' ∙ e) is)
parts_one (p ∷ ps) (q ∷ qs) tokens (front, back, e, is, rest) (front', back', e', is', rest') =
    let one : (p ≡ q) × (back ≡ back') = part_one p q front back front' back' (sym e ∙ e') is is' in
    let rec : ps ≡ qs = parts_one ps qs back rest (subst (λ t. AreParts qs t) (sym one.1) rest') in
    let first : p ≡ q = one.0 in
    rw (first, rec) refl

pub all_parts_one : (ps qs : List Part) (tokens : List Piece) → AreAllParts ps tokens → AreAllParts qs tokens → ps ≡ qs
all_parts_one ps qs tokens (inl (are, other)) (inl (are', other')) = parts_one ps qs tokens are are'
all_parts_one ps qs tokens (inl (are, other)) (inr (front, e, are', slash)) = absurd (other slash)
all_parts_one ps qs tokens (inr (front, e, are, slash)) (inl (are', other)) = absurd (other slash)
all_parts_one ps qs tokens (inr (front, e, are, slash)) (inr (front', e', are', slash')) =
    e ∙ ap (λ (f : List Part). f ++ Plain Stars ∷ []) (parts_one front front' tokens are are') ∙ sym e'
