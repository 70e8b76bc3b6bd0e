-- A quoted text is that of one list of bytes, no quoted text begins another, and none has a byte below 32.
use Rattle.std.proofs.Common.{◌≡◌, ℕ, ◌+◌, ◌*◌, ◌/◌, ◌%◌, ◌<◌, ◌≤◌, ◌⊎◌, inl, inr, true, false, List, [], ◌∷◌, ◌++◌, length, refl, sym, ap, ◌∙◌, append_assoc, arith, length-append}
use Rattle.std.specs.Prelude.{All}
use Rattle.std.proofs.lemmas.Bool.Decides.{nat_tests}
use Rattle.std.proofs.lemmas.List.Elements.{All-nil, All-cons, All-append}
use Rattle.std.specs.List.{flat_map}
use Rattle.bisync_text.specs.Quote.{hex_digit, is_escaped, quoted_byte, quoted}
use Rattle.bisync_text.specs.Unquote.{quoted_rest}

pub is_escaped-cases : (b : ℕ) → (is_escaped b ≡ true) ⊎ (is_escaped b ≡ false)
is_escaped-cases b = elim (is_escaped b) as (λ v. (v ≡ true) ⊎ (v ≡ false)) [ true ↦ inl refl | false ↦ inr refl ]

pub quoted_byte-escaped : (b : ℕ) → is_escaped b ≡ true → quoted_byte b ≡ 92 ∷ (120 ∷ (hex_digit (b / 16) ∷ (hex_digit (b % 16) ∷ [])))
unfolding quoted_byte
quoted_byte-escaped b e = rw e refl

pub quoted_byte-plain : (b : ℕ) → is_escaped b ≡ false → quoted_byte b ≡ b ∷ []
unfolding quoted_byte
quoted_byte-plain b e = rw e refl

pub quoted_is : (bytes : List ℕ) → quoted bytes ≡ 34 ∷ quoted_rest bytes
unfolding quoted
quoted_is bytes = refl

pub quoted_rest-cons : (b : ℕ) (bytes : List ℕ) → quoted_rest (b ∷ bytes) ≡ quoted_byte b ++ quoted_rest bytes
quoted_rest-cons b bytes = append_assoc (quoted_byte b) (flat_map quoted_byte bytes) (34 ∷ [])

pub plain_apart : (b : ℕ) → is_escaped b ≡ false → (b ≡ 92 → ⊥) × (b ≡ 34 → ⊥) × (32 ≤ b)
plain_apart b e = (λ same. grind (arith, nat_tests), λ same. grind (arith, nat_tests), grind (arith, nat_tests))

pub escaped_below : (b : ℕ) → is_escaped b ≡ true → b < 128
escaped_below b e = grind (arith, nat_tests)

pub hex_digit_same : (c d : ℕ) → c < 16 → d < 16 → hex_digit c ≡ hex_digit d → c ≡ d
hex_digit_same c d hc hd e = grind (arith, nat_tests)

hex_digit_graphic : (d : ℕ) → 32 ≤ hex_digit d
hex_digit_graphic d = grind (arith, nat_tests)

head_same : (a b : ℕ) (x y : List ℕ) → a ∷ x ≡ b ∷ y → (a ≡ b) × (x ≡ y)
head_same a b x y e = (cc, cc)

backslash_no_quote : (x y : List ℕ) → 92 ∷ x ≡ 34 ∷ y → ⊥
backslash_no_quote x y e = cc

pub quoted_byte-cancel : (a b : ℕ) (x y : List ℕ) → quoted_byte a ++ x ≡ quoted_byte b ++ y → (a ≡ b) × (x ≡ y)
quoted_byte-cancel a b x y e =
    elim (is_escaped-cases a) [
      | inl sa ↦ elim (is_escaped-cases b) [
        | inl sb ↦
            let h : 92 ∷ (120 ∷ (hex_digit (a / 16) ∷ (hex_digit (a % 16) ∷ x))) ≡ 92 ∷ (120 ∷ (hex_digit (b / 16) ∷ (hex_digit (b % 16) ∷ y))) = rw (quoted_byte-escaped a sa, quoted_byte-escaped b sb) at e in
            let h1 : hex_digit (a / 16) ≡ hex_digit (b / 16) = cc in
            let h2 : hex_digit (a % 16) ≡ hex_digit (b % 16) = cc in
            let la = escaped_below a sa in
            let lb = escaped_below b sb in
            let q = hex_digit_same (a / 16) (b / 16) (omega arith) (omega arith) h1 in
            let r = hex_digit_same (a % 16) (b % 16) (omega arith) (omega arith) h2 in
            (omega (arith, q, r), cc)
        | inr pb ↦
            let h : 92 ∷ (120 ∷ (hex_digit (a / 16) ∷ (hex_digit (a % 16) ∷ x))) ≡ b ∷ y = rw (quoted_byte-escaped a sa, quoted_byte-plain b pb) at e in
            absurd ((plain_apart b pb).0 (sym (head_same _ _ _ _ h).0))
      ]
      | inr pa ↦ elim (is_escaped-cases b) [
        | inl sb ↦
            let h : a ∷ x ≡ 92 ∷ (120 ∷ (hex_digit (b / 16) ∷ (hex_digit (b % 16) ∷ y))) = rw (quoted_byte-plain a pa, quoted_byte-escaped b sb) at e in
            absurd ((plain_apart a pa).0 (head_same _ _ _ _ h).0)
        | inr pb ↦ let h : a ∷ x ≡ b ∷ y = rw (quoted_byte-plain a pa, quoted_byte-plain b pb) at e in head_same a b x y h
      ]
    ]

-- what stands for a byte does not begin with a `"`
pub quoted_byte-no_quote : (a : ℕ) (x y : List ℕ) → quoted_byte a ++ x ≡ 34 ∷ y → ⊥
quoted_byte-no_quote a x y e =
    elim (is_escaped-cases a) [
      | inl sa ↦ let h : 92 ∷ (120 ∷ (hex_digit (a / 16) ∷ (hex_digit (a % 16) ∷ x))) ≡ 34 ∷ y = rw (quoted_byte-escaped a sa) at e in absurd (backslash_no_quote _ _ h)
      | inr pa ↦ let h : a ∷ x ≡ 34 ∷ y = rw (quoted_byte-plain a pa) at e in absurd ((plain_apart a pa).1 (head_same _ _ _ _ h).0)
    ]

quoted_rest-apart : (a b rest more : List ℕ) → quoted_rest a ++ rest ≡ quoted_rest b ++ more → (a ≡ b) × (rest ≡ more)
quoted_rest-apart [] [] rest more e = (refl, cc)
quoted_rest-apart [] (b ∷ bs) rest more e =
    let h : quoted_byte b ++ (quoted_rest bs ++ more) ≡ 34 ∷ rest = sym (e ∙ ap (λ (l : List ℕ). l ++ more) (quoted_rest-cons b bs) ∙ append_assoc (quoted_byte b) (quoted_rest bs) more) in
    absurd (quoted_byte-no_quote b _ rest h)
quoted_rest-apart (a ∷ as') [] rest more e =
    let h : quoted_byte a ++ (quoted_rest as' ++ rest) ≡ 34 ∷ more = sym (ap (λ (l : List ℕ). l ++ rest) (quoted_rest-cons a as') ∙ append_assoc (quoted_byte a) (quoted_rest as') rest) ∙ e in
    absurd (quoted_byte-no_quote a _ more h)
quoted_rest-apart (a ∷ as') (b ∷ bs) rest more e =
    let h : quoted_byte a ++ (quoted_rest as' ++ rest) ≡ quoted_byte b ++ (quoted_rest bs ++ more) = sym (ap (λ (l : List ℕ). l ++ rest) (quoted_rest-cons a as') ∙ append_assoc (quoted_byte a) (quoted_rest as') rest) ∙ e ∙ ap (λ (l : List ℕ). l ++ more) (quoted_rest-cons b bs) ∙ append_assoc (quoted_byte b) (quoted_rest bs) more in
    let first = quoted_byte-cancel a b _ _ h in
    let others = quoted_rest-apart as' bs rest more first.1 in
    (rw (first.0, others.0) refl, others.1)

-- no quoted text begins another
pub quoted-apart : (a b rest more : List ℕ) → quoted a ++ rest ≡ quoted b ++ more → (a ≡ b) × (rest ≡ more)
quoted-apart a b rest more e =
    let h : 34 ∷ (quoted_rest a ++ rest) ≡ 34 ∷ (quoted_rest b ++ more) = rw (quoted_is a, quoted_is b) at e in
    quoted_rest-apart a b rest more (head_same _ _ _ _ h).1

-- a quoted text is that of one list of bytes
pub quoted-injective : (a b : List ℕ) → quoted a ≡ quoted b → a ≡ b
quoted-injective a b e = (quoted-apart a b [] [] (ap (λ (l : List ℕ). l ++ []) e)).0

abbrev AreGraphic : List ℕ → Type 0
AreGraphic xs = All (λ c. 32 ≤ c) xs

graphic-cons : (x : ℕ) (xs : List ℕ) → 32 ≤ x → AreGraphic xs → AreGraphic (x ∷ xs)
graphic-cons x xs h t = All-cons (λ c. 32 ≤ c) x xs h t

quoted_byte-graphic : (b : ℕ) → AreGraphic (quoted_byte b)
quoted_byte-graphic b =
    elim (is_escaped-cases b) [
      | inl e ↦
          let none : AreGraphic [] = All-nil (λ c. 32 ≤ c) in
          let low = graphic-cons (hex_digit (b % 16)) [] (hex_digit_graphic (b % 16)) none in
          let digits = graphic-cons (hex_digit (b / 16)) (hex_digit (b % 16) ∷ []) (hex_digit_graphic (b / 16)) low in
          let marked = graphic-cons 120 (hex_digit (b / 16) ∷ (hex_digit (b % 16) ∷ [])) (omega arith) digits in
          rw (quoted_byte-escaped b e) (graphic-cons 92 (120 ∷ (hex_digit (b / 16) ∷ (hex_digit (b % 16) ∷ []))) (omega arith) marked)
      | inr e ↦ rw (quoted_byte-plain b e) (graphic-cons b [] (plain_apart b e).2 (All-nil (λ c. 32 ≤ c)))
    ]

quoted_rest-graphic : (bytes : List ℕ) → AreGraphic (quoted_rest bytes)
quoted_rest-graphic [] = All-cons (λ c. 32 ≤ c) 34 [] (omega arith) (All-nil (λ c. 32 ≤ c))
quoted_rest-graphic (b ∷ bytes) =
    rw (quoted_rest-cons b bytes) (All-append (λ c. 32 ≤ c) (quoted_byte b) (quoted_rest bytes) (quoted_byte-graphic b) (quoted_rest-graphic bytes))

-- a quoted text has no byte below 32, and so no newline
pub quoted-graphic : (bytes : List ℕ) → All (λ c. 32 ≤ c) (quoted bytes)
quoted-graphic bytes = rw (quoted_is bytes) (All-cons (λ c. 32 ≤ c) 34 (quoted_rest bytes) (omega arith) (quoted_rest-graphic bytes))

pub length-quoted_byte : (b : ℕ) → (1 ≤ length (quoted_byte b)) × (length (quoted_byte b) ≤ 4)
length-quoted_byte b =
    elim (is_escaped-cases b) [
      | inl e ↦ rw (quoted_byte-escaped b e) (omega arith, omega arith)
      | inr e ↦ rw (quoted_byte-plain b e) (omega arith, omega arith)
    ]

length-quoted_rest : (bytes : List ℕ) → (length bytes + 1 ≤ length (quoted_rest bytes)) × (length (quoted_rest bytes) ≤ 4 * length bytes + 1)
length-quoted_rest [] = (omega arith, omega arith)
length-quoted_rest (b ∷ bytes) =
    let first = length-quoted_byte b in
    let others = length-quoted_rest bytes in
    let size : length (quoted_rest (b ∷ bytes)) ≡ length (quoted_byte b) + length (quoted_rest bytes) = ap length (quoted_rest-cons b bytes) ∙ length-append (quoted_byte b) (quoted_rest bytes) in
    (omega arith, omega arith)

-- each byte takes from one to four
pub length-quoted : (bytes : List ℕ) → (length bytes + 2 ≤ length (quoted bytes)) × (length (quoted bytes) ≤ 4 * length bytes + 2)
length-quoted bytes = let rest = length-quoted_rest bytes in rw (quoted_is bytes) (omega arith, omega arith)
