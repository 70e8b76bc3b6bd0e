-- How characters spell a class, by cuts of the text. In each definition `after` is what follows the text.
-- Codes of characters: 33 `!`, 45 `-`, 58 `:`, 91 `[`, 92 `\`, 93 `]`, 94 `^`; 48 to 57, 65 to 90 and 97 to 122 are the ASCII letters and digits.
use Rattle.std.specs.Prelude.{◌≡◌, ◌≢◌, ◌⊎◌, ◌≤◌, ◌==◌, ◌&&◌, ◌||◌, ◌++◌, ℕ, Bool, true, false, not, nat_le, IsTrue, List, [], ◌∷◌}
use Rattle.bisync_glob.specs.declared.classes.Item.{Item}
use Rattle.bisync_glob.specs.declared.classes.Item.TheVariants.{Single, Range}
use Rattle.bisync_glob.specs.CharSet.{CharSet}

-- whether a `\` may stand before a character: it is no ASCII letter or digit
abbrev pub is_escapable : ℕ → Bool
is_escapable c = not ((nat_le 48 c && nat_le c 57) || (nat_le 65 c && nat_le c 90) || (nat_le 97 c && nat_le c 122))

abbrev pub begins : ℕ → List ℕ → Bool
begins c [] = false
begins c (d ∷ text) = d == c

-- a character of a class: itself, where it is not `\`, `-` or `]`, and no `[` before a `:`; or behind a `\`
abbrev pub SpellsChar : ℕ → List ℕ → List ℕ → Type 0
SpellsChar c text after =
    ((text ≡ c ∷ []) × (c ≢ 92) × (c ≢ 45) × (c ≢ 93) × (c ≡ 91 → begins 58 after ≡ false))
    ⊎ ((text ≡ 92 ∷ c ∷ []) × IsTrue (is_escapable c))

-- a character; or two joined by `-`, the first not above the second. A character before a `-` is no item of its own, since `-` is none.
abbrev pub SpellsItem : Item → List ℕ → List ℕ → Type 0
SpellsItem (Single c) text after = SpellsChar c text after × (begins 45 after ≡ false)
SpellsItem (Range low high) text after = (first : List ℕ) × (second : List ℕ) × (text ≡ first ++ 45 ∷ second) × SpellsChar low first (45 ∷ second) × SpellsChar high second after × (low ≤ high)

abbrev pub SpellsItems : List Item → List ℕ → Type 0
SpellsItems [] text = text ≡ []
SpellsItems (item ∷ more) text = (front : List ℕ) × (back : List ℕ) × (text ≡ front ++ back) × SpellsItem item front back × SpellsItems more back

-- `!` or `^`, where the class is negated
abbrev pub SpellsMark : Bool → List ℕ → Type 0
SpellsMark true text = (text ≡ 33 ∷ []) ⊎ (text ≡ 94 ∷ [])
SpellsMark false text = text ≡ []

-- `[`, the mark, at least one item and `]`. Without a mark the items begin with neither `!` nor `^`.
abbrev pub SpellsClass : CharSet → List ℕ → Type 0
SpellsClass class text = (mark : List ℕ) × (body : List ℕ) × (text ≡ 91 ∷ mark ++ body ++ 93 ∷ []) × SpellsMark class.negated mark × (class.negated ≡ false → (begins 33 body ≡ false) × (begins 94 body ≡ false)) × (class.items ≢ []) × SpellsItems class.items body

-- no class stands at the front of the text
abbrev pub NoClass : List ℕ → Type 0
NoClass text = (class : CharSet) (front back : List ℕ) → text ≡ front ++ back → SpellsClass class front → ⊥
