-- Which texts a pattern matches, by cuts of the text. A text is the list of its characters, and 47 is `/`.
use Rattle.std.specs.Prelude.{◌≡◌, ◌⊎◌, ◌==◌, ◌&&◌, ◌++◌, ⊤, ℕ, Bool, false, not, nat_le, IsTrue, List, [], ◌∷◌, All}
use Rattle.std.specs.List.{list_any}
use mathlib.Core.Bool.{beq}
use Rattle.bisync_glob.specs.declared.classes.Item.{Item}
use Rattle.bisync_glob.specs.declared.classes.Item.TheVariants.{Single, Range}
use Rattle.bisync_glob.specs.declared.parts.Simple.{Simple}
use Rattle.bisync_glob.specs.declared.parts.Simple.TheVariants.{Literal, AnyChar, Class, Star, Stars}
use Rattle.bisync_glob.specs.declared.parts.Part.{Part}
use Rattle.bisync_glob.specs.declared.parts.Part.TheVariants.{Plain, Choice}
use Rattle.bisync_glob.specs.CharSet.{CharSet}

-- whether an item of a class names a character
abbrev pub item_names : Item → ℕ → Bool
item_names (Single single) c = c == single
item_names (Range low high) c = nat_le low c && nat_le c high

-- whether a class matches a character: one that an item names, or where it is negated, one that no item names; never `/`
abbrev pub class_takes : CharSet → ℕ → Bool
class_takes class c = not (c == 47) && not (beq (list_any (λ item. item_names item c) class.items) class.negated)

abbrev pub MatchesSimple : Simple → List ℕ → Type 0
MatchesSimple (Literal d) text = text ≡ d ∷ []
MatchesSimple AnyChar text = (c : ℕ) × (text ≡ c ∷ []) × IsTrue (not (c == 47))
MatchesSimple (Class class) text = (c : ℕ) × (text ≡ c ∷ []) × IsTrue (class_takes class c)
MatchesSimple Star text = All (λ c. IsTrue (not (c == 47))) text
MatchesSimple Stars text = ⊤

-- the text is a front that First holds of, and a back that Rest holds of
abbrev pub Cut : (List ℕ → Type 0) → (List ℕ → Type 0) → List ℕ → Type 0
Cut First Rest text = (front : List ℕ) × (back : List ℕ) × (text ≡ front ++ back) × First front × Rest back

-- a sequence of parts without braces, which may be empty
abbrev pub MatchesAlternative : List Simple → List ℕ → Type 0
MatchesAlternative [] text = text ≡ []
MatchesAlternative (part ∷ rest) text = Cut (MatchesSimple part) (MatchesAlternative rest) text

-- one of the alternatives
abbrev pub MatchesAny : List (List Simple) → List ℕ → Type 0
MatchesAny [] text = ⊥
MatchesAny (alternative ∷ others) text = MatchesAlternative alternative text ⊎ MatchesAny others text

abbrev pub MatchesPart : Part → List ℕ → Type 0
MatchesPart (Plain simple) text = MatchesSimple simple text
MatchesPart (Choice alternatives) text = MatchesAny alternatives text

-- a sequence of parts: none matches the empty text; a part and a rest match a front, which the part matches, and a back, which the rest matches
abbrev pub MatchesWhole : List Part → List ℕ → Type 0
MatchesWhole [] text = text ≡ []
MatchesWhole (part ∷ rest) text = Cut (MatchesPart part) (MatchesWhole rest) text

-- what follows some `/` of the text
abbrev pub MatchesAfterSlash : List Part → List ℕ → Type 0
MatchesAfterSlash parts text = (front : List ℕ) × (back : List ℕ) × (text ≡ front ++ 47 ∷ back) × MatchesWhole parts back

-- what a pattern is read as
pub record Glob : Type 0 where
  pub anchored : Bool
  pub parts : List Part

-- the whole text, or where the pattern is not anchored, the whole of what follows some `/`
abbrev pub Matches : Glob → List ℕ → Type 0
Matches glob text = MatchesWhole glob.parts text ⊎ ((glob.anchored ≡ false) × MatchesAfterSlash glob.parts text)
