-- What the readers find at the front of a text. Internal: the public contracts cite Spelling and Tokens.
use Rattle.std.specs.Prelude.{◌≡◌, ◌<◌, ◌||◌, Bool, true, false, [], ◌∷◌, ◌≤◌, ◌++◌, ℕ, List, length, take, drop}
use Rattle.bisync_glob.specs.declared.classes.Item.{Item}
use Rattle.bisync_glob.specs.CharSet.{CharSet}
use Rattle.bisync_glob.specs.declared.tokens.Token.{Token}
use Rattle.bisync_glob.specs.Tokens.{SpellsPiece}
use Rattle.bisync_glob.specs.Spelling.{SpellsChar, SpellsItem, SpellsClass, begins}

pub record CharRead (c n : ℕ) (text : List ℕ) : Type 0 where
  pub some : 0 < n
  pub fits : n ≤ length text
  pub spelled : SpellsChar c (take n text) (drop n text)

abbrev pub NoChar : List ℕ → Type 0
NoChar text = (c : ℕ) (front back : List ℕ) → text ≡ front ++ back → SpellsChar c front back → ⊥

pub record ItemRead (item : Item) (n : ℕ) (text : List ℕ) : Type 0 where
  pub some : 0 < n
  pub fits : n ≤ length text
  pub spelled : SpellsItem item (take n text) (drop n text)

abbrev pub NoItem : List ℕ → Type 0
NoItem text = (item : Item) (front back : List ℕ) → text ≡ front ++ back → SpellsItem item front back → ⊥

-- items at the front of a text, where rest follows
abbrev pub ReadsItems : List Item → List ℕ → List ℕ → Type 0
ReadsItems [] text rest = text ≡ rest
ReadsItems (item ∷ more) text rest = (front : List ℕ) × (back : List ℕ) × (text ≡ front ++ back) × SpellsItem item front back × ReadsItems more back rest

pub record ItemsRead (items : List Item) (n : ℕ) (text : List ℕ) : Type 0 where
  pub fits : n ≤ length text
  pub spelled : ReadsItems items text (drop n text)
  pub ended : NoItem (drop n text)

abbrev pub no_items : List Item → Bool
no_items [] = true
no_items (item ∷ items) = false

abbrev pub has_mark : List ℕ → Bool
has_mark text = begins 33 text || begins 94 text

pub record ClassRead (class : CharSet) (n : ℕ) (text : List ℕ) : Type 0 where
  pub some : 0 < n
  pub fits : n ≤ length text
  pub spelled : SpellsClass class (take n text)

-- a token at the front of a text
pub record TokenRead (token : Token) (text : List ℕ) : Type 0 where
  pub some : 0 < token.len
  pub fits : token.len ≤ length text
  pub spelled : SpellsPiece token.piece (take token.len text) (drop token.len text)
