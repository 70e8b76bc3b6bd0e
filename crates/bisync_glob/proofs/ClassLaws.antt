-- What begins a text spells one character of an item, one item and one class.
use Rattle.std.proofs.Common.{◌≡◌, ◌≢◌, ◌⊎◌, ◌<◌, ◌≤◌, ◌++◌, ◌+◌, ℕ, Bool, true, false, List, [], ◌∷◌, length, get_or, take, drop, refl, sym, ◌∙◌, ap, subst, arith, inl, inr, append_assoc, add-one, ◌||◌, ◌-◌, if◌then◌else◌, ◌==◌, length-append}
use Rattle.std.proofs.Math.Seq.{drop-cons, take-append_seam}
use Rattle.std.proofs.lemmas.List.{drop_at, take-append-drop, length-drop, length-take, drop-drop}
use Rattle.std.proofs.lemmas.Bool.Decides.{Decides-eqb}
use Rattle.bisync_glob.specs.declared.classes.Item.{Item}
use Rattle.bisync_glob.specs.declared.classes.Item.TheVariants.{Single, Range}
use Rattle.bisync_glob.specs.CharSet.{CharSet}
use Rattle.bisync_glob.specs.Spelling.{SpellsChar, SpellsItem, SpellsItems, SpellsMark, SpellsClass, NoClass, begins}
use Rattle.bisync_glob.specs.Reading.{CharRead, NoChar, ItemRead, NoItem, ReadsItems, ItemsRead, ClassRead, has_mark}

pub char_one : (c d : ℕ) (f b g h : List ℕ) → f ++ b ≡ g ++ h → SpellsChar c f b → SpellsChar d g h → (c ≡ d) × (f ≡ g) × (b ≡ h)
char_one c d f b g h e (inl (p, c92, c45, c93, c91)) (inl (q, d92, d45, d93, d91)) =
    let k : c ∷ b ≡ d ∷ h = rw q at (rw p at e) in
    let same : c ≡ d = cc in
    (same, p ∙ ap (λ x. x ∷ []) same ∙ sym q, cc)
char_one c d f b g h e (inl (p, c92, c45, c93, c91)) (inr (q, s)) =
    let k : c ∷ b ≡ 92 ∷ (d ∷ h) = rw q at (rw p at e) in
    absurd (c92 (cc))
char_one c d f b g h e (inr (p, s)) (inl (q, d92, d45, d93, d91)) =
    let k : 92 ∷ (c ∷ b) ≡ d ∷ h = rw q at (rw p at e) in
    let same : d ≡ 92 = cc in
    absurd (d92 same)
char_one c d f b g h e (inr (p, s)) (inr (q, t)) =
    let k : 92 ∷ (c ∷ b) ≡ 92 ∷ (d ∷ h) = rw q at (rw p at e) in
    let same : c ≡ d = cc in
    (same, p ∙ ap (λ x. 92 ∷ (x ∷ [])) same ∙ sym q, cc)

not_same : (a b x : ℕ) → (a == b) ≡ false → x ≡ a → x ≡ b → ⊥
not_same a b x h p q = let same : a ≡ b = sym p ∙ q in absurd (let k : true ≡ false = sym ((Decides-eqb a b).1 same) ∙ h in cc)

-- an item's character begins with none of these
pub not_begins : (c x : ℕ) (f b : List ℕ) (rest : List ℕ) → (x ≡ 45) ⊎ (x ≡ 93) → x ∷ rest ≡ f ++ b → SpellsChar c f b → ⊥
not_begins c x f b rest is e (inl (p, c92, c45, c93, c91)) =
    let k : x ∷ rest ≡ c ∷ b = rw p at e in
    let same : c ≡ x = cc in
    elim is [ inl h ↦ c45 (same ∙ h) | inr h ↦ c93 (same ∙ h) ]
not_begins c x f b rest is e (inr (p, s)) =
    let k : x ∷ rest ≡ 92 ∷ (c ∷ b) = rw p at e in
    let same : x ≡ 92 = cc in
    elim is [ inl h ↦ not_same 92 45 x refl same h | inr h ↦ not_same 92 93 x refl same h ]

begins_open : (x : ℕ) (xs : List ℕ) → begins x xs ≡ true → (ys : List ℕ) × (xs ≡ x ∷ ys)
begins_open x [] h = absurd (cc)
begins_open x (d ∷ ys) h = (ys, ap (λ a. a ∷ ys) ((Decides-eqb d x).0 h))

drop_next : (text : List ℕ) (n x : ℕ) (ys : List ℕ) → drop n text ≡ x ∷ ys → drop (n + 1) text ≡ ys
drop_next text n x ys e =
    let some : 0 < length (drop n text) = rw e (let k : 0 < length ys + 1 = omega arith in rw add-one at k) in
    let below : n < length text = omega (arith, length-drop n text) in
    let opened : drop n text ≡ get_or text n 0 ∷ drop (n + 1) text = drop-cons text n 0 below ∙ rw (add-one n) refl in
    cc

begins_next : (text : List ℕ) (n x : ℕ) → begins x (drop n text) ≡ true → drop n text ≡ x ∷ drop (n + 1) text
begins_next text n x h = let (ys, e) = begins_open x (drop n text) h in e ∙ ap (λ r. x ∷ r) (sym (drop_next text n x ys e))

-- what follows tells only whether it begins with `:`
char_after : (c : ℕ) (f a b : List ℕ) → begins 58 a ≡ begins 58 b → SpellsChar c f a → SpellsChar c f b
char_after c f a b same (inl (p, c92, c45, c93, c91)) = inl (p, c92, c45, c93, λ h. sym same ∙ c91 h)
char_after c f a b same (inr h) = inr h

pub take_at : (f b : List ℕ) (n : ℕ) → length f ≡ n → take n (f ++ b) ≡ f
take_at f b n e = rw (← e) (take-append_seam f b)

length_front : (n : ℕ) (xs : List ℕ) → n ≤ length xs → length (take n xs) ≡ n
length_front n xs h = grind (arith, length-take n xs)

pub item_read : (item : Item) (f b text : List ℕ) (n : ℕ) → text ≡ f ++ b → length f ≡ n → 0 < n → SpellsItem item f b → ItemRead item n text
item_read item f b text n e len some is = record {
  some = some;
  fits = omega (arith, ap length e, length-append f b);
  spelled =
      let front : take n text ≡ f = rw e (take_at f b n len) in
      let back : drop n text ≡ b = rw e (drop_at f b n len) in
      rw front (rw back is);
}

pub single_read : (low n : ℕ) (text : List ℕ) → CharRead low n text → begins 45 (drop n text) ≡ false → ItemRead (Single low) n text
single_read low n text r h = record { some = r.some; fits = r.fits; spelled = (r.spelled, h) }

pub range_read : (low n high m : ℕ) (text : List ℕ) → CharRead low n text → begins 45 (drop n text) ≡ true → CharRead high m (drop (n + 1) text) → low ≤ high → ItemRead (Range low high) (n + 1 + m) text
range_read low n high m text r h s order =
    let opened : drop n text ≡ 45 ∷ drop (n + 1) text = begins_next text n 45 h in
    let rest : drop (n + 1) text ≡ take m (drop (n + 1) text) ++ drop m (drop (n + 1) text) = sym (take-append-drop m (drop (n + 1) text)) in
    let whole : text ≡ take n text ++ (45 ∷ (take m (drop (n + 1) text) ++ drop m (drop (n + 1) text))) = sym (take-append-drop n text) ∙ ap (λ r. take n text ++ r) (opened ∙ ap (λ r. 45 ∷ r) rest) in
    let low_is : SpellsChar low (take n text) (45 ∷ take m (drop (n + 1) text)) = char_after low (take n text) (drop n text) (45 ∷ take m (drop (n + 1) text)) (rw opened refl) r.spelled in
    let first_len : length (take n text) ≡ n = length_front n text r.fits in
    let second_len : length (take m (drop (n + 1) text)) ≡ m = length_front m (drop (n + 1) text) s.fits in
    let len : length (take n text ++ (45 ∷ take m (drop (n + 1) text))) ≡ n + 1 + m = grind (arith, length-append (take n text) (45 ∷ take m (drop (n + 1) text)), first_len, second_len) in
    item_read (Range low high) (take n text ++ (45 ∷ take m (drop (n + 1) text))) (drop m (drop (n + 1) text)) text (n + 1 + m) (whole ∙ sym (append_assoc (take n text) (45 ∷ take m (drop (n + 1) text)) (drop m (drop (n + 1) text)))) len (omega arith)
    (take n text, take m (drop (n + 1) text), refl, low_is, s.spelled, order)

pub no_item_from_char : (text : List ℕ) → NoChar text → NoItem text
no_item_from_char text none (Single c) f b e (is, h) = none c f b e is
no_item_from_char text none (Range low high) f b e (first, second, g, is, js, order) =
    none low first (45 ∷ (second ++ b)) (e ∙ rw g (append_assoc first (45 ∷ second) b)) (char_after low first (45 ∷ second) (45 ∷ (second ++ b)) refl is)

-- a `-` behind the first character: the item is a range, whose second character follows
second_of : (low n : ℕ) (text : List ℕ) → CharRead low n text → begins 45 (drop n text) ≡ true → (item : Item) (f b : List ℕ) → text ≡ f ++ b → SpellsItem item f b → (high : ℕ) × (second : List ℕ) × (drop (n + 1) text ≡ second ++ b) × SpellsChar high second b × (low ≤ high)
second_of low n text r h (Single c) f b e (is, none) =
    let one : (c ≡ low) × (f ≡ take n text) × (b ≡ drop n text) = char_one c low f b (take n text) (drop n text) (sym e ∙ sym (take-append-drop n text)) is r.spelled in
    absurd (let k : false ≡ true = sym none ∙ rw one.2 h in cc)
second_of low n text r h (Range l k) f b e (first, second, g, is, js, order) =
    let whole : text ≡ first ++ (45 ∷ (second ++ b)) = e ∙ rw g (append_assoc first (45 ∷ second) b) in
    let one : (l ≡ low) × (first ≡ take n text) × (45 ∷ (second ++ b) ≡ drop n text) = char_one l low first (45 ∷ (second ++ b)) (take n text) (drop n text) (sym whole ∙ sym (take-append-drop n text)) (char_after l first (45 ∷ second) (45 ∷ (second ++ b)) refl is) r.spelled in
    (k, second, drop_next text n 45 (second ++ b) (sym one.2), js, (let o : l ≤ k = order in rw one.0 at o))

pub no_item_from_second : (low n : ℕ) (text : List ℕ) → CharRead low n text → begins 45 (drop n text) ≡ true → NoChar (drop (n + 1) text) → NoItem text
no_item_from_second low n text r h none item f b e is =
    let (high, second, g, js, order) = second_of low n text r h item f b e is in none high second b g js

pub no_item_from_order : (low n high m : ℕ) (text : List ℕ) → CharRead low n text → begins 45 (drop n text) ≡ true → CharRead high m (drop (n + 1) text) → high < low → NoItem text
no_item_from_order low n high m text r h s wrong item f b e is =
    let (k, second, g, js, order) = second_of low n text r h item f b e is in
    (let one : (k ≡ high) × (second ≡ take m (drop (n + 1) text)) × (b ≡ drop m (drop (n + 1) text)) = char_one k high second b (take m (drop (n + 1) text)) (drop m (drop (n + 1) text)) (sym g ∙ sym (take-append-drop m (drop (n + 1) text))) js s.spelled in
    let same : k ≡ high = one.0 in
    let low_k : low ≤ k = order in
    omega arith)

-- ONE ITEM

same_after_char : (l d : ℕ) (first g : List ℕ) (x y : List ℕ) → first ++ x ≡ g ++ y → SpellsChar l first x → SpellsChar d g y → x ≡ y
same_after_char l d first g x y e p q = (char_one l d first x g y e p q).2

pub item_one : (i j : Item) (f b g h : List ℕ) → f ++ b ≡ g ++ h → SpellsItem i f b → SpellsItem j g h → (i ≡ j) × (f ≡ g) × (b ≡ h)
item_one (Single c) (Single d) f b g h e (p, u) (q, v) =
    let one : (c ≡ d) × (f ≡ g) × (b ≡ h) = char_one c d f b g h e p q in
    (ap (λ x. Single x) one.0, one.1, one.2)
item_one (Single c) (Range l k) f b g h e (p, u) (first, second, r, is, js, order) =
    let whole : f ++ b ≡ first ++ (45 ∷ (second ++ h)) = e ∙ rw r (append_assoc first (45 ∷ second) h) in
    let rest : b ≡ 45 ∷ (second ++ h) = same_after_char c l f first b (45 ∷ (second ++ h)) whole p (char_after l first (45 ∷ second) (45 ∷ (second ++ h)) refl is) in
    absurd (let k : false ≡ true = sym u ∙ rw rest refl in cc)
item_one (Range l k) (Single c) f b g h e (first, second, r, is, js, order) (p, u) =
    let whole : (first ++ (45 ∷ second)) ++ b ≡ g ++ h = rw r at e in
    absurd (let whole' : first ++ (45 ∷ (second ++ b)) ≡ g ++ h = sym (append_assoc first (45 ∷ second) b) ∙ whole in
    let rest : 45 ∷ (second ++ b) ≡ h = same_after_char l c first g (45 ∷ (second ++ b)) h whole' (char_after l first (45 ∷ second) (45 ∷ (second ++ b)) refl is) p in
    let k : false ≡ true = sym u ∙ rw (← rest) refl in cc)
item_one (Range l k) (Range m n) f b g h e (first, second, r, is, js, order) (first', second', r', is', js', order') =
    let left : f ++ b ≡ first ++ (45 ∷ (second ++ b)) = rw r (append_assoc first (45 ∷ second) b) in
    let right : g ++ h ≡ first' ++ (45 ∷ (second' ++ h)) = rw r' (append_assoc first' (45 ∷ second') h) in
    let one : (l ≡ m) × (first ≡ first') × (45 ∷ (second ++ b) ≡ 45 ∷ (second' ++ h)) = char_one l m first (45 ∷ (second ++ b)) first' (45 ∷ (second' ++ h)) (sym left ∙ e ∙ right) (char_after l first (45 ∷ second) (45 ∷ (second ++ b)) refl is) (char_after m first' (45 ∷ second') (45 ∷ (second' ++ h)) refl is') in
    let tails : second ++ b ≡ second' ++ h = (let t : 45 ∷ (second ++ b) ≡ 45 ∷ (second' ++ h) = one.2 in cc) in
    let two : (k ≡ n) × (second ≡ second') × (b ≡ h) = char_one k n second b second' h tails js js' in
    let lm : l ≡ m = one.0 in
    let kn : k ≡ n = two.0 in
    let ff : first ≡ first' = one.1 in
    let ss : second ≡ second' = two.1 in
    (rw (lm, kn) refl, r ∙ rw (ff, ss) refl ∙ sym r', two.2)

-- ITEMS

pub no_item_93 : (after : List ℕ) → NoItem (93 ∷ after)
no_item_93 after (Single c) f b e (p, u) = not_begins c 93 f b after (inr refl) e p
no_item_93 after (Range l k) f b e (first, second, r, is, js, order) =
    not_begins l 93 first (45 ∷ (second ++ b)) after (inr refl) (e ∙ rw r (append_assoc first (45 ∷ second) b)) (char_after l first (45 ∷ second) (45 ∷ (second ++ b)) refl is)

-- an item whose text is at the front of what is left
pub items_more : (items : List Item) (item : Item) (more : List Item) (rest : List ℕ) (text front back left : List ℕ) → ((m : List Item) (r : List ℕ) → ReadsItems m left r → ReadsItems (items ++ m) text r) → left ≡ front ++ back → SpellsItem item front back → ReadsItems more back rest → ReadsItems ((items ++ item ∷ []) ++ more) text rest
items_more items item more rest text front back left before e is after =
    rw (append_assoc items (item ∷ []) more) (before (item ∷ more) rest (front, back, e, is, after))

item_after : (item : Item) (f a b : List ℕ) → begins 58 a ≡ begins 58 b → begins 45 a ≡ begins 45 b → SpellsItem item f a → SpellsItem item f b
item_after (Single c) f a b colon dash (p, u) = (char_after c f a b colon p, sym dash ∙ u)
item_after (Range l k) f a b colon dash (first, second, r, is, js, order) = (first, second, r, is, char_after k second a b colon js, order)

begins_before : (x : ℕ) (body after : List ℕ) → (93 == x) ≡ false → begins x (body ++ 93 ∷ after) ≡ begins x body
begins_before x [] after h = h
begins_before x (c ∷ body) after h = refl

pub items_to : (items : List Item) (body after : List ℕ) → SpellsItems items body → ReadsItems items (body ++ 93 ∷ after) (93 ∷ after)
items_to [] body after e = rw e refl
items_to (item ∷ more) body after (front, back, e, is, rest) = (
  front,
  back ++ 93 ∷ after,
  rw e (append_assoc front back (93 ∷ after)),
  item_after item front back (back ++ 93 ∷ after) (sym (begins_before 58 back after refl)) (sym (begins_before 45 back after refl)) is,
  items_to more back after rest,
)

pub items_from : (items : List Item) (text after : List ℕ) → ReadsItems items text (93 ∷ after) → (body : List ℕ) × (text ≡ body ++ 93 ∷ after) × SpellsItems items body
items_from [] text after e = ([], e, refl)
items_from (item ∷ more) text after (front, back, e, is, rest) =
    let (body, f, spelled) = items_from more back after rest in (
      front ++ body,
      e ∙ ap (λ r. front ++ r) f ∙ sym (append_assoc front body (93 ∷ after)),
      (
        front,
        body,
        refl,
        item_after item front (body ++ 93 ∷ after) body (begins_before 58 body after refl) (begins_before 45 body after refl) (rw f at is),
        spelled,
      ),
    )

cons_same : (a b : Item) (x y : List Item) → a ≡ b → x ≡ y → a ∷ x ≡ b ∷ y
cons_same a b x y p q = rw (p, q) refl

pub items_same : (items others : List Item) (text rest after : List ℕ) → ReadsItems items text rest → NoItem rest → ReadsItems others text (93 ∷ after) → (items ≡ others) × (rest ≡ 93 ∷ after)
items_same [] [] text rest after e none f = (refl, sym e ∙ f)
items_same [] (other ∷ more) text rest after e none (front, back, f, is, read) = absurd (none other front back (sym e ∙ f) is)
items_same (item ∷ more) [] text rest after (front, back, e, is, read) none f = absurd (no_item_93 after item front back (sym f ∙ e) is)
items_same (item ∷ more) (other ∷ others) text rest after (front, back, e, is, read) none (front', back', e', is', read') =
    let one : (item ≡ other) × (front ≡ front') × (back ≡ back') = item_one item other front back front' back' (sym e ∙ e') is is' in
    let rec : (more ≡ others) × (rest ≡ 93 ∷ after) = items_same more others back rest after read none (let P : List ℕ → Type 0 = λ t. ReadsItems others t (93 ∷ after) in subst P (sym one.2) read') in
    (cons_same item other more others one.0 rec.0, rec.1)

-- ONE CLASS

-- the characters behind a class's items
rest_of : (items : List Item) (n : ℕ) (text : List ℕ) → ItemsRead items n text → begins 93 (drop n text) ≡ true → (body : List ℕ) × (after : List ℕ) × (text ≡ body ++ 93 ∷ after) × (length body ≡ n) × SpellsItems items body
rest_of items n text r h =
    let (after, e) = begins_open 93 (drop n text) h in
    let P : List ℕ → Type 0 = λ t. ReadsItems items text t in
    let (body, f, spelled) = items_from items text after (subst P e r.spelled) in
    let whole : length text ≡ length body + length (93 ∷ after) = ap length f ∙ length-append body (93 ∷ after) in
    let left : length text - n ≡ length (93 ∷ after) = sym (length-drop n text) ∙ ap length e in
    let some : 0 < length (93 ∷ after) = (let k : 0 < length after + 1 = omega arith in rw add-one at k) in
    let fits : n ≤ length text = r.fits in
    (body, after, f, omega arith, spelled)

class_made : (class : CharSet) (mark body after text : List ℕ) (n : ℕ) → text ≡ 91 ∷ (mark ++ (body ++ 93 ∷ after)) → n ≡ length mark + length body + 2 → SpellsMark class.negated mark → (class.negated ≡ false → (begins 33 body ≡ false) × (begins 94 body ≡ false)) → (class.items ≢ []) → SpellsItems class.items body → ClassRead class n text
class_made class mark body after text n e len marked unmarked some spelled =
    let whole : text ≡ (((91 ∷ mark) ++ body) ++ 93 ∷ []) ++ after = e ∙ sym (append_assoc ((91 ∷ mark) ++ body) (93 ∷ []) after ∙ append_assoc (91 ∷ mark) body (93 ∷ after)) in
    let size : length (((91 ∷ mark) ++ body) ++ 93 ∷ []) ≡ n = grind (arith, length-append ((91 ∷ mark) ++ body) (93 ∷ []), length-append (91 ∷ mark) body) in
    let front : take n text ≡ ((91 ∷ mark) ++ body) ++ 93 ∷ [] = rw whole (take_at (((91 ∷ mark) ++ body) ++ 93 ∷ []) after n size) in
    record {
      some = omega arith;
      fits = omega (arith, ap length whole, length-append (((91 ∷ mark) ++ body) ++ 93 ∷ []) after);
      spelled = (mark, body, front, marked, unmarked, some, spelled);
    }

or_false_parts : (x y : Bool) → (x || y) ≡ false → (x ≡ false) × (y ≡ false)
or_false_parts true y h = absurd (cc)
or_false_parts false y h = (refl, h)

or_true_parts : (x y : Bool) → (x || y) ≡ true → (x ≡ true) ⊎ (y ≡ true)
or_true_parts true y h = inl refl
or_true_parts false y h = inr h

pub plain_class : (class : CharSet) (n : ℕ) (text : List ℕ) → class.negated ≡ false → begins 91 text ≡ true → has_mark (drop 1 text) ≡ false → (class.items ≢ []) → ItemsRead class.items n (drop 1 text) → begins 93 (drop n (drop 1 text)) ≡ true → ClassRead class (1 + n + 1) text
plain_class class n text plain begun unmarked some r close =
    let (rest, e) = begins_open 91 text begun in
    let behind : drop 1 text ≡ rest = ap (λ t. drop 1 t) e in
    let (body, after, f, len, spelled) = rest_of class.items n (drop 1 text) r close in
    let whole : text ≡ 91 ∷ (body ++ 93 ∷ after) = e ∙ ap (λ t. 91 ∷ t) (sym behind ∙ f) in
    let two : (begins 33 (drop 1 text) ≡ false) × (begins 94 (drop 1 text) ≡ false) = or_false_parts (begins 33 (drop 1 text)) (begins 94 (drop 1 text)) unmarked in
    let first : begins 33 body ≡ false = sym (begins_before 33 body after refl) ∙ sym (ap (λ t. begins 33 t) f) ∙ two.0 in
    let second : begins 94 body ≡ false = sym (begins_before 94 body after refl) ∙ sym (ap (λ t. begins 94 t) f) ∙ two.1 in
    class_made class [] body after text (1 + n + 1) whole (omega arith) (rw plain refl) (λ h. (first, second)) some spelled

pub negated_class : (class : CharSet) (n : ℕ) (text : List ℕ) → class.negated ≡ true → begins 91 text ≡ true → has_mark (drop 1 text) ≡ true → (class.items ≢ []) → ItemsRead class.items n (drop 2 text) → begins 93 (drop n (drop 2 text)) ≡ true → ClassRead class (2 + n + 1) text
negated_class class n text negated begun marked some r close =
    let (rest, e) = begins_open 91 text begun in
    let behind : drop 1 text ≡ rest = ap (λ t. drop 1 t) e in
    let (body, after, f, len, spelled) = rest_of class.items n (drop 2 text) r close in
    let (mark, is, opened) = mark_of (drop 1 text) marked in
    let second : drop 2 text ≡ drop 1 (drop 1 text) = sym (drop-drop 1 1 text) in
    let tail : drop 1 (drop 1 text) ≡ body ++ 93 ∷ after = sym second ∙ f in
    let whole : text ≡ 91 ∷ (mark ∷ (body ++ 93 ∷ after)) = e ∙ ap (λ t. 91 ∷ t) (sym behind ∙ opened ∙ ap (λ t. mark ∷ t) tail) in
    let marks : SpellsMark true (mark ∷ []) = elim is [ inl h ↦ inl (ap (λ x. x ∷ []) h) | inr h ↦ inr (ap (λ x. x ∷ []) h) ] in
    class_made class (mark ∷ []) body after text (2 + n + 1) whole (omega arith) (rw negated marks) (λ h. absurd (let k : true ≡ false = sym negated ∙ h in cc)) some spelled
  where
    mark_of : (t : List ℕ) → has_mark t ≡ true → (mark : ℕ) × ((mark ≡ 33) ⊎ (mark ≡ 94)) × (t ≡ mark ∷ drop 1 t)
    mark_of [] h = absurd (cc)
    mark_of (c ∷ t) h = elim (or_true_parts (c == 33) (c == 94) h) [ inl k ↦ (c, inl ((Decides-eqb c 33).0 k), refl) | inr k ↦ (c, inr ((Decides-eqb c 94).0 k), refl) ]

-- what a class at the front of a text tells of its marks and its items
pub class_parts : (class : CharSet) (text front back : List ℕ) → text ≡ front ++ back → SpellsClass class front → (begins 91 text ≡ true) × (class.negated ≡ has_mark (drop 1 text)) × (class.items ≢ []) × ReadsItems class.items (drop (if class.negated then 2 else 1) text) (93 ∷ back)
class_parts class text front back e (mark, body, f, marks, unmarked, some, spelled) =
    let whole : text ≡ (91 ∷ mark) ++ (body ++ 93 ∷ back) = e ∙ rw f (append_assoc ((91 ∷ mark) ++ body) (93 ∷ []) back ∙ append_assoc (91 ∷ mark) body (93 ∷ back)) in
    rw whole (by_mark class.negated mark marks unmarked)
  where
    by_mark : (negated : Bool) (mark : List ℕ) → SpellsMark negated mark → (negated ≡ false → (begins 33 body ≡ false) × (begins 94 body ≡ false)) → (begins 91 ((91 ∷ mark) ++ (body ++ 93 ∷ back)) ≡ true) × (negated ≡ has_mark (drop 1 ((91 ∷ mark) ++ (body ++ 93 ∷ back)))) × (class.items ≢ []) × ReadsItems class.items (drop (if negated then 2 else 1) ((91 ∷ mark) ++ (body ++ 93 ∷ back))) (93 ∷ back)
    by_mark true mark (inl h) none = rw h (refl, refl, some, items_to class.items body back spelled)
    by_mark true mark (inr h) none = rw h (refl, refl, some, items_to class.items body back spelled)
    by_mark false mark h none =
        let two : (begins 33 body ≡ false) × (begins 94 body ≡ false) = none refl in
        rw h (refl, rw (begins_before 33 body back refl) (rw (begins_before 94 body back refl) (rw (two.0, two.1) refl)), some, items_to class.items body back spelled)

pub class_ok : (class : CharSet) (start n : ℕ) (text : List ℕ) → class.negated ≡ has_mark (drop 1 text) → begins 91 text ≡ true → start ≡ (if class.negated then 2 else 1) → (class.items ≢ []) → ItemsRead class.items n (drop start text) → begins 93 (drop (start + n) text) ≡ true → ClassRead class (start + n + 1) text
class_ok class start n text marks begun is some r close =
    elim (either class.negated) [ inl set ↦ made_negated set | inr unset ↦ made_plain unset ]
  where
    either : (b : Bool) → (b ≡ true) ⊎ (b ≡ false)
    either true = inl refl
    either false = inr refl

    close' : begins 93 (drop n (drop start text)) ≡ true
    close' = ap (λ t. begins 93 t) (drop-drop n start text) ∙ close

    made_negated : class.negated ≡ true → ClassRead class (start + n + 1) text
    made_negated set =
        let two : start ≡ 2 = is ∙ rw set refl in
        let P : ℕ → Type 0 = λ s. ItemsRead class.items n (drop s text) in
        let C : ℕ → Type 0 = λ s. begins 93 (drop n (drop s text)) ≡ true in
        rw two (negated_class class n text set begun (sym marks ∙ set) some (subst P two r) (subst C two close'))

    made_plain : class.negated ≡ false → ClassRead class (start + n + 1) text
    made_plain unset =
        let one : start ≡ 1 = is ∙ rw unset refl in
        let P : ℕ → Type 0 = λ s. ItemsRead class.items n (drop s text) in
        let C : ℕ → Type 0 = λ s. begins 93 (drop n (drop s text)) ≡ true in
        rw one (plain_class class n text unset begun (sym marks ∙ unset) some (subst P one r) (subst C one close'))

pub class_none : (items : List Item) (negated : Bool) (start n : ℕ) (text : List ℕ) → negated ≡ has_mark (drop 1 text) → start ≡ (if negated then 2 else 1) → ItemsRead items n (drop start text) → (items ≡ []) ⊎ (begins 93 (drop (start + n) text) ≡ false) → NoClass text
class_none items negated start n text marks is r why class front back e spelled =
    let (begun, neg, some, reads) = class_parts class text front back e spelled in
    let same : class.negated ≡ negated = neg ∙ sym marks in
    let place : (if class.negated then 2 else 1) ≡ start = ap (λ b. if b then 2 else 1) same ∙ sym is in
    let P : ℕ → Type 0 = λ s. ReadsItems class.items (drop s text) (93 ∷ back) in
    let both : (items ≡ class.items) × (drop n (drop start text) ≡ 93 ∷ back) = items_same items class.items (drop start text) (drop n (drop start text)) back r.spelled r.ended (subst P place reads) in
    elim why [
      | inl empty ↦ some (sym both.0 ∙ empty)
      | inr missing ↦ (let k : begins 93 (drop (start + n) text) ≡ true = ap (λ t. begins 93 t) (sym (drop-drop n start text) ∙ both.1) in absurd (let l : true ≡ false = sym k ∙ missing in cc))
    ]
