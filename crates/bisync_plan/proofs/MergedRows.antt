-- Rows that are merged: their order, and the entry of each path.
use Rattle.std.proofs.Common.{◌≡◌, Bool, true, false, cond, [], ◌∷◌, ◌++◌, append_assoc, Option, Some, None, refl, sym, ◌∙◌, ap, subst}
use Rattle.std.specs.Prelude.{bytes_eq}
use Rattle.std.specs.Ordering.{is_lt}
use Rattle.std.specs.declared.cmp.Ordering.{Ordering}
use Rattle.std.specs.declared.cmp.Ordering.TheVariants.{Less, Equal, Greater}
use Rattle.bisync_tree.specs.Rows.{PathBytes, Rows, keys, look, AreAbove, AreRising, IsAboveLast}
use Rattle.bisync_tree.specs.declared.entries.Entry.{Entry}
use Rattle.bisync_tree.proofs.PathOrder.{order, path_is_itself, order_same, order_back}
use Rattle.bisync_tree.proofs.RisingLemmas.{above_trans}
use Rattle.bisync_plan.specs.CellRows.{either}
use Rattle.bisync_plan.proofs.RowsOfCells.{above_from}
use Rattle.bisync_plan.specs.MergedRows.{begins_before, rows_before, rows_from, merged}

pub either_assoc : (a b c : Option Entry) → either a (either b c) ≡ either (either a b) c
either_assoc None b c = refl
either_assoc (Some e) b c = refl

pub either_none : (a : Option Entry) → either a None ≡ a
either_none None = refl
either_none (Some e) = refl

none_first : (a b : Option Entry) → either a b ≡ None → a ≡ None
none_first None b h = refl
none_first (Some e) b h = cc

none_second : (a b : Option Entry) → either a b ≡ None → b ≡ None
none_second None b h = h
none_second (Some e) b h = cc

pub look_append : (xs ys : Rows) (q : PathBytes) → look (xs ++ ys) q ≡ either (look xs q) (look ys q)
look_append [] ys q = refl
look_append (x ∷ xs) ys q = go (bytes_eq x.0 q) (look_append xs ys q)
  where
    go : (b : Bool) → look (xs ++ ys) q ≡ either (look xs q) (look ys q)
        → cond b (Some x.1) (look (xs ++ ys) q) ≡ either (cond b (Some x.1) (look xs q)) (look ys q)
    go true rest = refl
    go false rest = rest

pub less_of : (o : Ordering) → is_lt o ≡ true → o ≡ Less
less_of Less h = refl
less_of Equal h = cc
less_of Greater h = cc

-- no path has a row in both
abbrev pub ArePart : Rows → Rows → Type 0
ArePart named rows = (p : PathBytes) (e : Entry) → look rows p ≡ Some e → look named p ≡ None

parted : (p : PathBytes) (rows : Rows) → rows ≡ rows_before p rows ++ rows_from p rows
parted p [] = refl
parted p (r ∷ rs) = go (is_lt (order r.0 p)) (parted p rs)
  where
    go : (b : Bool) → rs ≡ rows_before p rs ++ rows_from p rs → r ∷ rs ≡ cond b (r ∷ rows_before p rs) [] ++ cond b (rows_from p rs) (r ∷ rs)
    go true rest = ap (λ l. r ∷ l) rest
    go false rest = refl

look_parts : (p : PathBytes) (rows : Rows) (q : PathBytes) → look rows q ≡ either (look (rows_before p rows) q) (look (rows_from p rows) q)
look_parts p rows q = ap (λ l. look l q) (parted p rows) ∙ look_append (rows_before p rows) (rows_from p rows) q

above_rows_from : (q p : PathBytes) (rows : Rows) → AreAbove q (keys rows) → AreAbove q (keys (rows_from p rows))
above_rows_from q p [] h = tt
above_rows_from q p (r ∷ rs) h = go (is_lt (order r.0 p)) (above_rows_from q p rs h.1)
  where
    go : (b : Bool) → AreAbove q (keys (rows_from p rs)) → AreAbove q (keys (cond b (rows_from p rs) (r ∷ rs)))
    go true rest = rest
    go false rest = h

rising_rows_from : (p : PathBytes) (rows : Rows) → AreRising (keys rows) → AreRising (keys (rows_from p rows))
rising_rows_from p [] h = tt
rising_rows_from p (r ∷ rs) h = go (is_lt (order r.0 p)) (rising_rows_from p rs h.1)
  where
    go : (b : Bool) → AreRising (keys (rows_from p rs)) → AreRising (keys (cond b (rows_from p rs) (r ∷ rs)))
    go true rest = rest
    go false rest = h

not_both : {x : Entry} {v : Option Entry} → v ≡ Some x → v ≡ None → ⊥
not_both e f = let h = sym e ∙ f in cc

-- the rows from a path on that has no row come after it
from_are_above : (p : PathBytes) (rows : Rows) → AreRising (keys rows) → look rows p ≡ None → AreAbove p (keys (rows_from p rows))
from_are_above p [] h none = tt
from_are_above p (r ∷ rs) h none = go (order r.0 p) refl (λ n. from_are_above p rs h.1 n)
  where
    later : bytes_eq r.0 p ≡ false → look rs p ≡ None
    later e = ap (λ b. cond b (Some r.1) (look rs p)) (sym e) ∙ none

    unequal : (b : Bool) → bytes_eq r.0 p ≡ b → b ≡ false
    unequal false e = refl
    unequal true e = absurd (not_both (ap (λ b. cond b (Some r.1) (look rs p)) e) none)

    go : (o : Ordering) → order r.0 p ≡ o → (look rs p ≡ None → AreAbove p (keys (rows_from p rs))) → AreAbove p (keys (cond (is_lt o) (rows_from p rs) (r ∷ rs)))
    go Less e rest = rest (later (unequal (bytes_eq r.0 p) refl))
    go Equal e rest =
        let is : bytes_eq r.0 p ≡ true = subst (λ n. bytes_eq r.0 n ≡ true) (order_same r.0 p e) (path_is_itself r.0) in
        absurd (not_both (ap (λ b. cond b (Some r.1) (look rs p)) is) none)
    go Greater e rest = let back = order_back r.0 p e in (back, above_trans p r.0 (keys rs) back h.0)

above_joined : (q p : PathBytes) (e : Entry) (named rest : Rows) → AreAbove q (keys named) → order q p ≡ Less → AreAbove q (keys rest)
    → AreAbove q (keys (rows_before p named ++ (p, e) ∷ rest))
above_joined q p e [] rest h less above = (less, above)
above_joined q p e (r ∷ rs) rest h less above = go (is_lt (order r.0 p)) (above_joined q p e rs rest h.1 less above)
  where
    go : (b : Bool) → AreAbove q (keys (rows_before p rs ++ (p, e) ∷ rest)) → AreAbove q (keys (cond b (r ∷ rows_before p rs) [] ++ (p, e) ∷ rest))
    go true more = (h.0, more)
    go false more = (less, above)

rising_joined : (p : PathBytes) (e : Entry) (named rest : Rows) → AreRising (keys named) → AreAbove p (keys rest) → AreRising (keys rest)
    → AreRising (keys (rows_before p named ++ (p, e) ∷ rest))
rising_joined p e [] rest h above rising = (above, rising)
rising_joined p e (r ∷ rs) rest h above rising = go (is_lt (order r.0 p)) refl (rising_joined p e rs rest h.1 above rising)
  where
    go : (b : Bool) → is_lt (order r.0 p) ≡ b → AreRising (keys (rows_before p rs ++ (p, e) ∷ rest)) → AreRising (keys (cond b (r ∷ rows_before p rs) [] ++ (p, e) ∷ rest))
    go true less more =
        let lt = less_of (order r.0 p) less in
        (above_joined r.0 p e rs rest h.0 lt (above_trans r.0 p (keys rest) lt above), more)
    go false less more = (above, rising)

above_merged : (q : PathBytes) (named rows : Rows) → AreAbove q (keys named) → AreAbove q (keys rows) → AreAbove q (keys (merged named rows))
above_merged q named [] h k = h
above_merged q named (r ∷ rs) h k =
    above_joined q r.0 r.1 named (merged (rows_from r.0 named) rs) h k.0
    (above_merged q (rows_from r.0 named) rs (above_rows_from q r.0 named h) k.1)

-- what has no row in all has none in the later rows
later_part : (named : Rows) (r : PathBytes × Entry) (rs : Rows) → ArePart named (r ∷ rs) → ArePart (rows_from r.0 named) rs
later_part named r rs part p e h = none_second (look (rows_before r.0 named) p) (look (rows_from r.0 named) p) (sym (look_parts r.0 named p) ∙ go (bytes_eq r.0 p) refl)
  where
    go : (b : Bool) → bytes_eq r.0 p ≡ b → look named p ≡ None
    go true is = part p r.1 (ap (λ b. cond b (Some r.1) (look rs p)) is)
    go false is = part p e (ap (λ b. cond b (Some r.1) (look rs p)) is ∙ h)

pub merged_rising : (named rows : Rows) → AreRising (keys named) → AreRising (keys rows) → ArePart named rows → AreRising (keys (merged named rows))
merged_rising named [] h k part = h
merged_rising named (r ∷ rs) h k part =
    rising_joined r.0 r.1 named (merged (rows_from r.0 named) rs) h
    (above_merged r.0 (rows_from r.0 named) rs (from_are_above r.0 named h (part r.0 r.1 (ap (λ b. cond b (Some r.1) (look rs r.0)) (path_is_itself r.0)))) k.0)
    (merged_rising (rows_from r.0 named) rs (rising_rows_from r.0 named h) k.1 (later_part named r rs part))

pub look_merged : (named rows : Rows) → ArePart named rows → (p : PathBytes) → look (merged named rows) p ≡ either (look rows p) (look named p)
look_merged named [] part p = refl
look_merged named (r ∷ rs) part p =
    look_append (rows_before r.0 named) (r ∷ merged (rows_from r.0 named) rs) p
    ∙ go (bytes_eq r.0 p) (look rs p) refl refl (look_merged (rows_from r.0 named) rs (later_part named r rs part) p)
  where
    all : either (look (rows_before r.0 named) p) (look (rows_from r.0 named) p) ≡ look named p
    all = sym (look_parts r.0 named p)

    before_none : look named p ≡ None → look (rows_before r.0 named) p ≡ None
    before_none n = none_first (look (rows_before r.0 named) p) (look (rows_from r.0 named) p) (all ∙ n)

    from_none : look named p ≡ None → look (rows_from r.0 named) p ≡ None
    from_none n = none_second (look (rows_before r.0 named) p) (look (rows_from r.0 named) p) (all ∙ n)

    go : (b : Bool) (v : Option Entry) → bytes_eq r.0 p ≡ b → look rs p ≡ v
        → look (merged (rows_from r.0 named) rs) p ≡ either v (look (rows_from r.0 named) p)
        → either (look (rows_before r.0 named) p) (cond b (Some r.1) (look (merged (rows_from r.0 named) rs) p)) ≡ either (cond b (Some r.1) v) (look named p)
    go true v is e rest =
        ap (λ x. either x (Some r.1)) (before_none (part p r.1 (ap (λ b. cond b (Some r.1) (look rs p)) is)))
    go false None is e rest = ap (either (look (rows_before r.0 named) p)) rest ∙ all
    go false (Some x) is e rest =
        let none : look named p ≡ None = part p x (ap (λ b. cond b (Some r.1) (look rs p)) is ∙ e) in
        λ i. either (before_none none i) (rest i)

-- what a loop that moves rows knows of the row that it adds
pub above_popped : (before rows rest whole : Rows) (p first : PathBytes) (e : Entry) → AreRising (keys whole)
    → before ++ rows_before p rows ≡ whole → rows ≡ (first, e) ∷ rest → begins_before p rows ≡ true → IsAboveLast (keys before) first
above_popped before rows rest whole p first e rising all is begins =
    above_from before (rows_before p rest) first e (subst (λ l. AreRising (keys l)) (sym all ∙ ap (λ l. before ++ l) split) rising)
  where
    less : is_lt (order first p) ≡ true
    less = sym (ap (begins_before p) is) ∙ begins

    split : rows_before p rows ≡ (first, e) ∷ rows_before p rest
    split = ap (rows_before p) is ∙ ap (λ b. cond b ((first, e) ∷ rows_before p rest) []) less

pub above_rest_popped : (before rows rest whole : Rows) (first : PathBytes) (e : Entry) → AreRising (keys whole)
    → before ++ rows ≡ whole → rows ≡ (first, e) ∷ rest → IsAboveLast (keys before) first
above_rest_popped before rows rest whole first e rising all is =
    above_from before rest first e (subst (λ l. AreRising (keys l)) (sym all ∙ ap (λ l. before ++ l) is) rising)

above_front : (q : PathBytes) (xs ys : Rows) → AreAbove q (keys (xs ++ ys)) → AreAbove q (keys xs)
above_front q [] ys h = tt
above_front q (x ∷ xs) ys h = (h.0, above_front q xs ys h.1)

rising_front : (xs ys : Rows) → AreRising (keys (xs ++ ys)) → AreRising (keys xs)
rising_front [] ys h = tt
rising_front (x ∷ xs) ys h = (above_front x.0 xs ys h.0, rising_front xs ys h.1)

module _ (listing named rows rest whole : Rows) (p : PathBytes) (e : Entry) (rising : AreRising (keys whole)) (all : listing ++ merged named rows ≡ whole) (is : rows ≡ (p, e) ∷ rest) where
  split : whole ≡ (listing ++ rows_before p named) ++ (p, e) ∷ merged (rows_from p named) rest
  split =
      sym all ∙ ap (λ rs. listing ++ merged named rs) is
      ∙ sym (append_assoc listing (rows_before p named) ((p, e) ∷ merged (rows_from p named) rest))

  rises : AreRising (keys ((listing ++ rows_before p named) ++ (p, e) ∷ merged (rows_from p named) rest))
  rises = subst (λ l. AreRising (keys l)) split rising

  pub front_rises : AreRising (keys (listing ++ rows_before p named))
  front_rises = rising_front (listing ++ rows_before p named) ((p, e) ∷ merged (rows_from p named) rest) rises

  pub row_is_above : IsAboveLast (keys (listing ++ rows_before p named)) p
  row_is_above = above_from (listing ++ rows_before p named) (merged (rows_from p named) rest) p e rises
