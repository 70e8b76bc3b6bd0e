-- The rows of given names: a map holds them, and each name has its own.
use Rattle.std.proofs.Common.{◌≡◌, ℕ, ◌+◌, ◌<◌, length, get_or, drop, add-one, drop-cons, Bool, true, false, cond, ◌||◌, List, [], ◌∷◌, Option, Some, None, refl, sym, ◌∙◌, ap, subst}
use Rattle.std.specs.Prelude.{bytes_eq, is_some}
use Rattle.std.specs.Cmp.Lexicographic.{nat_list_cmp_total}
use Rattle.std.specs.Cmp.{eq_by_cmp_equiv}
use Rattle.std.specs.List.{AllByRecursion}
use Rattle.std.specs.List.Sorted.{IsStrictlySortedBy}
use Rattle.std.specs.Map.{lookup, keys_of}
use Rattle.std.specs.BTreeMap.{is_at}
use Rattle.std.specs.declared.cmp.Ordering.TheVariants.{Less}
use Rattle.std.proofs.lemmas.Map.Text.{is_eq-slice_cmp}
use Rattle.bisync_tree.specs.Rows.{PathBytes, Rows, keys, look, AreAbove, AreRising}
use Rattle.bisync_tree.specs.declared.sides.Side.{Side}
use Rattle.bisync_tree.specs.declared.windows.Window.{Window}
use Rattle.bisync_tree.specs.declared.entries.Entry.{Entry}
use Rattle.bisync_tree.specs.declared.entries.Compare.{Compare}
use Rattle.bisync_tree.specs.declared.options.ConflictRule.{ConflictRule}
use Rattle.bisync_tree.specs.declared.steps.Given.{Given}
use Rattle.bisync_tree.specs.declared.views.View.{View}
use Rattle.bisync_tree.specs.declared.sides.Side.TheVariants.{One, Two}
use Rattle.bisync_tree.proofs.PathOrder.{order, same_path}
use Rattle.bisync_model.specs.Trees.{by_side}
use Rattle.bisync_model.specs.Known.{Known}
use Rattle.bisync_model.specs.Names.{is_held, AreGiven, loser_named}
use Rattle.bisync_model.specs.Finals.{carried_entry}
use Rattle.bisync_model.specs.Views.{known_of}
use Rattle.bisync_model.proofs.PlaceTests.{or_false_left, or_false_right}
use Rattle.bisync_plan.specs.CellRows.{row_of, either, carried_at, named_entry, named_look}
use Rattle.bisync_plan.proofs.MergedRows.{either_assoc, either_none}

pub turned : (p q : PathBytes) → bytes_eq p q ≡ bytes_eq q p
turned p q = sym (is_eq-slice_cmp p q) ∙ (eq_by_cmp_equiv nat_list_cmp_total).symm p q ∙ is_eq-slice_cmp q p

look_lookup : (rows : Rows) (q : PathBytes) → look rows q ≡ lookup (is_at (order q)) rows
look_lookup [] q = refl
look_lookup (r ∷ rs) q = λ i. cond ((turned r.0 q ∙ sym (is_eq-slice_cmp q r.0)) i) (Some r.1) (look_lookup rs q i)

-- the rows with one more
inserted : (old new : Rows) (k : PathBytes) (e : Entry)
    → ((q : PathBytes) → lookup (is_at (order q)) new ≡ cond (is_at (order k) q) (Some e) (lookup (is_at (order q)) old))
    → (q : PathBytes) → look new q ≡ either (look (row_of k (Some e)) q) (look old q)
inserted old new k e updates q =
    look_lookup new q ∙ updates q
    ∙ (λ i. cond (is_eq-slice_cmp k q i) (Some e) (sym (look_lookup old q) i))
    ∙ go (bytes_eq k q)
  where
    go : (b : Bool) → cond b (Some e) (look old q) ≡ either (cond b (Some e) None) (look old q)
    go true = refl
    go false = refl

-- one turn of the loop over given names
pub first_left : (gs : List Given) (n : ℕ) (g : Given) → n < length gs → g ≡ get_or gs n g → drop n gs ≡ g ∷ drop (n + 1) gs
first_left gs n g less is = (let split : drop n gs ≡ get_or gs n g ∷ drop (n + 1) gs = rw (add-one, drop-cons gs n g) in split) ∙ ap (λ x. x ∷ drop (n + 1) gs) (sym is)

pub name_added : (passes : PathBytes → Bool) (view : View) (side : Side) (w : Window) (all gs rest : List Given) (g : Given) (old new : Rows) (e : Entry) (k : PathBytes)
    → gs ≡ g ∷ rest → Some e ≡ named_entry passes view side w g → k ≡ g.name
    → ((q : PathBytes) → lookup (is_at (order q)) new ≡ cond (is_at (order k) q) (Some e) (lookup (is_at (order q)) old))
    → ((p : PathBytes) → either (named_look passes view side w gs p) (look old p) ≡ named_look passes view side w all p)
    → (p : PathBytes) → either (named_look passes view side w rest p) (look new p) ≡ named_look passes view side w all p
name_added passes view side w all gs rest g old new e k is entry name updates before p =
    ap (either (named_look passes view side w rest p)) (inserted old new k e updates p ∙ (λ i. either (look (row_of (name i) (entry i)) p) (look old p)))
    ∙ either_assoc (named_look passes view side w rest p) (look (row_of g.name (named_entry passes view side w g)) p) (look old p)
    ∙ ap (λ l. either (named_look passes view side w l p) (look old p)) (sym is) ∙ before p

pub name_passed_over : (passes : PathBytes → Bool) (view : View) (side : Side) (w : Window) (all gs rest : List Given) (g : Given) (old : Rows)
    → gs ≡ g ∷ rest → None ≡ named_entry passes view side w g
    → ((p : PathBytes) → either (named_look passes view side w gs p) (look old p) ≡ named_look passes view side w all p)
    → (p : PathBytes) → either (named_look passes view side w rest p) (look old p) ≡ named_look passes view side w all p
name_passed_over passes view side w all gs rest g old is entry before p =
    ap (λ v. either v (look old p)) (sym (either_none (named_look passes view side w rest p)))
    ∙ ap (λ v. either (either (named_look passes view side w rest p) (look (row_of g.name v) p)) (look old p)) entry
    ∙ ap (λ l. either (named_look passes view side w l p) (look old p)) (sym is) ∙ before p

above_all : (p : PathBytes) (rows : Rows) → AllByRecursion (λ q. order p q ≡ Less) (keys_of rows) → AreAbove p (keys rows)
above_all p [] h = tt
above_all p (r ∷ rs) h = (h.0, above_all p rs h.1)

-- the keys of a map rise
pub keys_rise : (rows : Rows) → IsStrictlySortedBy order (keys_of rows) → AreRising (keys rows)
unfolding IsStrictlySortedBy
keys_rise [] h = tt
keys_rise (r ∷ rs) h = (above_all r.0 rs h.0, keys_rise rs h.1)

-- a name that was given was free
or_last : (a b c d e f : Bool) → (a || (b || (c || (d || (e || f))))) ≡ false → (a || (b || (c || (d || f)))) ≡ false
or_last true b c d e f h = cc
or_last false true c d e f h = cc
or_last false false true d e f h = cc
or_last false false false true e f h = cc
or_last false false false false true f h = cc
or_last false false false false false f h = h

pub named_free : (known : Known) (taken : List PathBytes) (ls : List (PathBytes × Side)) (gs : List Given) → AreGiven known taken ls gs
    → (n : PathBytes) (g : Given) → loser_named gs n ≡ Some g → is_held known taken n ≡ false
named_free known taken [] [] h n g e = cc
named_free known taken [] (k ∷ ks) h n g e = absurd h
named_free known taken (l ∷ ls) [] h n g e = absurd h
named_free known taken (l ∷ ls) (k ∷ ks) h n g e = go (bytes_eq n k.name) refl e (λ f. named_free known (k.name ∷ taken) ls ks h.4 n g f)
  where
    go : (b : Bool) → bytes_eq n k.name ≡ b → cond b (Some k) (loser_named ks n) ≡ Some g → (loser_named ks n ≡ Some g → is_held known (k.name ∷ taken) n ≡ false) → is_held known taken n ≡ false
    go true same e rest = subst (λ m. is_held known taken m ≡ false) (sym (same_path n k.name same)) h.2.free
    go false same e rest =
        or_last (known.is_there One n) (known.is_there Two n) (is_some (known.base One n)) (is_some (known.base Two n)) (bytes_eq n k.name) _ (rest e)

not_named : (known : Known) (taken : List PathBytes) (x : PathBytes) (ls : List (PathBytes × Side)) (gs : List Given) → AreGiven known (x ∷ taken) ls gs → (n : PathBytes) → bytes_eq n x ≡ true → loser_named gs n ≡ None
not_named known taken x ls gs h n same = go (loser_named gs n) refl
  where
    go : (v : Option Given) → loser_named gs n ≡ v → v ≡ None
    go None e = refl
    go (Some g) e =
        let f : is_held known (x ∷ taken) n ≡ false = named_free known (x ∷ taken) ls gs h n g e in
        let f1 = or_false_right (known.is_there One n) _ f in
        let f2 = or_false_right (known.is_there Two n) _ f1 in
        let f3 = or_false_right (is_some (known.base One n)) _ f2 in
        let f4 = or_false_right (is_some (known.base Two n)) _ f3 in
        let f5 : bytes_eq n x ≡ false = or_false_left (bytes_eq n x) _ f4 in
        cc

look_row : (n p : PathBytes) (v : Option Entry) → bytes_eq n p ≡ true → look (row_of n v) p ≡ v
look_row n p None e = refl
look_row n p (Some x) e = ap (λ b. cond b (Some x) None) e

look_other : (n p : PathBytes) (v : Option Entry) → bytes_eq n p ≡ false → look (row_of n v) p ≡ None
look_other n p None e = refl
look_other n p (Some x) e = ap (λ b. cond b (Some x) None) e

cond_none : (b : Bool) → ◌≡◌ {A = Option Entry} None (cond b None None)
cond_none true = refl
cond_none false = refl

-- the entry of a loser's file, if there is a loser
abbrev pub named_by : Known → Option Given → Side → Option Entry
named_by known (Some g) side = carried_entry known g.side g.path side
named_by known None side = None

module _ (conflict : ConflictRule) (compare : Compare) (passes : PathBytes → Bool) (window1 window2 : Window) (view : View) (side : Side) where
  carried_is : (g : Given) → carried_at view g side (by_side window1 window2 side) ≡ carried_entry (known_of conflict compare passes window1 window2 view) g.side g.path side
  carried_is g = refl

  pub named_are : (taken : List PathBytes) (ls : List (PathBytes × Side)) (gs : List Given)
      → AreGiven (known_of conflict compare passes window1 window2 view) taken ls gs → (p : PathBytes)
      → named_look passes view side (by_side window1 window2 side) gs p ≡ cond (passes p) (named_by (known_of conflict compare passes window1 window2 view) (loser_named gs p) side) None
  named_are taken [] [] h p = cond_none (passes p)
  named_are taken [] (g ∷ gs) h p = absurd h
  named_are taken (l ∷ ls) [] h p = absurd h
  named_are taken (l ∷ ls) (g ∷ gs) h p = go (bytes_eq p g.name) refl (named_are (g.name ∷ taken) ls gs h.4 p)
    where
      go : (b : Bool) → bytes_eq p g.name ≡ b
          → named_look passes view side (by_side window1 window2 side) gs p ≡ cond (passes p) (named_by (known_of conflict compare passes window1 window2 view) (loser_named gs p) side) None
          → either (named_look passes view side (by_side window1 window2 side) gs p) (look (row_of g.name (named_entry passes view side (by_side window1 window2 side) g)) p)
          ≡ cond (passes p) (named_by (known_of conflict compare passes window1 window2 view) (cond b (Some g) (loser_named gs p)) side) None
      go true e rest =
          let none = not_named (known_of conflict compare passes window1 window2 view) taken g.name ls gs h.4 p e in
          let empty : named_look passes view side (by_side window1 window2 side) gs p ≡ None
          = rest ∙ ap (λ v. cond (passes p) (named_by (known_of conflict compare passes window1 window2 view) v side) None) none ∙ sym (cond_none (passes p)) in
          ap (λ v. either v (look (row_of g.name (named_entry passes view side (by_side window1 window2 side) g)) p)) empty
          ∙ look_row g.name p _ (turned g.name p ∙ e)
          ∙ ap (λ n. cond (passes n) (carried_at view g side (by_side window1 window2 side)) None) (sym (same_path p g.name e))
      go false e rest =
          ap (either (named_look passes view side (by_side window1 window2 side) gs p)) (look_other g.name p _ (turned g.name p ∙ e))
          ∙ either_none (named_look passes view side (by_side window1 window2 side) gs p) ∙ rest
