-- Rows from items, and rows in order.
use Rattle.std.proofs.Common.{◌≡◌, Bool, true, false, cond, ◌&&◌, List, [], ◌∷◌, ◌++◌, All, Some, None, refl, sym, ◌∙◌, ap, subst, arith}
use Rattle.std.proofs.lemmas.Grind.{elements}
use Rattle.std.proofs.lemmas.List.{append_assoc}
use Rattle.std.proofs.lemmas.List.Elements.{All-append}
use Rattle.std.specs.Prelude.{bytes_eq, filter, not, pos}
use Rattle.std.specs.List.Sorted.{IsPermutation, IsSortedBy, IsStableBy, ties}
use Rattle.std.specs.Ordering.{is_lt}
use Rattle.std.specs.declared.cmp.Ordering.{Ordering}
use Rattle.std.specs.declared.cmp.Ordering.TheVariants.{Less, Equal, Greater}
use Rattle.bisync_text.specs.Path.{IsPath}
use Rattle.bisync_tree.specs.Rows.{PathBytes, Rows, look}
use Rattle.bisync_tree.specs.declared.entries.Entry.{Entry}
use Rattle.bisync_tree.specs.declared.files.Item.{Item}
use Rattle.bisync_tree.proofs.PathOrder.{order, path_is_itself, same_path, below_differs}
use Rattle.bisync_observe.specs.Listed.{row_of, rows_of, IsInOrder}

rows_push : (items : List Item) (item : Item) → rows_of (items ++ item ∷ []) ≡ rows_of items ++ row_of item ∷ []
rows_push [] item = refl
rows_push (i ∷ is) item = ap (λ (rows : Rows). row_of i ∷ rows) (rows_push is item)

-- one item more was read
pub one_more : (items before rest next : List Item) (old new : Rows) (item : Item) (path : PathBytes) (entry : Entry)
    → items ≡ before ++ rest → rest ≡ item ∷ next → All (λ (i : Item). IsPath i.path) before → old ≡ rows_of before
    → path ≡ item.path → IsPath item.path → entry ≡ (row_of item).1 → new ≡ old ++ (path, entry) ∷ []
    → (x : List Item) × (items ≡ x ++ next) × All (λ (i : Item). IsPath i.path) x × (new ≡ rows_of x)
one_more items before rest next old new item path entry split is_rest paths is_old is_path good is_entry is_new = (
  before ++ item ∷ [],
  split ∙ ap (λ l. before ++ l) is_rest ∙ sym (append_assoc before (item ∷ []) next),
  All-append (λ (i : Item). IsPath i.path) before (item ∷ []) paths (one item good),
  is_new ∙ (λ i. is_old i ++ (is_path i, is_entry i) ∷ []) ∙ sym (rows_push before item),
)
  where
    one : (x : Item) → IsPath x.path → All (λ (i : Item). IsPath i.path) (x ∷ [])
    one x h = λ k d less. grind (arith, elements)

abbrev pub is_below : PathBytes × Entry → PathBytes × Entry → Bool
is_below one two = is_lt (order one.0 two.0)

-- a row ties with one of the same path
ties_itself : (p : PathBytes) (e : Entry) (r : PathBytes × Entry) → bytes_eq r.0 p ≡ true → ties is_below (p, e) r ≡ true
ties_itself p e r same = subst (λ q. (not (is_lt (order p q)) && not (is_lt (order q p))) ≡ true) (sym (same_path r.0 p same)) (go (order p p) refl)
  where
    go : (o : Ordering) → order p p ≡ o → (not (is_lt (order p p)) && not (is_lt (order p p))) ≡ true
    go Less is = let f = below_differs p p is in let t = path_is_itself p in cc
    go Equal is = ap (λ o. not (is_lt o) && not (is_lt o)) is
    go Greater is = ap (λ o. not (is_lt o) && not (is_lt o)) is

-- only the rows with this path matter to its look-up
look_filter : (f : PathBytes × Entry → Bool) (rows : Rows) (p : PathBytes) → ((r : PathBytes × Entry) → bytes_eq r.0 p ≡ true → f r ≡ true) → look (filter f rows) p ≡ look rows p
look_filter f [] p keeps = refl
look_filter f (r ∷ rs) p keeps = go (bytes_eq r.0 p) (f r) refl refl (look_filter f rs p keeps)
  where
    go : (b k : Bool) → bytes_eq r.0 p ≡ b → f r ≡ k → look (filter f rs) p ≡ look rs p → look (cond k (r ∷ filter f rs) (filter f rs)) p ≡ cond b (Some r.1) (look rs p)
    go true true same kept rest = ap (λ b. cond b (Some r.1) (look (filter f rs) p)) same
    go true false same kept rest = let t = keeps r same in cc
    go false true other kept rest = ap (λ b. cond b (Some r.1) (look (filter f rs) p)) other ∙ rest
    go false false other kept rest = rest

any_entry : Entry
any_entry = record { size = 0; time = pos 0; hash = None }

-- a stable sort by path puts rows in order
pub in_order : (listed rows : Rows) → IsPermutation listed rows → IsSortedBy is_below rows → IsStableBy is_below listed rows → IsInOrder listed rows
in_order listed rows permutation sorted stable = record {
  ordered = sorted;
  permutation = permutation;
  first = λ p.
      sym (look_filter (ties is_below (p, any_entry)) rows p (ties_itself p any_entry))
      ∙ ap (λ (rs : Rows). look rs p) (stable (p, any_entry))
      ∙ look_filter (ties is_below (p, any_entry)) listed p (ties_itself p any_entry);
}
