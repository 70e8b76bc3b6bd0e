use Rattle.std.proofs.Common.{◌≡◌, ℕ, List, [], ◌∷◌, ◌++◌, map, sym, ap, ◌∙◌, All, subst, arith}
use Rattle.std.proofs.lemmas.List.{append_assoc}
use Rattle.std.proofs.lemmas.Grind.{elements}
use Rattle.std.proofs.lemmas.List.Elements.{All-append}
use Rattle.std.proofs.lemmas.Map.Iter.{rest_more}
use Rattle.std.specs.Map.Iter.{deref_pair}
use Rattle.bisync_text.specs.Path.{IsPath}
use Rattle.bisync_tree.specs.Rows.{item_of}
use Rattle.bisync_tree.specs.declared.files.File.{File}
use Rattle.bisync_tree.specs.declared.files.Item.{Item}
use Rattle.bisync_memory.proofs.files.list_files.Goals as goal

-- one item more
one_more : (entries rest next : List (List ℕ × File)) (old out new more : List Item) (e : List ℕ × File) (item : Item)
    → rest ≡ e ∷ next → item ≡ item_of e → IsPath e.0
    → out ≡ old ++ more → All (λ item. IsPath item.path) more → map item_of entries ≡ more ++ map item_of rest
    → new ≡ out ++ item ∷ []
    → (x : List Item) × (new ≡ old ++ x) × All (λ item. IsPath item.path) x × (map item_of entries ≡ x ++ map item_of next)
one_more entries rest next old out new more e item is_rest is_item path is_out paths is_all is_new =
    let path_is : IsPath item.path = subst (λ (i : Item). IsPath i.path) (sym is_item) path in
    let split : map item_of entries ≡ more ++ (item ∷ map item_of next) = is_all ∙ ap (λ l. more ++ map item_of l) is_rest ∙ ap (λ (i : Item). more ++ (i ∷ map item_of next)) (sym is_item) in (
      more ++ item ∷ [],
      is_new ∙ ap (λ l. l ++ item ∷ []) is_out ∙ append_assoc old more (item ∷ []),
      All-append (λ (item : Item). IsPath item.path) more (item ∷ []) paths (one item path_is),
      split ∙ sym (append_assoc more (item ∷ []) (map item_of next)),
    )
  where
    one : (x : Item) → IsPath x.path → All (λ item. IsPath item.path) (x ∷ [])
    one x h = λ k d less. grind (arith, elements)

pub loop-path-preserved : goal.loop-path-preserved
loop-path-preserved c =
    let i = c.loop-path.invariant in
    one_more _ _ _ _ _ _ i.0 (c.in-Some.path.now, c.in-Some.file.now) c.in_ok-item.field-0
    (rest_more deref_pair _ _ _ (c.in-Some.path, c.in-Some.file) c.in-Some.is c.next.ensures.steps)
    c.in_ok-item.ensures.item c.item.ensures.path i.1 i.2 i.3 c.in_ok-push.ensures.items
