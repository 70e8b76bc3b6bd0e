use Rattle.std.proofs.Common.{◌≡◌, ℕ, true, false, List, [], ◌∷◌, ◌++◌, sym, ap, ◌∙◌, All, subst, arith, not, cond, inl, inr}
use Rattle.std.specs.Str.{bytes_eq}
use Rattle.std.specs.List.{filter}
use Rattle.std.specs.Map.{keys_of}
use Rattle.std.proofs.lemmas.List.{append_assoc}
use Rattle.std.proofs.lemmas.Grind.{elements}
use Rattle.std.proofs.lemmas.List.Elements.{All-append}
use Rattle.std.proofs.lemmas.Map.Iter.{rest_more}
use Rattle.std.proofs.lemmas.Slice.Eq.{bytes_eq-Decides}
use Rattle.std.specs.Map.Iter.{deref}
use Rattle.bisync_text.specs.Path.{IsPath, partial_name}
use Rattle.bisync_memory.specs.FolderName.{IsFolderName}
use Rattle.bisync_memory.proofs.folder_maps.list_folders.Goals as goal

abbrev listed : List (List ℕ) → List (List ℕ)
listed names = filter (λ q. not (bytes_eq q partial_name)) names

-- the partial file's name is left out
skipped : (names rest next old out more : List (List ℕ)) (k : List ℕ) → rest ≡ k ∷ next → bytes_eq k partial_name ≡ true
    → out ≡ old ++ more → All IsPath more → listed names ≡ more ++ listed rest
    → (x : List (List ℕ)) × (out ≡ old ++ x) × All IsPath x × (listed names ≡ x ++ listed next)
skipped names rest next old out more k is_rest is is_out paths is_all =
    (more, is_out, paths, is_all ∙ ap (λ l. more ++ listed l) is_rest ∙ ap (λ b. more ++ cond (not b) (k ∷ listed next) (listed next)) is)

is_path : (k : List ℕ) → IsFolderName k → bytes_eq k partial_name ≡ false → IsPath k
is_path k name isnt = elim name [
  | inl path ↦ path
  | inr same ↦ (let yes : bytes_eq k partial_name ≡ true = (bytes_eq-Decides k partial_name).1 same in cc)
]

-- one text more
one_more : (names rest next old out new more : List (List ℕ)) (k text : List ℕ) → rest ≡ k ∷ next → bytes_eq k partial_name ≡ false → text ≡ k → IsFolderName k
    → out ≡ old ++ more → All IsPath more → listed names ≡ more ++ listed rest → new ≡ out ++ text ∷ []
    → (x : List (List ℕ)) × (new ≡ old ++ x) × All IsPath x × (listed names ≡ x ++ listed next)
one_more names rest next old out new more k text is_rest isnt is_text name is_out paths is_all is_new = (
  more ++ text ∷ [],
  is_new ∙ ap (λ l. l ++ text ∷ []) is_out ∙ append_assoc old more (text ∷ []),
  All-append IsPath more (text ∷ []) paths (one text (subst IsPath (sym is_text) (is_path k name isnt))),
  is_all ∙ ap (λ l. more ++ listed l) is_rest ∙ ap (λ b. more ++ cond (not b) (k ∷ listed next) (listed next)) isnt
      ∙ ap (λ t. more ++ (t ∷ listed next)) (sym is_text) ∙ sym (append_assoc more (text ∷ []) (listed next)),
)
  where
    one : (x : List ℕ) → IsPath x → All IsPath (x ∷ [])
    one x h = λ k d less. grind (arith, elements)

pub loop-name-preserved-then-eq : goal.loop-name-preserved-then-eq
loop-name-preserved-then-eq c =
    let i = c.loop-name.invariant in
    skipped (keys_of c.args.folders.now.entries) _ _ _ _ i.0 c.in-Some.name.now
    (rest_more deref _ _ _ c.in-Some.name c.in-Some.is c.next.ensures.steps)
    (sym (ap (λ k. bytes_eq k partial_name) c.as_bytes-name.ensures.bytes) ∙ sym c.if-eq.ensures)
    i.1 i.2 i.3

pub loop-name-preserved : goal.loop-name-preserved
loop-name-preserved c =
    let i = c.loop-name.invariant in
    one_more (keys_of c.args.folders.now.entries) _ _ _ _ _ i.0 c.in-Some.name.now c.in_ok-from_bytes.field-0
    (rest_more deref _ _ _ c.in-Some.name c.in-Some.is c.next.ensures.steps)
    (sym (ap (λ k. bytes_eq k partial_name) c.as_bytes-name.ensures.bytes) ∙ sym c.if-eq.ensures)
    (c.in_ok-from_bytes.ensures ∙ c.as_bytes-name.ensures.bytes) c.as_bytes-name.ensures.name
    i.1 i.2 i.3 c.in_ok-push.ensures.items
