-- What a row more changes for look-ups.
use Rattle.std.proofs.Common.{◌≡◌, Bool, true, false, cond, [], ◌∷◌, ◌++◌, Option, Some, None, refl, sym, ◌∙◌, ap, subst}
use Rattle.std.specs.Prelude.{bytes_eq, is_some}
use Rattle.bisync_tree.specs.Rows.{PathBytes, Rows, keys, look, is_among}
use Rattle.bisync_tree.specs.declared.entries.Entry.{Entry}
use Rattle.bisync_tree.proofs.PathOrder.{path_is_itself, same_path}
use Rattle.bisync_tree.proofs.LookLemmas.{look_is_some, look_unlisted}

pub look_found : (rows more : Rows) (p : PathBytes) (e : Entry) → look rows p ≡ Some e → look (rows ++ more) p ≡ Some e
look_found [] more p e h = let f : ◌≡◌ {A = Option Entry} None (Some e) = h in cc
look_found (r ∷ rs) more p e h = go (λ is. look_found rs more p e is) (bytes_eq r.0 p) refl
  where
    go : (look rs p ≡ Some e → look (rs ++ more) p ≡ Some e) → (b : Bool) → bytes_eq r.0 p ≡ b → look ((r ∷ rs) ++ more) p ≡ Some e
    go rest true t = ap (λ b. cond b (Some r.1) (look (rs ++ more) p)) t ∙ sym (ap (λ b. cond b (Some r.1) (look rs p)) t) ∙ h
    go rest false f = ap (λ b. cond b (Some r.1) (look (rs ++ more) p)) f ∙ rest (sym (ap (λ b. cond b (Some r.1) (look rs p)) f) ∙ h)

pub look_past : (rows more : Rows) (p : PathBytes) → look rows p ≡ None → look (rows ++ more) p ≡ look more p
look_past [] more p h = refl
look_past (r ∷ rs) more p h = go (λ is. look_past rs more p is) (bytes_eq r.0 p) refl
  where
    go : (look rs p ≡ None → look (rs ++ more) p ≡ look more p) → (b : Bool) → bytes_eq r.0 p ≡ b → look ((r ∷ rs) ++ more) p ≡ look more p
    go rest true t = let f = sym (ap (λ b. cond b (Some r.1) (look rs p)) t) ∙ h in cc
    go rest false f = ap (λ b. cond b (Some r.1) (look (rs ++ more) p)) f ∙ rest (sym (ap (λ b. cond b (Some r.1) (look rs p)) f) ∙ h)

-- a row of another path changes nothing
pub look_other : (rows : Rows) (r : PathBytes × Entry) (p : PathBytes) → bytes_eq r.0 p ≡ false → look (rows ++ r ∷ []) p ≡ look rows p
look_other rows r p other = go (look rows p) refl
  where
    go : (v : Option Entry) → look rows p ≡ v → look (rows ++ r ∷ []) p ≡ look rows p
    go (Some e) is = look_found rows (r ∷ []) p e is ∙ sym is
    go None is = look_past rows (r ∷ []) p is ∙ ap (λ b. cond b (Some r.1) None) other ∙ sym is

-- nor does one of a path that is there
pub look_again : (rows : Rows) (r : PathBytes × Entry) (p : PathBytes) → is_among r.0 (keys rows) ≡ true → look (rows ++ r ∷ []) p ≡ look rows p
look_again rows r p there = go (bytes_eq r.0 p) refl
  where
    found : (v : Option Entry) → look rows r.0 ≡ v → look (rows ++ r ∷ []) r.0 ≡ look rows r.0
    found (Some e) is = look_found rows (r ∷ []) r.0 e is ∙ sym is
    found None is = let f : false ≡ is_among r.0 (keys rows) = sym (ap is_some is) ∙ look_is_some rows r.0 in cc

    go : (b : Bool) → bytes_eq r.0 p ≡ b → look (rows ++ r ∷ []) p ≡ look rows p
    go true same = subst (λ q. look (rows ++ r ∷ []) q ≡ look rows q) (same_path r.0 p same) (found (look rows r.0) refl)
    go false other = look_other rows r p other

-- the first row of a path is found
pub look_next : (rows next : Rows) (r : PathBytes × Entry) → is_among r.0 (keys rows) ≡ false → look (rows ++ r ∷ next) r.0 ≡ Some r.1
look_next rows next r absent = look_past rows (r ∷ next) r.0 (look_unlisted rows r.0 absent) ∙ ap (λ b. cond b (Some r.1) (look next r.0)) (path_is_itself r.0)
