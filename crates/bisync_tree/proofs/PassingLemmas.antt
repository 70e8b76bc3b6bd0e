-- The passing part of a listing, and the paths of a tree.
use Rattle.std.proofs.Common.{◌≡◌, ◌||◌, Bool, true, false, cond, List, [], ◌∷◌, map, Option, Some, None, refl, sym, ◌∙◌, ap, T}
use Rattle.std.specs.Prelude.{bytes_eq, filter, is_some, if◌then◌else◌}
use Rattle.std.specs.Ordering.{eq_by_cmp}
use Rattle.std.specs.FinMap.{entries, entries_sorted, get-entries}
use Rattle.std.specs.FinMap.Entries.{find, is_sorted, below_all}
use Rattle.std.proofs.lemmas.Map.Text.{is_eq-slice_cmp}
use Rattle.bisync_tree.specs.Rows.{PathBytes, Rows, keys, look, is_among, AreAbove, AreRising, listing_of, passing, paths_in}
use Rattle.bisync_tree.specs.Tree.{Tree, file_at, entry}
use Rattle.bisync_tree.specs.declared.entries.Compare.{Compare}
use Rattle.bisync_tree.specs.declared.entries.Entry.{Entry}
use Rattle.bisync_tree.specs.declared.files.File.{File}
use Rattle.bisync_tree.proofs.PathOrder.{order, same_path}
use Rattle.bisync_tree.proofs.ListingLemmas.{left_of, right_of, less_of}

above_passing : (passes : PathBytes → Bool) (p : PathBytes) (rows : Rows) → AreAbove p (keys rows) → AreAbove p (keys (passing passes rows))
above_passing passes p [] h = tt
above_passing passes p (r ∷ rs) h = by (passes r.0) (above_passing passes p rs h.1)
  where
    by : (b : Bool) → AreAbove p (keys (passing passes rs)) → AreAbove p (keys (cond b (r ∷ passing passes rs) (passing passes rs)))
    by true rest = (h.0, rest)
    by false rest = rest

pub passing_rising : (passes : PathBytes → Bool) (rows : Rows) → AreRising (keys rows) → AreRising (keys (passing passes rows))
passing_rising passes [] h = tt
passing_rising passes (r ∷ rs) h = by (passes r.0) (passing_rising passes rs h.1)
  where
    by : (b : Bool) → AreRising (keys (passing passes rs)) → AreRising (keys (cond b (r ∷ passing passes rs) (passing passes rs)))
    by true rest = (above_passing passes r.0 rs h.0, rest)
    by false rest = rest

pub look-passing : (passes : PathBytes → Bool) (rows : Rows) (p : PathBytes) → look (passing passes rows) p ≡ (if passes p then look rows p else None)
look-passing passes [] p = by (passes p)
  where
    by : (b : Bool) → ◌≡◌ {A = Option Entry} None (cond b None None)
    by true = refl
    by false = refl
look-passing passes (r ∷ rs) p = at (bytes_eq r.0 p) refl (look-passing passes rs p)
  where
    other : (b : Bool) → bytes_eq r.0 p ≡ false → look (cond b (r ∷ passing passes rs) (passing passes rs)) p ≡ look (passing passes rs) p
    other true f = ap (λ t. cond t (Some r.1) (look (passing passes rs) p)) f
    other false f = refl

    here : (b : Bool) → look (passing passes rs) p ≡ cond b (look rs p) None → bytes_eq r.0 p ≡ true
        → look (cond b (r ∷ passing passes rs) (passing passes rs)) p ≡ cond b (Some r.1) None
    here true rest t = ap (λ x. cond x (Some r.1) (look (passing passes rs) p)) t
    here false rest t = rest

    at : (t : Bool) → bytes_eq r.0 p ≡ t → look (passing passes rs) p ≡ cond (passes p) (look rs p) None
        → look (cond (passes r.0) (r ∷ passing passes rs) (passing passes rs)) p ≡ cond (passes p) (cond t (Some r.1) (look rs p)) None
    at true t rest =
        ap (λ b. look (cond b (r ∷ passing passes rs) (passing passes rs)) p) (ap passes (same_path r.0 p t))
        ∙ here (passes p) rest t
    at false f rest = other (passes r.0) f ∙ rest

all : (es : List (PathBytes × File)) → filter (λ (e : PathBytes × File). true) es ≡ es
all [] = refl
all (e ∷ es) = ap (λ xs. e ∷ xs) (all es)

passing_map : (c : Compare) (passes : PathBytes → Bool) (es : List (PathBytes × File))
    → passing passes (map (λ (e : PathBytes × File). (e.0, entry c e.1)) es) ≡ map (λ (e : PathBytes × File). (e.0, entry c e.1)) (filter (λ (e : PathBytes × File). passes e.0) es)
passing_map c passes [] = refl
passing_map c passes (e ∷ es) = by (passes e.0) (passing_map c passes es)
  where
    by : (b : Bool) → passing passes (map (λ (e : PathBytes × File). (e.0, entry c e.1)) es) ≡ map (λ (e : PathBytes × File). (e.0, entry c e.1)) (filter (λ (e : PathBytes × File). passes e.0) es)
        → cond b ((e.0, entry c e.1) ∷ passing passes (map (λ (e : PathBytes × File). (e.0, entry c e.1)) es)) (passing passes (map (λ (e : PathBytes × File). (e.0, entry c e.1)) es))
        ≡ map (λ (e : PathBytes × File). (e.0, entry c e.1)) (cond b (e ∷ filter (λ (e : PathBytes × File). passes e.0) es) (filter (λ (e : PathBytes × File). passes e.0) es))
    by true rest = ap (λ xs. (e.0, entry c e.1) ∷ xs) rest
    by false rest = rest

pub passing-listing_of : (c : Compare) (passes : PathBytes → Bool) (tree : Tree) → passing passes (listing_of c (λ p. true) tree) ≡ listing_of c passes tree
passing-listing_of c passes tree =
    ap (λ es. passing passes (map (λ (e : PathBytes × File). (e.0, entry c e.1)) es)) (all (entries tree))
    ∙ passing_map c passes (entries tree)

above_in : (p : PathBytes) (es : List (PathBytes × File)) → T (below_all order p es) → AreAbove p (map (λ (e : PathBytes × File). e.0) es)
above_in p [] h = tt
above_in p (e ∷ es) h = (less_of _ (left_of _ _ h), above_in p es (right_of _ _ h))

rising_in : (es : List (PathBytes × File)) → T (is_sorted order es) → AreRising (map (λ (e : PathBytes × File). e.0) es)
rising_in [] h = tt
rising_in (e ∷ es) h = (above_in e.0 es (left_of _ _ h), rising_in es (right_of _ _ h))

pub paths_rising : (tree : Tree) → AreRising (paths_in tree)
paths_rising tree = rising_in (entries tree) (entries_sorted tree)

among_found : (p : PathBytes) (es : List (PathBytes × File)) → is_among p (map (λ (e : PathBytes × File). e.0) es) ≡ is_some (find order p es)
among_found p [] = refl
among_found p (e ∷ es) = ap (λ b. b || is_among p (map (λ (e : PathBytes × File). e.0) es)) (sym (is_eq-slice_cmp p e.0)) ∙ by (eq_by_cmp order p e.0) (among_found p es)
  where
    by : (b : Bool) → is_among p (map (λ (e : PathBytes × File). e.0) es) ≡ is_some (find order p es)
        → (b || is_among p (map (λ (e : PathBytes × File). e.0) es)) ≡ is_some (cond b (Some e.1) (find order p es))
    by true rest = refl
    by false rest = rest

pub among-paths_in : (tree : Tree) (p : PathBytes) → is_among p (paths_in tree) ≡ is_some (file_at tree p)
among-paths_in tree p = among_found p (entries tree) ∙ ap is_some (sym (get-entries tree p))
