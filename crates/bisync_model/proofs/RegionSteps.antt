-- What steps do on a set of paths that holds all the paths that they touch, and off it.
use Rattle.std.proofs.Common.{◌≡◌, ℕ, zero, suc, Bool, true, false, cond, ◌&&◌, List, [], ◌∷◌, ◌++◌, map, take, Option, Some, None, refl, sym, ◌∙◌, ap, subst}
use Rattle.std.specs.Prelude.{bytes_eq, flat_map}
use Rattle.std.proofs.lemmas.List.{append-nil}
use Rattle.bisync_tree.specs.Rows.{PathBytes, is_among}
use Rattle.bisync_tree.specs.declared.files.File.{File}
use Rattle.bisync_tree.specs.Side.{other, is_side}
use Rattle.bisync_tree.specs.declared.steps.Step.{Step}
use Rattle.bisync_tree.specs.declared.steps.Step.TheVariants.{Copy, Rename, Delete}
use Rattle.bisync_tree.specs.declared.sides.Side.{Side}
use Rattle.bisync_tree.specs.declared.entries.Entry.{Entry}
use Rattle.bisync_tree.proofs.PathOrder.{same_path, other_path, other_path'}
use Rattle.bisync_model.specs.Trees.{Trees, put_at}
use Rattle.bisync_model.proofs.ListedRun.{Run}
use Rattle.bisync_model.specs.Effects.{with_copy, with_rename, effect, after}
use Rattle.bisync_model.proofs.PlaceTests.{or_false_left, or_false_right, or_true_right, put_other}

abbrev pub AgreeOn : (PathBytes → Type 0) → Trees → Trees → Type 0
AgreeOn R T U = (s : Side) (n : PathBytes) → R n → T s n ≡ U s n

abbrev pub Within : (PathBytes → Type 0) → Step → Type 0
Within R (Copy from p listed) = R p
Within R (Rename side from to listed) = R from × R to
Within R (Delete side p listed) = R p

put_agree : (R : PathBytes → Type 0) (T U : Trees) (side : Side) (p : PathBytes) (file : Option File) → AgreeOn R T U → AgreeOn R (put_at T side p file) (put_at U side p file)
put_agree R T U side p file h s n r = ap (λ v. cond (is_side s side && bytes_eq n p) file v) (h s n r)

copy_agree : (run : Run) (R : PathBytes → Type 0) (from : Side) (p : PathBytes) (listed : Entry) (T U : Trees) (v : Option File)
    → AgreeOn R T U → AgreeOn R (with_copy run.known.policy.window from p listed T v) (with_copy run.known.policy.window from p listed U v)
copy_agree run R from p listed T U None h = h
copy_agree run R from p listed T U (Some file) h = put_agree R T U (other from) p _ h

rename_agree : (R : PathBytes → Type 0) (side : Side) (from to : PathBytes) (T U : Trees) (v : Option File)
    → AgreeOn R T U → AgreeOn R (with_rename side from to T v) (with_rename side from to U v)
rename_agree R side from to T U None h = h
rename_agree R side from to T U (Some file) h = put_agree R (put_at T side from None) (put_at U side from None) side to _ (put_agree R T U side from None h)

pub effect_agree : (run : Run) (R : PathBytes → Type 0) (step : Step) (T U : Trees) → Within R step → AgreeOn R T U → AgreeOn R (effect run.known.policy.window step T) (effect run.known.policy.window step U)
effect_agree run R (Copy from p listed) T U within h =
    subst (λ v. AgreeOn R (with_copy run.known.policy.window from p listed T (T from p)) (with_copy run.known.policy.window from p listed U v)) (h from p within) (copy_agree run R from p listed T U (T from p) h)
effect_agree run R (Rename side from to listed) T U within h =
    subst (λ v. AgreeOn R (with_rename side from to T (T side from)) (with_rename side from to U v)) (h side from within.0) (rename_agree R side from to T U (T side from) h)
effect_agree run R (Delete side p listed) T U within h = put_agree R T U side p None h

put_outside : (R : PathBytes → Type 0) (T : Trees) (side : Side) (p : PathBytes) (file : Option File) (s : Side) (n : PathBytes) → R p → ¬ R n → put_at T side p file s n ≡ T s n
put_outside R T side p file s n within out =
    put_other T side p file s n (other_path n p (λ e. out (subst R (sym e) within)))

copy_outside : (run : Run) (R : PathBytes → Type 0) (from : Side) (p : PathBytes) (listed : Entry) (T : Trees) (v : Option File) (s : Side) (n : PathBytes)
    → R p → ¬ R n → with_copy run.known.policy.window from p listed T v s n ≡ T s n
copy_outside run R from p listed T None s n within out = refl
copy_outside run R from p listed T (Some file) s n within out = put_outside R T (other from) p _ s n within out

rename_outside : (R : PathBytes → Type 0) (side : Side) (from to : PathBytes) (T : Trees) (v : Option File) (s : Side) (n : PathBytes)
    → R from → R to → ¬ R n → with_rename side from to T v s n ≡ T s n
rename_outside R side from to T None s n a b out = refl
rename_outside R side from to T (Some file) s n a b out =
    put_outside R (put_at T side from None) side to _ s n b out ∙ put_outside R T side from None s n a out

pub effect_outside : (run : Run) (R : PathBytes → Type 0) (step : Step) (T : Trees) (s : Side) (n : PathBytes) → Within R step → ¬ R n → effect run.known.policy.window step T s n ≡ T s n
effect_outside run R (Copy from p listed) T s n within out = copy_outside run R from p listed T (T from p) s n within out
effect_outside run R (Rename side from to listed) T s n within out = rename_outside R side from to T (T side from) s n within.0 within.1 out
effect_outside run R (Delete side p listed) T s n within out = put_outside R T side p None s n within out

-- steps with the path whose steps they are
abbrev pub Owned : Type 0
Owned = PathBytes × Step

abbrev pub steps_of : List Owned → List Step
steps_of owned = map (λ o. o.1) owned

-- those of one path
abbrev pub only : PathBytes → List Owned → List Step
only p [] = []
only p (o ∷ os) = cond (bytes_eq p o.0) (o.1 ∷ only p os) (only p os)

-- each is within the region of its owner, and the region of p meets no other
abbrev pub AllApart : (PathBytes → PathBytes → Type 0) → PathBytes → List Owned → Type 0
AllApart R p [] = Unit {0}
AllApart R p (o ∷ os) = Within (R o.0) o.1 × ((n : PathBytes) → R p n → R o.0 n → p ≡ o.0) × AllApart R p os

pub after_only : (run : Run) (R : PathBytes → PathBytes → Type 0) (p : PathBytes) (owned : List Owned) (T U : Trees) → AllApart R p owned → AgreeOn (R p) T U
    → AgreeOn (R p) (after run.known.policy.window (steps_of owned) T) (after run.known.policy.window (only p owned) U)
after_only run R p [] T U apart h = h
after_only run R p (o ∷ os) T U apart h = go (λ V W k. after_only run R p os V W apart.2 k) (bytes_eq p o.0) refl
  where
    go : ((V W : Trees) → AgreeOn (R p) V W → AgreeOn (R p) (after run.known.policy.window (steps_of os) V) (after run.known.policy.window (only p os) W))
        → (b : Bool) → bytes_eq p o.0 ≡ b → AgreeOn (R p) (after run.known.policy.window (steps_of os) (effect run.known.policy.window o.1 T)) (after run.known.policy.window (cond b (o.1 ∷ only p os) (only p os)) U)
    go rest true e =
        let within : Within (R p) o.1 = subst (λ q. Within (R q) o.1) (sym (same_path p o.0 e)) apart.0 in
        rest (effect run.known.policy.window o.1 T) (effect run.known.policy.window o.1 U) (effect_agree run (R p) o.1 T U within h)
    go rest false e =
        rest (effect run.known.policy.window o.1 T) U
        (λ s n r. effect_outside run (R o.0) o.1 T s n apart.0 (λ q. other_path' p o.0 e (apart.1 n r q)) ∙ h s n r)

-- a prefix of the steps has of one path a prefix of its steps
pub only-take : (p : PathBytes) (owned : List Owned) (i : ℕ) → (j : ℕ) × (only p (take i owned) ≡ take j (only p owned))
only-take p owned zero = (0, refl)
only-take p [] (suc i) = (0, refl)
only-take p (o ∷ os) (suc i) = go (only-take p os i) (bytes_eq p o.0)
  where
    go : (j : ℕ) × (only p (take i os) ≡ take j (only p os)) → (b : Bool)
        → (j : ℕ) × (cond b (o.1 ∷ only p (take i os)) (only p (take i os)) ≡ take j (cond b (o.1 ∷ only p os) (only p os)))
    go (j, e) true = (suc j, ap (λ r. o.1 ∷ r) e)
    go (j, e) false = (j, e)

pub only-append : (p : PathBytes) (a b : List Owned) → only p (a ++ b) ≡ only p a ++ only p b
only-append p [] b = refl
only-append p (o ∷ os) b = go (only-append p os b) (bytes_eq p o.0)
  where
    go : only p (os ++ b) ≡ only p os ++ only p b → (t : Bool)
        → cond t (o.1 ∷ only p (os ++ b)) (only p (os ++ b)) ≡ cond t (o.1 ∷ only p os) (only p os) ++ only p b
    go e true = ap (λ r. o.1 ∷ r) e
    go e false = e

unfoldable pub owned_by : PathBytes → List Step → List Owned
owned_by p steps = map (λ step. (p, step)) steps

pub steps_of-owned_by : (p : PathBytes) (steps : List Step) → steps_of (owned_by p steps) ≡ steps
unfolding owned_by
steps_of-owned_by p [] = refl
steps_of-owned_by p (s ∷ ss) = ap (λ r. s ∷ r) (steps_of-owned_by p ss)

pub only-owned_by : (p q : PathBytes) (steps : List Step) → only p (owned_by q steps) ≡ cond (bytes_eq p q) steps []
unfolding owned_by
only-owned_by p q [] = go (bytes_eq p q)
  where
    go : (b : Bool) → ◌≡◌ {A = List Step} [] (cond b [] [])
    go true = refl
    go false = refl
only-owned_by p q (s ∷ ss) = go (only-owned_by p q ss)
  where
    by : (b : Bool) → only p (owned_by q ss) ≡ cond b ss [] → cond b (s ∷ only p (owned_by q ss)) (only p (owned_by q ss)) ≡ cond b (s ∷ ss) []
    by true e = ap (λ r. s ∷ r) e
    by false e = e

    go : only p (owned_by q ss) ≡ cond (bytes_eq p q) ss [] → cond (bytes_eq p q) (s ∷ only p (owned_by q ss)) (only p (owned_by q ss)) ≡ cond (bytes_eq p q) (s ∷ ss) []
    go e = by (bytes_eq p q) e

-- no path stands twice
abbrev pub Distinct : List PathBytes → Type 0
Distinct [] = Unit {0}
Distinct (p ∷ ps) = (is_among p ps ≡ false) × Distinct ps

unfoldable pub owned_all : (PathBytes → List Step) → List PathBytes → List Owned
owned_all f paths = flat_map (λ p. owned_by p (f p)) paths

pub steps_of-append : (a b : List Owned) → steps_of (a ++ b) ≡ steps_of a ++ steps_of b
steps_of-append [] b = refl
steps_of-append (o ∷ os) b = ap (λ r. o.1 ∷ r) (steps_of-append os b)

pub steps_of-owned_all : (f : PathBytes → List Step) (paths : List PathBytes) → steps_of (owned_all f paths) ≡ flat_map f paths
unfolding owned_all
steps_of-owned_all f [] = refl
steps_of-owned_all f (p ∷ ps) =
    steps_of-append (owned_by p (f p)) (owned_all f ps) ∙ (λ i. steps_of-owned_by p (f p) i ++ steps_of-owned_all f ps i)

-- of a path that isn't among them there are no steps, and of one among them all its steps, once
pub only-absent : (p : PathBytes) (f : PathBytes → List Step) (paths : List PathBytes) → is_among p paths ≡ false → only p (owned_all f paths) ≡ []
unfolding owned_all
only-absent p f [] out = refl
only-absent p f (q ∷ qs) out =
    let here : bytes_eq p q ≡ false = or_false_left (bytes_eq p q) (is_among p qs) out in
    only-append p (owned_by q (f q)) (owned_all f qs)
    ∙ (λ i. (only-owned_by p q (f q) ∙ ap (λ b. cond b (f q) []) here) i ++ only-absent p f qs (or_false_right (bytes_eq p q) (is_among p qs) out) i)

pub only-present : (p : PathBytes) (f : PathBytes → List Step) (paths : List PathBytes) → Distinct paths → is_among p paths ≡ true → only p (owned_all f paths) ≡ f p
unfolding owned_all
only-present p f [] distinct inside = cc
only-present p f (q ∷ qs) distinct inside = go (only-present p f qs distinct.1) (bytes_eq p q) refl
  where
    go : (is_among p qs ≡ true → only p (owned_all f qs) ≡ f p) → (b : Bool) → bytes_eq p q ≡ b → only p (owned_by q (f q) ++ owned_all f qs) ≡ f p
    go rest true e =
        let is : p ≡ q = same_path p q e in
        let out : is_among p qs ≡ false = subst (λ r. is_among r qs ≡ false) (sym is) distinct.0 in
        only-append p (owned_by q (f q)) (owned_all f qs)
        ∙ (λ i. (only-owned_by p q (f q) ∙ ap (λ b. cond b (f q) []) e) i ++ only-absent p f qs out i)
        ∙ append-nil (f q) ∙ ap f (sym is)
    go rest false e =
        only-append p (owned_by q (f q)) (owned_all f qs)
        ∙ (λ i. (only-owned_by p q (f q) ∙ ap (λ b. cond b (f q) []) e) i ++ rest (or_true_right (bytes_eq p q) (is_among p qs) e inside) i)

pub take-steps_of : (i : ℕ) (owned : List Owned) → steps_of (take i owned) ≡ take i (steps_of owned)
take-steps_of zero owned = refl
take-steps_of (suc i) [] = refl
take-steps_of (suc i) (o ∷ os) = ap (λ r. o.1 ∷ r) (take-steps_of i os)
