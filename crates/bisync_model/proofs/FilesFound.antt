-- Steps that find their files: from the steps of each path alone to the steps of all paths.
use Rattle.std.proofs.Common.{◌≡◌, cond, List, [], ◌∷◌, ◌++◌, refl, ◌∙◌, ap, subst}
use Rattle.bisync_tree.specs.Rows.{PathBytes}
use Rattle.bisync_tree.specs.declared.sides.Side.{Side}
use Rattle.bisync_tree.specs.declared.entries.Entry.{Entry}
use Rattle.bisync_tree.specs.declared.steps.Step.{Step}
use Rattle.bisync_tree.specs.declared.steps.Step.TheVariants.{Copy, Rename, Delete}
use Rattle.bisync_tree.proofs.PathOrder.{path_is_itself}
use Rattle.bisync_model.specs.Trees.{Trees}
use Rattle.bisync_model.specs.Effects.{effect, after}
use Rattle.bisync_model.specs.Finds.{HasEntry, FindsFile, EachFindsFile}
use Rattle.bisync_model.proofs.ListedRun.{Run}
use Rattle.bisync_model.proofs.RegionSteps.{AgreeOn, Within, Owned, AllApart, steps_of, only, owned_by, owned_all, after_only, only-append}

-- each step finds its file where the steps before it leave the trees
abbrev pub AllFind : Run → List Step → Trees → Type 0
AllFind run [] T = Unit {0}
AllFind run (s ∷ ss) T = FindsFile run.known.policy.compare s T × AllFind run ss (effect run.known.policy.window s T)

find_at : (run : Run) (done : List Step) (step : Step) (later : List Step) (T : Trees) → AllFind run (done ++ step ∷ later) T
    → FindsFile run.known.policy.compare step (after run.known.policy.window done T)
find_at run [] step later T h = h.0
find_at run (d ∷ ds) step later T h = find_at run ds step later (effect run.known.policy.window d T) h.1

has_agree : (run : Run) (R : PathBytes → Type 0) (side : Side) (p : PathBytes) (listed : Entry) (T U : Trees) → R p → AgreeOn R T U
    → HasEntry run.known.policy.compare U side p listed → HasEntry run.known.policy.compare T side p listed
has_agree run R side p listed T U r agree (file, is, e) = (file, agree side p r ∙ is, e)

find_agree : (run : Run) (R : PathBytes → Type 0) (step : Step) (T U : Trees) → Within R step → AgreeOn R T U
    → FindsFile run.known.policy.compare step U → FindsFile run.known.policy.compare step T
find_agree run R (Copy from p listed) T U within agree h = has_agree run R from p listed T U within agree h
find_agree run R (Rename side from to listed) T U within agree h = has_agree run R side from listed T U within.0 agree h
find_agree run R (Delete side p listed) T U within agree h = has_agree run R side p listed T U within agree h

-- the steps before one, with their owners
record Split (owned : List Owned) (done : List Step) (step : Step) : Type 0 where
  before : List Owned
  own : Owned
  behind : List Owned
  whole : owned ≡ before ++ own ∷ behind
  done_is : steps_of before ≡ done
  step_is : own.1 ≡ step

split : (owned : List Owned) (done : List Step) (step : Step) (later : List Step) → steps_of owned ≡ done ++ step ∷ later → Split owned done step
split [] [] step later e = cc
split [] (d ∷ ds) step later e = cc
split (o ∷ os) [] step later e = record { before = []; own = o; behind = os; whole = refl; done_is = refl; step_is = cc }
split (o ∷ os) (d ∷ ds) step later e =
    let rest : steps_of os ≡ ds ++ step ∷ later = cc in
    let first : o.1 ≡ d = cc in
    let s = split os ds step later rest in
    record {
      before = o ∷ s.before;
      own = s.own;
      behind = s.behind;
      whole = λ i. o ∷ s.whole i;
      done_is = λ i. first i ∷ s.done_is i;
      step_is = s.step_is;
    }

apart_before : (R : PathBytes → PathBytes → Type 0) (p : PathBytes) (before : List Owned) (o : Owned) (behind : List Owned)
    → AllApart R p (before ++ o ∷ behind) → AllApart R p before × Within (R o.0) o.1
apart_before R p [] o behind h = (tt, h.0)
apart_before R p (b ∷ bs) o behind h = let rest = apart_before R p bs o behind h.2 in ((h.0, h.1, rest.0), rest.1)

only_own : (o : Owned) (os : List Owned) → only o.0 (o ∷ os) ≡ o.1 ∷ only o.0 os
only_own o os = ap (λ b. cond b (o.1 ∷ only o.0 os) (only o.0 os)) (path_is_itself o.0)

-- P holds of each owner
abbrev pub AllOwners : (PathBytes → Type 0) → List Owned → Type 0
AllOwners P [] = Unit {0}
AllOwners P (o ∷ os) = P o.0 × AllOwners P os

pub AllOwners-append : (P : PathBytes → Type 0) (a b : List Owned) → AllOwners P a → AllOwners P b → AllOwners P (a ++ b)
AllOwners-append P [] b h k = k
AllOwners-append P (o ∷ os) b h k = (h.0, AllOwners-append P os b h.1 k)

pub owners-owned_by : (P : PathBytes → Type 0) (p : PathBytes) (steps : List Step) → P p → AllOwners P (owned_by p steps)
unfolding owned_by
owners-owned_by P p [] h = tt
owners-owned_by P p (s ∷ ss) h = (h, owners-owned_by P p ss h)

pub owners-owned_all : (P : PathBytes → Type 0) (f : PathBytes → List Step) (paths : List PathBytes) → ((q : PathBytes) → AllOwners P (owned_by q (f q))) → AllOwners P (owned_all f paths)
unfolding owned_all
owners-owned_all P f [] h = tt
owners-owned_all P f (q ∷ qs) h = AllOwners-append P (owned_by q (f q)) (owned_all f qs) (h q) (owners-owned_all P f qs h)

owner_at : (P : PathBytes → Type 0) (before : List Owned) (o : Owned) (behind : List Owned) → AllOwners P (before ++ o ∷ behind) → P o.0
owner_at P [] o behind h = h.0
owner_at P (b ∷ bs) o behind h = owner_at P bs o behind h.1

-- where the steps of each owner alone find their files, and its region meets no other, all steps do
pub find_owned : (run : Run) (R : PathBytes → PathBytes → Type 0) (P : PathBytes → Type 0) (owned : List Owned)
    → AllOwners P owned → ((p : PathBytes) → P p → AllApart R p owned) → ((p : PathBytes) → P p → AllFind run (only p owned) run.start)
    → EachFindsFile run.known.policy (steps_of owned) run.start
find_owned run R P owned owners apart alone done step later e = go (split owned done step later e)
  where
    go : Split owned done step → FindsFile run.known.policy.compare step (after run.known.policy.window done run.start)
    go s =
        let p : PathBytes = s.own.0 in
        let holds : P p = owner_at P s.before s.own s.behind (subst (λ l. AllOwners P l) s.whole owners) in
        let parts = apart_before R p s.before s.own s.behind (subst (λ l. AllApart R p l) s.whole (apart p holds)) in
        let steps : only p owned ≡ only p s.before ++ s.own.1 ∷ only p s.behind
        = ap (λ l. only p l) s.whole ∙ only-append p s.before (s.own ∷ s.behind) ∙ ap (λ l. only p s.before ++ l) (only_own s.own s.behind) in
        let found = find_at run (only p s.before) s.own.1 (only p s.behind) run.start (subst (λ l. AllFind run l run.start) steps (alone p holds)) in
        let agree = after_only run R p s.before run.start run.start parts.0 (λ t n r. refl) in
        subst (λ l. FindsFile run.known.policy.compare step (after run.known.policy.window l run.start)) s.done_is
        (subst (λ x. FindsFile run.known.policy.compare x (after run.known.policy.window (steps_of s.before) run.start)) s.step_is
        (find_agree run (R p) s.own.1 _ _ parts.1 agree found))
