-- The steps of the plan are those of their paths, and each path's stay in its region.
use Rattle.std.proofs.Common.{◌≡◌, ◌≢◌, ℕ, zero, suc, Bool, true, false, cond, List, [], ◌∷◌, ◌++◌, take, Option, Some, None, refl, sym, ◌∙◌, ap, subst, inl, inr}
use Rattle.bisync_tree.specs.Rows.{PathBytes, is_among}
use Rattle.bisync_tree.specs.declared.steps.Given.{Given}
use Rattle.bisync_tree.specs.declared.steps.Step.{Step}
use Rattle.bisync_tree.specs.declared.sides.Side.{Side}
use Rattle.bisync_tree.specs.declared.sides.Side.TheVariants.{One, Two}
use Rattle.bisync_tree.specs.declared.entries.Entry.{Entry}
use Rattle.bisync_tree.specs.declared.classes.Rule.{Rule}
use Rattle.bisync_tree.specs.declared.classes.Rule.TheVariants.{Nothing, Copy as CopyFrom, Delete as DeleteOn, Conflict}
use Rattle.bisync_model.specs.Table.{rule_at}
use Rattle.bisync_model.proofs.ListedRun.{Run}
use Rattle.bisync_model.specs.Conflict.{is_named_loser, winner_at}
use Rattle.bisync_model.specs.Names.{name_for, loser_named}
use Rattle.bisync_model.specs.Plan.{plan, deletes_by, moves_by, copied, deleted, moved, loser_steps, winner_steps}
use Rattle.bisync_model.specs.Effects.{after}
use Rattle.bisync_model.proofs.RegionSteps.{AgreeOn, Within, Owned, AllApart, Distinct, steps_of, only, owned_by, owned_all, after_only, only-take, only-append, only-absent, only-present, steps_of-append, steps_of-owned_all, take-steps_of}
use Rattle.bisync_model.proofs.NamesInUse.{NamesOk, Region, unnamed, regions_apart}

-- each step stays in R
abbrev pub AllIn : (PathBytes → Type 0) → List Step → Type 0
AllIn R [] = Unit {0}
AllIn R (s ∷ ss) = Within R s × AllIn R ss

AllIn-append : (R : PathBytes → Type 0) (a b : List Step) → AllIn R a → AllIn R b → AllIn R (a ++ b)
AllIn-append R [] b h k = k
AllIn-append R (s ∷ ss) b h k = (h.0, AllIn-append R ss b h.1 k)

AllApart-append : (R : PathBytes → PathBytes → Type 0) (p : PathBytes) (a b : List Owned) → AllApart R p a → AllApart R p b → AllApart R p (a ++ b)
AllApart-append R p [] b h k = k
AllApart-append R p (o ∷ os) b h k = (h.0, h.1, AllApart-append R p os b h.2 k)

pub AllApart-take : (R : PathBytes → PathBytes → Type 0) (p : PathBytes) (i : ℕ) (a : List Owned) → AllApart R p a → AllApart R p (take i a)
AllApart-take R p zero a h = tt
AllApart-take R p (suc i) [] h = tt
AllApart-take R p (suc i) (o ∷ os) h = (h.0, h.1, AllApart-take R p i os h.2)

pub apart-owned_by : (R : PathBytes → PathBytes → Type 0) (p q : PathBytes) (steps : List Step) → AllIn (R q) steps → ((n : PathBytes) → R p n → R q n → p ≡ q) → AllApart R p (owned_by q steps)
unfolding owned_by
apart-owned_by R p q [] h k = tt
apart-owned_by R p q (s ∷ ss) h k = (h.0, k, apart-owned_by R p q ss h.1 k)

pub apart-owned_all : (R : PathBytes → PathBytes → Type 0) (p : PathBytes) (f : PathBytes → List Step) (paths : List PathBytes) → ((q : PathBytes) → AllApart R p (owned_by q (f q))) → AllApart R p (owned_all f paths)
unfolding owned_all
apart-owned_all R p f [] h = tt
apart-owned_all R p f (q ∷ qs) h = AllApart-append R p (owned_by q (f q)) (owned_all f qs) (h q) (apart-owned_all R p f qs h)

module _ (run : Run) (names : List Given) where
  copied_in : (from : Side) (p : PathBytes) (e : Option Entry) → AllIn (Region names p) (copied from p e)
  copied_in from p None = tt
  copied_in from p (Some e) = (inl refl, tt)

  deleted_in : (side : Side) (p : PathBytes) (e : Option Entry) → AllIn (Region names p) (deleted side p e)
  deleted_in side p None = tt
  deleted_in side p (Some e) = (inl refl, tt)

  moved_in : (side : Side) (p : PathBytes) (v : Option PathBytes) (e : Option Entry) → name_for names p side ≡ v → AllIn (Region names p) (moved side p v e)
  moved_in side p (Some name) (Some e) is = ((inl refl, inr (side, is)), (inr (side, is), tt))
  moved_in side p (Some name) None is = tt
  moved_in side p None e is = tt

  loser_in : (side : Side) (p : PathBytes) (b : Bool) → AllIn (Region names p) (cond b (moved side p (name_for names p side) (run.known.now side p)) [])
  loser_in side p true = moved_in side p (name_for names p side) (run.known.now side p) refl
  loser_in side p false = tt

  winner_in : (p : PathBytes) (w : Option Side) → AllIn (Region names p) (winner_steps run.known p w)
  winner_in p None = tt
  winner_in p (Some w) = copied_in w p (run.known.now w p)

  deletes_in : (p : PathBytes) (r : Rule) → AllIn (Region names p) (deletes_by run.known p r)
  deletes_in p (DeleteOn side) = deleted_in side p (run.known.now side p)
  deletes_in p Nothing = tt
  deletes_in p (CopyFrom from) = tt
  deletes_in p Conflict = tt

  moves_in : (p : PathBytes) (r : Rule) → AllIn (Region names p) (moves_by run.known names p r)
  moves_in p (CopyFrom from) = copied_in from p (run.known.now from p)
  moves_in p Conflict =
      AllIn-append (Region names p) (loser_steps run.known names p One ++ loser_steps run.known names p Two) (winner_steps run.known p (winner_at run.known p))
      (AllIn-append (Region names p) (loser_steps run.known names p One) (loser_steps run.known names p Two) (loser_in One p (is_named_loser run.known p One)) (loser_in Two p (is_named_loser run.known p Two)))
      (winner_in p (winner_at run.known p))
  moves_in p Nothing = tt
  moves_in p (DeleteOn side) = tt

  -- the steps of one path
  abbrev pub steps_at : PathBytes → List Step
  steps_at p = deletes_by run.known p (rule_at run.known p) ++ moves_by run.known names p (rule_at run.known p)

  abbrev pub owned : List PathBytes → List Owned
  owned paths = owned_all (λ p. deletes_by run.known p (rule_at run.known p)) paths ++ owned_all (λ p. moves_by run.known names p (rule_at run.known p)) paths

  pub plan-owned : (paths : List PathBytes) → steps_of (owned paths) ≡ plan run.known names paths
  plan-owned paths =
      steps_of-append (owned_all (λ p. deletes_by run.known p (rule_at run.known p)) paths) (owned_all (λ p. moves_by run.known names p (rule_at run.known p)) paths)
      ∙ (λ i. steps_of-owned_all (λ p. deletes_by run.known p (rule_at run.known p)) paths i ++ steps_of-owned_all (λ p. moves_by run.known names p (rule_at run.known p)) paths i)

  some_rule : (r : Rule) → r ≢ Nothing → (q : PathBytes) → rule_at run.known q ≡ r → rule_at run.known q ≢ Nothing
  some_rule r ne q e is = ne (sym e ∙ is)

  module _ (ok : NamesOk run names) (p : PathBytes) (plain : loser_named names p ≡ None) where
    met : (q : PathBytes) → rule_at run.known q ≢ Nothing → (n : PathBytes) → Region names p n → Region names q n → p ≡ q
    met q some n = regions_apart run names ok p q plain (unnamed run names ok q some) n

    deletes_apart : (q : PathBytes) (r : Rule) → rule_at run.known q ≡ r → AllApart (Region names) p (owned_by q (deletes_by run.known q r))
    unfolding owned_by
    deletes_apart q Nothing e = tt
    deletes_apart q (CopyFrom from) e = tt
    deletes_apart q Conflict e = tt
    deletes_apart q (DeleteOn side) e =
        apart-owned_by (Region names) p q (deletes_by run.known q (DeleteOn side)) (deletes_in q (DeleteOn side)) (met q (some_rule (DeleteOn side) (λ x. cc) q e))

    moves_apart : (q : PathBytes) (r : Rule) → rule_at run.known q ≡ r → AllApart (Region names) p (owned_by q (moves_by run.known names q r))
    unfolding owned_by
    moves_apart q Nothing e = tt
    moves_apart q (DeleteOn side) e = tt
    moves_apart q (CopyFrom from) e =
        apart-owned_by (Region names) p q (moves_by run.known names q (CopyFrom from)) (moves_in q (CopyFrom from)) (met q (some_rule (CopyFrom from) (λ x. cc) q e))
    moves_apart q Conflict e =
        apart-owned_by (Region names) p q (moves_by run.known names q Conflict) (moves_in q Conflict) (met q (some_rule Conflict (λ x. cc) q e))

    pub owned_apart : (paths : List PathBytes) → AllApart (Region names) p (owned paths)
    owned_apart paths =
        AllApart-append (Region names) p (owned_all (λ q. deletes_by run.known q (rule_at run.known q)) paths) (owned_all (λ q. moves_by run.known names q (rule_at run.known q)) paths)
        (apart-owned_all (Region names) p (λ q. deletes_by run.known q (rule_at run.known q)) paths (λ q. deletes_apart q (rule_at run.known q) refl))
        (apart-owned_all (Region names) p (λ q. moves_by run.known names q (rule_at run.known q)) paths (λ q. moves_apart q (rule_at run.known q) refl))

    pub only-owned : (paths : List PathBytes) → Distinct paths → (rule_at run.known p ≢ Nothing → is_among p paths ≡ true) → only p (owned paths) ≡ steps_at p
    only-owned paths distinct covered = go (is_among p paths) refl
      where
        D : PathBytes → List Step
        D q = deletes_by run.known q (rule_at run.known q)

        M : PathBytes → List Step
        M q = moves_by run.known names q (rule_at run.known q)

        idle : (r : Rule) → rule_at run.known p ≡ r → is_among p paths ≡ false → ◌≡◌ {A = List Step} [] (deletes_by run.known p r ++ moves_by run.known names p r)
        idle Nothing e out = refl
        idle (CopyFrom from) e out = let here = covered (some_rule (CopyFrom from) (λ x. cc) p e) in cc
        idle (DeleteOn side) e out = let here = covered (some_rule (DeleteOn side) (λ x. cc) p e) in cc
        idle Conflict e out = let here = covered (some_rule Conflict (λ x. cc) p e) in cc

        go : (b : Bool) → is_among p paths ≡ b → only p (owned_all D paths ++ owned_all M paths) ≡ D p ++ M p
        go true e = only-append p (owned_all D paths) (owned_all M paths) ∙ (λ i. only-present p D paths distinct e i ++ only-present p M paths distinct e i)
        go false e =
            only-append p (owned_all D paths) (owned_all M paths) ∙ (λ i. only-absent p D paths e i ++ only-absent p M paths e i)
            ∙ idle (rule_at run.known p) refl e

    -- in the region of p the trees are those after a prefix of the steps of p alone
    pub on_path : (paths : List PathBytes) → Distinct paths → (rule_at run.known p ≢ Nothing → is_among p paths ≡ true) → (i : ℕ)
        → (j : ℕ) × AgreeOn (Region names p) (after run.known.policy.window (take i (plan run.known names paths)) run.start) (after run.known.policy.window (take j (steps_at p)) run.start)
    on_path paths distinct covered i =
        let part = only-take p (owned paths) i in (
          part.0,
          subst (λ l. AgreeOn (Region names p) (after run.known.policy.window l run.start) (after run.known.policy.window (take part.0 (steps_at p)) run.start)) (take-steps_of i (owned paths) ∙ ap (λ l. take i l) (plan-owned paths))
              (subst (λ l. AgreeOn (Region names p) (after run.known.policy.window (steps_of (take i (owned paths))) run.start) (after run.known.policy.window l run.start)) (part.1 ∙ ap (λ l. take part.0 l) (only-owned paths distinct covered))
              (after_only run (Region names) p (take i (owned paths)) run.start run.start (AllApart-take (Region names) p i (owned paths) (owned_apart paths)) (λ s n r. refl))),
        )

    pub on_path_whole : (paths : List PathBytes) → Distinct paths → (rule_at run.known p ≢ Nothing → is_among p paths ≡ true)
        → AgreeOn (Region names p) (after run.known.policy.window (plan run.known names paths) run.start) (after run.known.policy.window (steps_at p) run.start)
    on_path_whole paths distinct covered =
        subst (λ l. AgreeOn (Region names p) (after run.known.policy.window l run.start) (after run.known.policy.window (steps_at p) run.start)) (plan-owned paths)
        (subst (λ l. AgreeOn (Region names p) (after run.known.policy.window (steps_of (owned paths)) run.start) (after run.known.policy.window l run.start)) (only-owned paths distinct covered)
        (after_only run (Region names) p (owned paths) run.start run.start (owned_apart paths) (λ s n r. refl)))
