-- A resync: each path by itself.
use Rattle.std.proofs.Common.{◌≡◌, ◌≢◌, ◌⊎◌, ℕ, Bool, true, false, cond, List, [], take, Option, Some, None, refl, sym, ◌∙◌, ap, subst, inl, inr}
use Rattle.std.specs.Prelude.{option_map, unwrap_or, is_some}
use Rattle.bisync_tree.specs.Rows.{PathBytes, is_among}
use Rattle.bisync_tree.specs.declared.files.File.{File}
use Rattle.bisync_tree.specs.Side.{other}
use Rattle.bisync_tree.specs.Tree.{brought, entry}
use Rattle.bisync_tree.specs.Same.{same}
use Rattle.bisync_tree.specs.declared.steps.Step.{Step}
use Rattle.bisync_tree.specs.declared.steps.Step.TheVariants.{Copy}
use Rattle.bisync_tree.specs.declared.sides.Side.{Side}
use Rattle.bisync_tree.specs.declared.sides.Side.TheVariants.{One, Two}
use Rattle.bisync_tree.specs.declared.entries.Entry.{Entry}
use Rattle.bisync_model.specs.Trees.{Trees, put_at}
use Rattle.bisync_model.specs.Policy.{Policy, ComparesKeptTimes}
use Rattle.bisync_model.specs.Entries.{entries_of, SameWherePassing, AgreeWherePassing}
use Rattle.bisync_model.specs.Known.{Known}
use Rattle.bisync_model.specs.Conflict.{winner}
use Rattle.bisync_model.specs.Outcome.{carried}
use Rattle.bisync_model.specs.Plan.{copied}
use Rattle.bisync_model.specs.Effects.{effect, after}
use Rattle.bisync_model.specs.Runs.{ArePaths}
use Rattle.bisync_model.specs.Resync.{source, source_at, brought_from, resync_outcome, resync_steps, resync_plan, entry_from, resync_entry}
use Rattle.bisync_model.proofs.ListedRun.{Run}
use Rattle.bisync_model.proofs.RegionSteps.{AllApart, Distinct, only, owned_all, after_only, only-take, only-absent, only-present, steps_of-owned_all, take-steps_of}
use Rattle.bisync_model.proofs.RegionsApart.{AllIn, apart-owned_by, apart-owned_all, AllApart-take}
use Rattle.bisync_model.proofs.RuleFacts.{listed_there}
use Rattle.bisync_model.proofs.StepEffects.{Along, along-take, put_same, put_across, either_side, copy_there}
use Rattle.bisync_model.proofs.StepsOfOnePath.{carried_own, carried_away}
use Rattle.bisync_model.proofs.WholePlan.{distinct-rising}
use Rattle.bisync_model.proofs.Agreement.{carried_same}
use Rattle.bisync_model.proofs.FinalEntries.{carried_listed}

abbrev pub Alone : PathBytes → PathBytes → Type 0
Alone p n = n ≡ p

-- a source is listed
source_listed : (policy : Policy) (v w : Option Entry) (from : Side) → source policy v w ≡ Some from → ((from ≡ One → v ≢ None) × (from ≡ Two → w ≢ None))
source_listed policy None None from e = cc
source_listed policy (Some x) None from e = (λ a b. cc, λ a b. cc)
source_listed policy None (Some y) from e = (λ a b. cc, λ a b. cc)
source_listed policy (Some x) (Some y) from e = (λ a b. cc, λ a b. cc)

module _ (run : Run) where
  pub source_passes : (p : PathBytes) (from : Side) → source_at run.known p ≡ Some from → run.known.policy.passes p ≡ true
  source_passes p from e = go (run.known.policy.passes p) e
    where
      go : (b : Bool) → cond b (source run.known.policy (run.known.now One p) (run.known.now Two p)) None ≡ Some from → b ≡ true
      go true e = refl
      go false e = cc

  source_is : (p : PathBytes) (from : Side) → source_at run.known p ≡ Some from → source run.known.policy (run.known.now One p) (run.known.now Two p) ≡ Some from
  source_is p from e = ap (λ b. cond b (source run.known.policy (run.known.now One p) (run.known.now Two p)) None) (sym (source_passes p from e)) ∙ e

  pub source_there : (p : PathBytes) (from : Side) → source_at run.known p ≡ Some from → (f : File) × (run.start from p ≡ Some f)
  source_there p One e = listed_there run One p (source_passes p One e) ((source_listed run.known.policy _ _ One (source_is p One e)).0 refl)
  source_there p Two e = listed_there run Two p (source_passes p Two e) ((source_listed run.known.policy _ _ Two (source_is p Two e)).1 refl)

  Claim : PathBytes → Trees → Type 0
  Claim p T = (s : Side) → (T s p ≡ run.start s p) ⊎ (T s p ≡ resync_outcome run.known run.start s p)

  pub record Resynced (p : PathBytes) (steps : List Step) : Type 0 where
    pub along : Along run (λ T. (s : Side) → (T s p ≡ run.start s p) ⊎ (T s p ≡ resync_outcome run.known run.start s p)) steps run.start
    pub end : (s : Side) → after run.known.policy.window steps run.start s p ≡ resync_outcome run.known run.start s p

  copied_done : (p : PathBytes) (from : Side) → source_at run.known p ≡ Some from → (f : File) × (run.start from p ≡ Some f) → Resynced p (copied from p (run.known.now from p))
  copied_done p from e (f, is) =
      let v : Option File = Some (brought (run.known.policy.window (other from)) f) in
      let does : effect run.known.policy.window (Copy from p (entry run.known.policy.compare f)) run.start ≡ put_at run.start (other from) p v = copy_there run from p f run.start is in
      let end : (s : Side) → effect run.known.policy.window (Copy from p (entry run.known.policy.compare f)) run.start s p ≡ resync_outcome run.known run.start s p
      = λ s. either_side (λ s. effect run.known.policy.window (Copy from p (entry run.known.policy.compare f)) run.start s p ≡ carried run.known run.start from p s) from
      (ap (λ T. T from p) does ∙ put_across run.start from p v p ∙ sym (carried_own run from p))
      (ap (λ T. T (other from) p) does ∙ put_same run.start (other from) p v ∙ ap (λ x. option_map (brought (run.known.policy.window (other from))) x) (sym is) ∙ sym (carried_away run from p))
      s ∙ ap (λ w. brought_from run.known run.start w p s) (sym e) in
      subst (λ x. Resynced p (copied from p x)) (sym (run.listed.now from p (source_passes p from e) ∙ ap (λ x. option_map (entry run.known.policy.compare) x) is))
      (record { along = (λ s. inl refl, λ s. inr (end s)); end = end })

  done : (p : PathBytes) → Resynced p (resync_steps run.known p (source_at run.known p))
  done p = go (source_at run.known p) refl
    where
      go : (w : Option Side) → source_at run.known p ≡ w → Resynced p (resync_steps run.known p w)
      go None e = record { along = λ s. inl refl; end = λ s. ap (λ w. brought_from run.known run.start w p s) (sym e) }
      go (Some from) e = copied_done p from e (source_there p from e)

  unfoldable pub F : PathBytes → List Step
  F p = resync_steps run.known p (source_at run.known p)

  steps_in : (q : PathBytes) (w : Option Side) → AllIn (Alone q) (resync_steps run.known q w)
  steps_in q None = tt
  steps_in q (Some from) = go (run.known.now from q)
    where
      go : (v : Option Entry) → AllIn (Alone q) (copied from q v)
      go None = tt
      go (Some e) = (refl, tt)

  pub owned_apart : (p : PathBytes) (paths : List PathBytes) → AllApart Alone p (owned_all F paths)
  unfolding F
  owned_apart p paths = apart-owned_all Alone p F paths (λ q. apart-owned_by Alone p q (F q) (steps_in q (source_at run.known q)) (λ n a b. sym a ∙ b))

  pub only-owned : (p : PathBytes) (paths : List PathBytes) → Distinct paths → (source_at run.known p ≢ None → is_among p paths ≡ true) → only p (owned_all F paths) ≡ F p
  unfolding F
  only-owned p paths distinct covered = go (is_among p paths) refl
    where
      idle : (w : Option Side) → source_at run.known p ≡ w → is_among p paths ≡ false → ◌≡◌ {A = List Step} [] (resync_steps run.known p w)
      idle None e out = refl
      idle (Some from) e out = let here = covered (λ is. let c = sym e ∙ is in cc) in cc

      go : (b : Bool) → is_among p paths ≡ b → only p (owned_all F paths) ≡ resync_steps run.known p (source_at run.known p)
      go true e = only-present p F paths distinct e
      go false e = only-absent p F paths e ∙ idle (source_at run.known p) refl e

  pub covers : (paths : List PathBytes) → ArePaths run.known paths → (p : PathBytes) → source_at run.known p ≢ None → is_among p paths ≡ true
  covers paths are p ne = go (source_at run.known p) refl
    where
      pick : (s : Side) (v : Option Entry) → run.known.now s p ≡ v → run.known.policy.passes p ≡ true → v ≢ None → is_among p paths ≡ true
      pick s None is passes some = absurd (some refl)
      pick s (Some e) is passes some = are.covering s p e passes is

      go : (w : Option Side) → source_at run.known p ≡ w → is_among p paths ≡ true
      go None e = absurd (ne e)
      go (Some One) e = pick One (run.known.now One p) refl (source_passes p One e) ((source_listed run.known.policy _ _ One (source_is p One e)).0 refl)
      go (Some Two) e = pick Two (run.known.now Two p) refl (source_passes p Two e) ((source_listed run.known.policy _ _ Two (source_is p Two e)).1 refl)

  pub resync_reaches : (paths : List PathBytes) → ArePaths run.known paths → (s : Side) (p : PathBytes)
      → after run.known.policy.window (resync_plan run.known paths) run.start s p ≡ resync_outcome run.known run.start s p
  unfolding F
  resync_reaches paths are s p =
      subst (λ l. after run.known.policy.window l run.start s p ≡ resync_outcome run.known run.start s p) (steps_of-owned_all F paths)
      (after_only run Alone p (owned_all F paths) run.start run.start (owned_apart p paths) (λ s n r. refl) s p refl
      ∙ ap (λ l. after run.known.policy.window l run.start s p) (only-owned p paths (distinct-rising paths are.rising) (covers paths are p))
      ∙ (done p).end s)

  pub resync_between : (paths : List PathBytes) → ArePaths run.known paths → (i : ℕ) (s : Side) (p : PathBytes)
      → (after run.known.policy.window (take i (resync_plan run.known paths)) run.start s p ≡ run.start s p)
      ⊎ (after run.known.policy.window (take i (resync_plan run.known paths)) run.start s p ≡ resync_outcome run.known run.start s p)
  unfolding F
  resync_between paths are i s p =
      let part = only-take p (owned_all F paths) i in
      let same : after run.known.policy.window (take i (resync_plan run.known paths)) run.start s p ≡ after run.known.policy.window (take part.0 (F p)) run.start s p
      = ap (λ l. after run.known.policy.window l run.start s p) (sym (take-steps_of i (owned_all F paths) ∙ ap (λ l. take i l) (steps_of-owned_all F paths)))
      ∙ after_only run Alone p (take i (owned_all F paths)) run.start run.start (AllApart-take Alone p i (owned_all F paths) (owned_apart p paths)) (λ s n r. refl) s p refl
      ∙ ap (λ l. after run.known.policy.window l run.start s p) (part.1 ∙ ap (λ l. take part.0 l) (only-owned p paths (distinct-rising paths are.rising) (covers paths are p))) in
      subst (λ v. (v ≡ run.start s p) ⊎ (v ≡ resync_outcome run.known run.start s p)) (sym same)
      (along-take run (λ T. (s : Side) → (T s p ≡ run.start s p) ⊎ (T s p ≡ resync_outcome run.known run.start s p)) (F p) run.start (done p).along part.0 s)

-- a run whose names are those of the trees
abbrev pub resync_run : (known : Known) (start : Trees) → SameWherePassing known.policy known.now (entries_of known.policy.compare start) → Run
resync_run known start listed = record {
  known = record known { is_there = λ s p. is_some (start s p) };
  start = start;
  listed = record { now = listed; is_there = λ s p. refl };
}

pub resync_agrees : (known : Known) → ComparesKeptTimes known.policy → (p : PathBytes)
    → same known.policy.compare (resync_entry known One p) (resync_entry known Two p) ≡ true
resync_agrees known finer p = go (known.policy.passes p) refl
  where
    by : (v w : Option Entry) → known.now One p ≡ v → known.now Two p ≡ w → (x : Option Side) → source known.policy v w ≡ x
        → same known.policy.compare (entry_from known x p One) (entry_from known x p Two) ≡ true
    by v w a b (Some from) e = carried_same known finer from p
    by None None a b None e = λ i. same known.policy.compare (a i) (b i)
    by (Some x) None a b None e = cc
    by None (Some y) a b None e = cc
    by (Some x) (Some y) a b None e = (λ i. same known.policy.compare (a i) (b i)) ∙ both (same known.policy.compare (Some x) (Some y)) e
      where
        both : (c : Bool) → cond c None (Some (unwrap_or (winner known.policy.prefer known.policy.compare.window x y) One)) ≡ None → c ≡ true
        both true e = refl
        both false e = cc

    go : (b : Bool) → known.policy.passes p ≡ b
        → same known.policy.compare (cond b (entry_from known (source_at known p) p One) None) (cond b (entry_from known (source_at known p) p Two) None) ≡ true
    go false e = refl
    go true e = by (known.now One p) (known.now Two p) refl refl (source_at known p)
        (ap (λ b. cond b (source known.policy (known.now One p) (known.now Two p)) None) (sym e))

pub resync_listed : (known : Known) (start : Trees) → SameWherePassing known.policy known.now (entries_of known.policy.compare start)
    → SameWherePassing known.policy (resync_entry known) (entries_of known.policy.compare (resync_outcome known start))
resync_listed known start listed side p passes =
    ap (λ b. cond b (entry_from known (source_at known p) p side) None) passes ∙ go (source_at known p)
  where
    go : (w : Option Side) → entry_from known w p side ≡ option_map (entry known.policy.compare) (brought_from known start w p side)
    go None = listed side p passes
    go (Some from) = carried_listed (resync_run known start listed) from p side passes

pub resync_trees_agree : (known : Known) (start : Trees) → SameWherePassing known.policy known.now (entries_of known.policy.compare start)
    → ComparesKeptTimes known.policy → AgreeWherePassing known.policy (entries_of known.policy.compare (resync_outcome known start))
resync_trees_agree known start listed finer p passes =
    (λ i. same known.policy.compare (sym (resync_listed known start listed One p passes) i) (sym (resync_listed known start listed Two p passes) i))
    ∙ resync_agrees known finer p
