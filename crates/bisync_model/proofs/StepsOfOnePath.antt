-- The steps of one path alone, from the start: where each prefix leaves the path and its names, and where they all do.
use Rattle.std.proofs.Common.{◌≡◌, ◌≢◌, ◌⊎◌, true, List, [], ◌∷◌, Option, Some, None, refl, sym, ◌∙◌, ap, subst, inl, inr}
use Rattle.std.specs.Prelude.{option_map}
use Rattle.bisync_tree.specs.Rows.{PathBytes}
use Rattle.bisync_tree.specs.declared.files.File.{File}
use Rattle.bisync_tree.specs.Side.{other}
use Rattle.bisync_tree.specs.Tree.{brought, entry}
use Rattle.bisync_tree.specs.declared.steps.Given.{Given}
use Rattle.bisync_tree.specs.declared.steps.Step.{Step}
use Rattle.bisync_tree.specs.declared.steps.Step.TheVariants.{Copy, Delete}
use Rattle.bisync_tree.specs.declared.sides.Side.{Side}
use Rattle.bisync_tree.specs.declared.sides.Side.TheVariants.{One, Two}
use Rattle.bisync_tree.specs.declared.classes.Rule.{Rule}
use Rattle.bisync_tree.specs.declared.classes.Rule.TheVariants.{Nothing, Copy as CopyFrom, Delete as DeleteOn, Conflict}
use Rattle.bisync_model.specs.Trees.{Trees, put_at}
use Rattle.bisync_model.specs.Table.{rule_at}
use Rattle.bisync_model.proofs.ListedRun.{Run, is_named}
use Rattle.bisync_model.specs.Conflict.{winner_at, is_named_loser}
use Rattle.bisync_model.specs.Names.{name_for}
use Rattle.bisync_model.specs.Outcome.{carried, by_rule}
use Rattle.bisync_model.specs.Plan.{copied, deleted}
use Rattle.bisync_model.specs.Effects.{effect, after}
use Rattle.bisync_model.specs.Between.{IsMovedAway}
use Rattle.bisync_model.proofs.NamesInUse.{NamesOk}
use Rattle.bisync_model.proofs.RuleFacts.{copied_there, deleted_absent, listed_as}
use Rattle.bisync_model.proofs.StepEffects.{Along, put_same, put_away, put_across, either_side, copy_there}

-- a side has at the path what it had, or what the rule leaves, or its loser was moved away
abbrev pub AtPath : Run → PathBytes → Trees → Side → Type 0
AtPath run p T s = (T s p ≡ run.start s p) ⊎ (T s p ≡ by_rule run.known run.start (rule_at run.known p) p s) ⊎ IsMovedAway run.known T s p

-- a side has at the name n of the loser l of p what it had, or the loser's file
abbrev pub AtName : Run → PathBytes → Trees → Side → PathBytes → Side → Type 0
AtName run p T l n s = (T s n ≡ run.start s n) ⊎ (T s n ≡ carried run.known run.start l p s)

-- the loser l of p is in its place, or under its name n
abbrev pub NotLost : Run → PathBytes → Trees → Side → PathBytes → Type 0
NotLost run p T l n = (T l p ≡ run.start l p) ⊎ (T l n ≡ run.start l p)

pub record Progress (run : Run) (names : List Given) (p : PathBytes) (T : Trees) : Type 0 where
  pub here : (s : Side) → AtPath run p T s
  pub named : (l : Side) (n : PathBytes) → name_for names p l ≡ Some n → (s : Side) → AtName run p T l n s
  pub lost : (l : Side) (n : PathBytes) → is_named_loser run.known p l ≡ true → name_for names p l ≡ Some n → NotLost run p T l n

pub record Finished (run : Run) (names : List Given) (p : PathBytes) (T : Trees) : Type 0 where
  pub here : (s : Side) → T s p ≡ by_rule run.known run.start (rule_at run.known p) p s
  pub named : (l : Side) (n : PathBytes) → name_for names p l ≡ Some n → (s : Side) → T s n ≡ carried run.known run.start l p s

-- each prefix of the steps, and all of them
pub record Done (run : Run) (names : List Given) (p : PathBytes) (steps : List Step) : Type 0 where
  pub along : Along run (Progress run names p) steps run.start
  pub end : Finished run names p (after run.known.policy.window steps run.start)

pub carried_own : (run : Run) (s : Side) (p : PathBytes) → carried run.known run.start s p s ≡ run.start s p
carried_own run One p = refl
carried_own run Two p = refl

pub carried_away : (run : Run) (s : Side) (p : PathBytes) → carried run.known run.start s p (other s) ≡ option_map (brought (run.known.policy.window (other s))) (run.start s p)
carried_away run One p = refl
carried_away run Two p = refl

pub carried_across : (run : Run) (s : Side) (p : PathBytes) → carried run.known run.start (other s) p s ≡ option_map (brought (run.known.policy.window s)) (run.start (other s) p)
carried_across run One p = refl
carried_across run Two p = refl

-- with no steps
pub still : (run : Run) (names : List Given) (p : PathBytes) → Progress run names p run.start
still run names p = record { here = λ s. inl refl; named = λ l n e s. inl refl; lost = λ l n b e. inl refl }

module _ (run : Run) (names : List Given) (ok : NamesOk run names) (p : PathBytes) where
  pub lost_if_named : (l : Side) (n : PathBytes) → name_for names p l ≡ Some n → is_named_loser run.known p l ≡ true
  lost_if_named l n e = ok.lost (record { path = p; side = l; name = n }) n (ok.to_loser p l n e)

  -- outside a conflict there are no names
  no_name : (r : Rule) → rule_at run.known p ≡ r → r ≢ Conflict → (l : Side) (n : PathBytes) → name_for names p l ≡ Some n → ⊥
  no_name r e ne l n named = go r (sym e ∙ refl) ne (subst (λ r. is_named r run.known.policy.loser (winner_at run.known p) l ≡ true) e (lost_if_named l n named))
    where
      go : (r : Rule) → r ≡ rule_at run.known p → r ≢ Conflict → is_named r run.known.policy.loser (winner_at run.known p) l ≡ true → ⊥
      go Nothing e ne t = cc
      go (CopyFrom from) e ne t = cc
      go (DeleteOn side) e ne t = cc
      go Conflict e ne t = ne refl

  -- one step that leaves what the rule says at the path
  pub one_step : (r : Rule) → rule_at run.known p ≡ r → ((l : Side) (n : PathBytes) → name_for names p l ≡ Some n → ⊥) → (step : Step) → ((s : Side) → effect run.known.policy.window step run.start s p ≡ by_rule run.known run.start r p s)
      → Done run names p (step ∷ [])
  one_step r e none step does =
      let here : (s : Side) → effect run.known.policy.window step run.start s p ≡ by_rule run.known run.start (rule_at run.known p) p s = λ s. does s ∙ ap (λ r. by_rule run.known run.start r p s) (sym e) in
      record {
        along = (
          still run names p,
          record {
            here = λ s. inr (inl (here s));
            named = λ l n named s. absurd (none l n named);
            lost = λ l n b named. absurd (none l n named);
          },
        );
        end = record { here = here; named = λ l n named s. absurd (none l n named) };
      }

  pub nothing_done : rule_at run.known p ≡ Nothing → Done run names p []
  nothing_done e = record {
    along = still run names p;
    end = record { here = λ s. ap (λ r. by_rule run.known run.start r p s) (sym e); named = λ l n named s. absurd (no_name Nothing e (λ x. cc) l n named) };
  }

  pub copy_done : (from : Side) → rule_at run.known p ≡ CopyFrom from → Done run names p (copied from p (run.known.now from p))
  copy_done from e = go (copied_there run p from e)
    where
      go : (f : File) × (run.start from p ≡ Some f) → Done run names p (copied from p (run.known.now from p))
      go (f, is) =
          let v : Option File = Some (brought (run.known.policy.window (other from)) f) in
          let does : effect run.known.policy.window (Copy from p (entry run.known.policy.compare f)) run.start ≡ put_at run.start (other from) p v = copy_there run from p f run.start is in
          subst (λ x. Done run names p (copied from p x)) (sym (listed_as run p (CopyFrom from) e (λ x. cc) from (Some f) is))
          (one_step (CopyFrom from) e (no_name (CopyFrom from) e (λ x. cc)) (Copy from p (entry run.known.policy.compare f))
          (either_side (λ s. effect run.known.policy.window (Copy from p (entry run.known.policy.compare f)) run.start s p ≡ carried run.known run.start from p s) from
          (ap (λ T. T from p) does ∙ put_across run.start from p v p ∙ sym (carried_own run from p))
          (ap (λ T. T (other from) p) does ∙ put_same run.start (other from) p v ∙ ap (λ x. option_map (brought (run.known.policy.window (other from))) x) (sym is) ∙ sym (carried_away run from p))))

  pub delete_done : (side : Side) → rule_at run.known p ≡ DeleteOn side → (v : Option File) → run.start side p ≡ v → Done run names p (deleted side p (run.known.now side p))
  delete_done side e (Some f) is =
      subst (λ x. Done run names p (deleted side p x)) (sym (listed_as run p (DeleteOn side) e (λ x. cc) side (Some f) is))
      (one_step (DeleteOn side) e (no_name (DeleteOn side) e (λ x. cc)) (Delete side p (entry run.known.policy.compare f))
      (either_side (λ s. put_at run.start side p None s p ≡ None) side
      (put_same run.start side p None)
      (put_away run.start side p None p ∙ deleted_absent run p side e)))
  delete_done side e None is = subst (λ x. Done run names p (deleted side p x)) (sym (listed_as run p (DeleteOn side) e (λ x. cc) side None is)) (record {
    along = still run names p;
    end = record {
      here = λ s. either_side (λ s. run.start s p ≡ None) side is (deleted_absent run p side e) s ∙ ap (λ r. by_rule run.known run.start r p s) (sym e);
      named = λ l n named s. absurd (no_name (DeleteOn side) e (λ x. cc) l n named);
    };
  })
