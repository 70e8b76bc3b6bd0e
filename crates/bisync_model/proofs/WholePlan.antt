-- The whole plan: each prefix leaves the trees between start and outcome, and all steps leave the outcome.
use Rattle.std.proofs.Common.{◌≡◌, ◌≢◌, ◌⊎◌, ℕ, true, List, [], ◌∷◌, ◌++◌, take, Option, Some, None, refl, sym, ◌∙◌, ap, subst, inl, inr}
use Rattle.bisync_tree.specs.Rows.{PathBytes, is_among, AreRising}
use Rattle.bisync_tree.proofs.RisingLemmas.{absent_below}
use Rattle.bisync_tree.specs.declared.steps.Given.{Given}
use Rattle.bisync_tree.specs.declared.sides.Side.{Side}
use Rattle.bisync_tree.specs.declared.classes.Rule.{Rule}
use Rattle.bisync_tree.specs.declared.classes.Rule.TheVariants.{Nothing, Copy as CopyFrom, Delete as DeleteOn, Conflict}
use Rattle.bisync_model.specs.Trees.{Trees}
use Rattle.bisync_model.specs.Table.{rule_at}
use Rattle.bisync_model.proofs.ListedRun.{Run}
use Rattle.bisync_model.specs.Conflict.{is_named_loser}
use Rattle.bisync_model.specs.Names.{name_for, loser_named, AreNames}
use Rattle.bisync_model.specs.Outcome.{carried, by_name, outcome}
use Rattle.bisync_model.specs.Plan.{plan, deletes_by, moves_by}
use Rattle.bisync_model.specs.Effects.{after}
use Rattle.bisync_model.specs.Between.{IsMovedAway, IsBetween}
use Rattle.bisync_model.specs.Runs.{ArePaths}
use Rattle.bisync_model.proofs.RuleFacts.{loser_rule, done_among}
use Rattle.bisync_model.proofs.NamesOfLosers.{names_ok}
use Rattle.bisync_model.proofs.RegionSteps.{AgreeOn, Distinct}
use Rattle.bisync_model.proofs.NamesInUse.{NamesOk, unnamed, Region}
use Rattle.bisync_model.proofs.RegionsApart.{steps_at, on_path, on_path_whole}
use Rattle.bisync_model.proofs.StepEffects.{along-take}
use Rattle.bisync_model.proofs.StepsOfOnePath.{AtPath, AtName, NotLost, Progress, Done, nothing_done, copy_done, delete_done}
use Rattle.bisync_model.proofs.StepsOfOneConflict.{conflict_done}

module _ (run : Run) (names : List Given) (ok : NamesOk run names) where
  path_done : (p : PathBytes) → loser_named names p ≡ None → Done run names p (steps_at run names p)
  path_done p plain = go (rule_at run.known p) refl
    where
      go : (r : Rule) → rule_at run.known p ≡ r → Done run names p (deletes_by run.known p r ++ moves_by run.known names p r)
      go Nothing e = nothing_done run names ok p e
      go (CopyFrom from) e = copy_done run names ok p from e
      go Conflict e = conflict_done run names ok p plain e
      go (DeleteOn side) e = subst (λ l. Done run names p l) (sym (nil_after (deletes_by run.known p (DeleteOn side)))) (delete_done run names ok p side e (run.start side p) refl)
        where
          nil_after : {A : Type 0} (l : List A) → l ++ [] ≡ l
          nil_after [] = refl
          nil_after (x ∷ xs) = ap (λ r. x ∷ r) (nil_after xs)

  -- a loser's path is no given name
  loser_plain : (p : PathBytes) (s : Side) → is_named_loser run.known p s ≡ true → loser_named names p ≡ None
  loser_plain p s lost = unnamed run names ok p (loser_rule run.known p s lost)

  module _ (paths : List PathBytes) (distinct : Distinct paths) (covered : (p : PathBytes) → rule_at run.known p ≢ Nothing → is_among p paths ≡ true) where
    progress_at : (p : PathBytes) → loser_named names p ≡ None → (i : ℕ)
        → (T : Trees) × Progress run names p T × AgreeOn (Region names p) (after run.known.policy.window (take i (plan run.known names paths)) run.start) T
    progress_at p plain i =
        let part = on_path run names ok p plain paths distinct (covered p) i in
        (after run.known.policy.window (take part.0 (steps_at run names p)) run.start, along-take run (Progress run names p) (steps_at run names p) run.start (path_done p plain).along part.0, part.1)

    pub between : (i : ℕ) → IsBetween run.known run.start names (after run.known.policy.window (take i (plan run.known names paths)) run.start)
    between i = record { files = λ s n. by_loser s n (loser_named names n) refl; losers = losers }
      where
        U : Trees
        U = after run.known.policy.window (take i (plan run.known names paths)) run.start

        by_loser : (s : Side) (n : PathBytes) (v : Option Given) → loser_named names n ≡ v → (U s n ≡ run.start s n) ⊎ (U s n ≡ by_name run.known run.start v n s) ⊎ IsMovedAway run.known U s n
        by_loser s n None plain = go (progress_at n plain i)
          where
            go : (T : Trees) × Progress run names n T × AgreeOn (Region names n) U T → AtPath run n U s
            go (T, progress, agree) = pick (progress.here s)
              where
                pick : AtPath run n T s → AtPath run n U s
                pick (inl x) = inl (agree s n (inl refl) ∙ x)
                pick (inr (inl x)) = inr (inl (agree s n (inl refl) ∙ x))
                pick (inr (inr m)) = inr (inr (record { lost = m.lost; won = m.won; empty = agree s n (inl refl) ∙ m.empty }))
        by_loser s n (Some g) given = go (progress_at g.path (loser_plain g.path g.side (ok.lost g n given)) i)
          where
            go : (T : Trees) × Progress run names g.path T × AgreeOn (Region names g.path) U T → (U s n ≡ run.start s n) ⊎ (U s n ≡ carried run.known run.start g.side g.path s) ⊎ IsMovedAway run.known U s n
            go (T, progress, agree) = pick (progress.named g.side n (ok.to_name g n given) s)
              where
                pick : AtName run g.path T g.side n s → (U s n ≡ run.start s n) ⊎ (U s n ≡ carried run.known run.start g.side g.path s) ⊎ IsMovedAway run.known U s n
                pick (inl x) = inl (agree s n (inr (g.side, ok.to_name g n given)) ∙ x)
                pick (inr x) = inr (inl (agree s n (inr (g.side, ok.to_name g n given)) ∙ x))

        losers : (s : Side) (p name : PathBytes) → is_named_loser run.known p s ≡ true → name_for names p s ≡ Some name → NotLost run p U s name
        losers s p name lost named = go (progress_at p (loser_plain p s lost) i)
          where
            go : (T : Trees) × Progress run names p T × AgreeOn (Region names p) U T → NotLost run p U s name
            go (T, progress, agree) = pick (progress.lost s name lost named)
              where
                pick : NotLost run p T s name → NotLost run p U s name
                pick (inl x) = inl (agree s p (inl refl) ∙ x)
                pick (inr x) = inr (agree s name (inr (s, named)) ∙ x)

    pub reaches : (s : Side) (n : PathBytes) → after run.known.policy.window (plan run.known names paths) run.start s n ≡ outcome run.known run.start names s n
    reaches s n = by_loser (loser_named names n) refl
      where
        U : Trees
        U = after run.known.policy.window (plan run.known names paths) run.start

        by_loser : (v : Option Given) → loser_named names n ≡ v → U s n ≡ by_name run.known run.start v n s
        by_loser None plain = on_path_whole run names ok n plain paths distinct (covered n) s n (inl refl) ∙ (path_done n plain).end.here s
        by_loser (Some g) given =
            let plain = loser_plain g.path g.side (ok.lost g n given) in
            on_path_whole run names ok g.path plain paths distinct (covered g.path) s n (inr (g.side, ok.to_name g n given))
            ∙ (path_done g.path plain).end.named g.side n (ok.to_name g n given) s

-- what the laws say of the paths
pub distinct-rising : (paths : List PathBytes) → AreRising paths → Distinct paths
distinct-rising [] h = tt
distinct-rising (p ∷ ps) h = (absent_below p ps h.0, distinct-rising ps h.1)

pub covered_by : (run : Run) (paths : List PathBytes) → ArePaths run.known paths → (p : PathBytes) → rule_at run.known p ≢ Nothing → is_among p paths ≡ true
covered_by run paths are = done_among run.known paths are

pub given_ok : (run : Run) (paths : List PathBytes) (names : List Given) → ArePaths run.known paths → AreNames run.known paths names → NamesOk run names
given_ok run paths names are given = names_ok run paths names (distinct-rising paths are.rising) (covered_by run paths are) given
