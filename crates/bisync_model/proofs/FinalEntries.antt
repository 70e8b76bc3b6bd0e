-- The final listings have the entries of the outcome.
use Rattle.std.proofs.Common.{◌≡◌, Bool, true, false, cond, List, Option, Some, None, refl, ◌∙◌, ap}
use Rattle.std.specs.Prelude.{option_map}
use Rattle.bisync_tree.specs.Rows.{PathBytes}
use Rattle.bisync_tree.specs.declared.files.File.{File}
use Rattle.bisync_tree.specs.Side.{is_side}
use Rattle.bisync_tree.specs.Tree.{brought, entry}
use Rattle.bisync_tree.specs.declared.steps.Given.{Given}
use Rattle.bisync_tree.specs.declared.sides.Side.{Side}
use Rattle.bisync_tree.specs.declared.entries.Entry.{Entry}
use Rattle.bisync_tree.specs.declared.classes.Rule.{Rule}
use Rattle.bisync_tree.specs.declared.classes.Rule.TheVariants.{Nothing, Copy as CopyFrom, Delete as DeleteOn, Conflict}
use Rattle.bisync_model.specs.Table.{rule_at}
use Rattle.bisync_model.specs.Conflict.{winner_at}
use Rattle.bisync_model.specs.Names.{loser_named}
use Rattle.bisync_model.specs.Outcome.{carried, settled, by_rule, by_name, outcome}
use Rattle.bisync_model.specs.Finals.{brought_entry, carried_entry, settled_entry, entry_by_rule, entry_by_name, final_entry}
use Rattle.bisync_model.proofs.ListedRun.{Run}
use Rattle.bisync_model.proofs.NamesInUse.{NamesOk}
use Rattle.bisync_model.proofs.RuleFacts.{done_passes, loser_rule}

module _ (run : Run) where
  abbrev pub listing : Option File → Option Entry
  listing v = option_map (entry run.known.policy.compare) v

  pub carried_listed : (from : Side) (p : PathBytes) (side : Side) → run.known.policy.passes p ≡ true → carried_entry run.known from p side ≡ listing (carried run.known run.start from p side)
  carried_listed from p side passes = (λ i. cond (is_side from side) (here i) (option_map (brought_entry (run.known.policy.window side)) (here i))) ∙ go (is_side from side) (run.start from p)
    where
      here : run.known.now from p ≡ option_map (entry run.known.policy.compare) (run.start from p)
      here = run.listed.now from p passes

      go : (b : Bool) (v : Option File) → cond b (option_map (entry run.known.policy.compare) v) (option_map (brought_entry (run.known.policy.window side)) (option_map (entry run.known.policy.compare) v))
          ≡ option_map (entry run.known.policy.compare) (cond b v (option_map (brought (run.known.policy.window side)) v))
      go true v = refl
      go false None = refl
      go false (Some f) = refl

  rule_listed : (r : Rule) (p : PathBytes) (side : Side) → run.known.policy.passes p ≡ true → entry_by_rule run.known r p side ≡ listing (by_rule run.known run.start r p side)
  rule_listed Nothing p side passes = run.listed.now side p passes
  rule_listed (CopyFrom from) p side passes = carried_listed from p side passes
  rule_listed (DeleteOn on) p side passes = refl
  rule_listed Conflict p side passes = go (winner_at run.known p)
    where
      go : (w : Option Side) → settled_entry run.known w p side ≡ option_map (entry run.known.policy.compare) (settled run.known run.start w p side)
      go None = refl
      go (Some w) = carried_listed w p side passes

  pub final_listed : (names : List Given) → NamesOk run names → (side : Side) (n : PathBytes) → run.known.policy.passes n ≡ true
      → final_entry run.known names side n ≡ option_map (entry run.known.policy.compare) (outcome run.known run.start names side n)
  final_listed names ok side n passes = ap (λ b. cond b (entry_by_name run.known (loser_named names n) n side) None) passes ∙ go (loser_named names n) refl
    where
      go : (v : Option Given) → loser_named names n ≡ v → entry_by_name run.known v n side ≡ option_map (entry run.known.policy.compare) (by_name run.known run.start v n side)
      go None e = rule_listed (rule_at run.known n) n side passes
      go (Some g) e = carried_listed g.side g.path side (done_passes run g.path (rule_at run.known g.path) refl (loser_rule run.known g.path g.side (ok.lost g n e)))
