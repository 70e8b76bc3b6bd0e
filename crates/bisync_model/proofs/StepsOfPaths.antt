-- The steps and the changes of a run, and of a resync, don't depend on the paths that it goes through.
use Rattle.std.proofs.Common.{◌≡◌, ◌≢◌, Bool, true, false, cond, List, ◌++◌, Option, Some, None, refl, ap}
use Rattle.std.specs.Prelude.{is_some, sum_by}
use Rattle.bisync_tree.specs.Rows.{PathBytes, is_among}
use Rattle.bisync_tree.specs.declared.sides.Side.{Side}
use Rattle.bisync_tree.specs.declared.sides.Side.TheVariants.{One, Two}
use Rattle.bisync_tree.specs.declared.entries.Entry.{Entry}
use Rattle.bisync_tree.specs.declared.classes.Rule.{Rule}
use Rattle.bisync_tree.specs.declared.classes.Rule.TheVariants.{Nothing, Copy as CopyFrom, Delete as DeleteOn, Conflict}
use Rattle.bisync_tree.specs.declared.steps.Given.{Given}
use Rattle.bisync_model.specs.Known.{Known}
use Rattle.bisync_model.specs.Table.{rule_at}
use Rattle.bisync_model.specs.Plan.{deletes_by, moves_by, plan}
use Rattle.bisync_model.specs.Changes.{changes_by, changes_at}
use Rattle.bisync_model.specs.Resync.{source, source_at, resync_steps, resync_plan, copy_changes, resync_changes_at}
use Rattle.bisync_model.specs.Runs.{ArePaths}
use Rattle.bisync_model.proofs.KeptPaths.{HasCounted, flat_same, sum_same}
use Rattle.bisync_model.proofs.RuleFacts.{done_among}

abbrev does_something : Rule → Bool
does_something Nothing = false
does_something (CopyFrom from) = true
does_something (DeleteOn side) = true
does_something Conflict = true

does_nothing : (r : Rule) → does_something r ≡ false → r ≡ Nothing
does_nothing Nothing e = refl
does_nothing (CopyFrom from) e = cc
does_nothing (DeleteOn side) e = cc
does_nothing Conflict e = cc

isnt_nothing : (r : Rule) → does_something r ≡ true → r ≢ Nothing
isnt_nothing r e is = let no : does_something r ≡ false = ap does_something is in cc

no_source : (v : Option Side) → is_some v ≡ false → v ≡ None
no_source None e = refl
no_source (Some from) e = cc

module _ (known : Known) where
  abbrev has_rule : PathBytes → Bool
  has_rule p = does_something (rule_at known p)

  ruled : (paths : List PathBytes) → ArePaths known paths → HasCounted has_rule paths
  ruled paths are = record { rising = are.rising; all = λ p e. done_among known paths are p (isnt_nothing (rule_at known p) e) }

  pub plan_determined : (names : List Given) (paths others : List PathBytes) → ArePaths known paths → ArePaths known others
      → plan known names paths ≡ plan known names others
  plan_determined names paths others are also =
      λ i. flat_same has_rule paths others (ruled paths are) (ruled others also) (λ p. deletes_by known p (rule_at known p))
      (λ p e. ap (λ r. deletes_by known p r) (does_nothing (rule_at known p) e)) i
      ++ flat_same has_rule paths others (ruled paths are) (ruled others also) (λ p. moves_by known names p (rule_at known p))
      (λ p e. ap (λ r. moves_by known names p r) (does_nothing (rule_at known p) e)) i

  pub changes_determined : (side : Side) (paths others : List PathBytes) → ArePaths known paths → ArePaths known others
      → sum_by (changes_at known side) paths ≡ sum_by (changes_at known side) others
  changes_determined side paths others are also =
      sum_same has_rule paths others (ruled paths are) (ruled others also) (changes_at known side)
      (λ p e. ap (λ r. changes_by known r p side) (does_nothing (rule_at known p) e))

  abbrev has_source : PathBytes → Bool
  has_source p = is_some (source_at known p)

  sourced : (paths : List PathBytes) → ArePaths known paths → HasCounted has_source paths
  sourced paths are = record { rising = are.rising; all = λ p e. by_filter p (known.policy.passes p) refl e }
    where
      by_entries : (p : PathBytes) → known.policy.passes p ≡ true → (v w : Option Entry) → known.now One p ≡ v → known.now Two p ≡ w
          → is_some (source known.policy v w) ≡ true → is_among p paths ≡ true
      by_entries p passes None None e f some = cc
      by_entries p passes (Some x) w e f some = are.covering One p x passes e
      by_entries p passes None (Some x) e f some = are.covering Two p x passes f

      by_filter : (p : PathBytes) (b : Bool) → known.policy.passes p ≡ b
          → is_some (cond b (source known.policy (known.now One p) (known.now Two p)) None) ≡ true → is_among p paths ≡ true
      by_filter p true passes some = by_entries p passes (known.now One p) (known.now Two p) refl refl some
      by_filter p false passes some = cc

  pub resync_plan_determined : (paths others : List PathBytes) → ArePaths known paths → ArePaths known others
      → resync_plan known paths ≡ resync_plan known others
  resync_plan_determined paths others are also =
      flat_same has_source paths others (sourced paths are) (sourced others also) (λ p. resync_steps known p (source_at known p))
      (λ p e. ap (λ v. resync_steps known p v) (no_source (source_at known p) e))

  pub resync_changes_determined : (side : Side) (paths others : List PathBytes) → ArePaths known paths → ArePaths known others
      → sum_by (resync_changes_at known side) paths ≡ sum_by (resync_changes_at known side) others
  resync_changes_determined side paths others are also =
      sum_same has_source paths others (sourced paths are) (sourced others also) (resync_changes_at known side)
      (λ p e. ap (λ v. copy_changes v side) (no_source (source_at known p) e))
