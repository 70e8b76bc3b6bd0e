-- Final listings agree where the base listings do.
use Rattle.std.proofs.Common.{◌≡◌, Bool, true, false, cond, List, Option, Some, None, refl, sym, ◌∙◌, ap}
use Rattle.std.specs.Prelude.{option_map}
use Rattle.bisync_tree.specs.Rows.{PathBytes}
use Rattle.bisync_tree.specs.Same.{same, class}
use Rattle.bisync_tree.specs.declared.steps.Given.{Given}
use Rattle.bisync_tree.specs.declared.sides.Side.{Side}
use Rattle.bisync_tree.specs.declared.sides.Side.TheVariants.{One, Two}
use Rattle.bisync_tree.specs.declared.entries.Compare.{Compare}
use Rattle.bisync_tree.specs.declared.entries.Entry.{Entry}
use Rattle.bisync_tree.specs.declared.classes.Class.{Class}
use Rattle.bisync_tree.specs.declared.classes.Class.TheVariants.{Quiet, Fresh, Gone}
use Rattle.bisync_tree.specs.declared.classes.Rule.{Rule}
use Rattle.bisync_tree.specs.declared.classes.Rule.TheVariants.{Nothing, Copy as CopyFrom, Delete as DeleteOn, Conflict}
use Rattle.bisync_tree.proofs.WindowLemmas.{brought_keeps}
use Rattle.bisync_tree.proofs.SameLemmas.{equal_to, same_sym, same_trans}
use Rattle.bisync_model.specs.Policy.{ComparesKeptTimes}
use Rattle.bisync_model.specs.Known.{Known}
use Rattle.bisync_model.specs.Table.{class_now, table, rule_at}
use Rattle.bisync_model.specs.Conflict.{winner_at}
use Rattle.bisync_model.specs.Names.{loser_named}
use Rattle.bisync_model.specs.Finals.{brought_entry, carried_entry, settled_entry, entry_by_rule, entry_by_name, final_entry}
use Rattle.bisync_model.proofs.RuleFacts.{gone_unlisted}

quiet_same : (c : Compare) (base now : Option Entry) → class c base now ≡ Quiet → same c base now ≡ true
quiet_same c base None e = go (same c base None) e
  where
    go : (b : Bool) → cond b Quiet Gone ≡ Quiet → b ≡ true
    go true e = refl
    go false e = cc
quiet_same c base (Some n) e = go (same c base (Some n)) e
  where
    go : (b : Bool) → cond b Quiet Fresh ≡ Quiet → b ≡ true
    go true e = refl
    go false e = cc

module _ (known : Known) (finer : ComparesKeptTimes known.policy) where
  brought_same : (s : Side) (v : Option Entry) → same known.policy.compare v (option_map (brought_entry (known.policy.window s)) v) ≡ true
  brought_same s None = refl
  brought_same s (Some e) = equal_to known.policy.compare e (brought_entry (known.policy.window s) e)
      (record { size = λ t. refl; time = λ t. sym (brought_keeps (known.policy.window s) known.policy.compare.window e.time (finer s)); hash = λ t. refl })

  pub carried_same : (from : Side) (p : PathBytes) → same known.policy.compare (carried_entry known from p One) (carried_entry known from p Two) ≡ true
  carried_same One p = brought_same Two (known.now One p)
  carried_same Two p = same_sym known.policy.compare (known.now Two p) (option_map (brought_entry (known.policy.window One)) (known.now Two p)) (brought_same One (known.now Two p))

  -- where nothing is done, the two sides agree already
  nothing_same : (p : PathBytes) → known.policy.passes p ≡ true → same known.policy.compare (known.base One p) (known.base Two p) ≡ true → rule_at known p ≡ Nothing
      → same known.policy.compare (known.now One p) (known.now Two p) ≡ true
  nothing_same p passes base e = by (class_now known One p) (class_now known Two p) refl refl (ap (λ b. cond b t Nothing) (sym passes) ∙ e)
    where
      c : Compare
      c = known.policy.compare

      t : Rule
      t = table known.policy.compare (class_now known One p) (class_now known Two p) (known.now One p) (known.now Two p)

      both_none : known.now One p ≡ None → known.now Two p ≡ None → same known.policy.compare (known.now One p) (known.now Two p) ≡ true
      both_none a b = λ i. same known.policy.compare (a i) (b i)

      by : (k1 k2 : Class) → class_now known One p ≡ k1 → class_now known Two p ≡ k2 → t ≡ Nothing → same known.policy.compare (known.now One p) (known.now Two p) ≡ true
      by Quiet Quiet a b e =
          same_trans known.policy.compare (known.now One p) (known.base One p) (known.now Two p)
          (same_sym known.policy.compare (known.base One p) (known.now One p) (quiet_same known.policy.compare (known.base One p) (known.now One p) a))
          (same_trans known.policy.compare (known.base One p) (known.base Two p) (known.now Two p) base (quiet_same known.policy.compare (known.base Two p) (known.now Two p) b))
      by Gone Gone a b e = both_none (gone_unlisted known One p a) (gone_unlisted known Two p b)
      by Fresh Fresh a b e = go (same known.policy.compare (known.now One p) (known.now Two p)) (sym (λ i. table known.policy.compare (a i) (b i) (known.now One p) (known.now Two p)) ∙ e)
        where
          go : (b : Bool) → cond b Nothing Conflict ≡ Nothing → b ≡ true
          go true e = refl
          go false e = cc
      by Gone Quiet a b e = both_none (gone_unlisted known One p a) (go (known.now Two p) (sym (λ i. table known.policy.compare (a i) (b i) (known.now One p) (known.now Two p)) ∙ e))
        where
          go : (v : Option Entry) → table known.policy.compare Gone Quiet (known.now One p) v ≡ Nothing → v ≡ None
          go None e = refl
          go (Some n) e = cc
      by Quiet Gone a b e = both_none (go (known.now One p) (sym (λ i. table known.policy.compare (a i) (b i) (known.now One p) (known.now Two p)) ∙ e)) (gone_unlisted known Two p b)
        where
          go : (v : Option Entry) → table known.policy.compare Quiet Gone v (known.now Two p) ≡ Nothing → v ≡ None
          go None e = refl
          go (Some n) e = cc
      by Fresh Quiet a b e = let w = sym (λ i. table known.policy.compare (a i) (b i) (known.now One p) (known.now Two p)) ∙ e in cc
      by Fresh Gone a b e = let w = sym (λ i. table known.policy.compare (a i) (b i) (known.now One p) (known.now Two p)) ∙ e in cc
      by Quiet Fresh a b e = let w = sym (λ i. table known.policy.compare (a i) (b i) (known.now One p) (known.now Two p)) ∙ e in cc
      by Gone Fresh a b e = let w = sym (λ i. table known.policy.compare (a i) (b i) (known.now One p) (known.now Two p)) ∙ e in cc

  pub finals_agree : (names : List Given) (p : PathBytes) → (known.policy.passes p ≡ true → same known.policy.compare (known.base One p) (known.base Two p) ≡ true)
      → same known.policy.compare (final_entry known names One p) (final_entry known names Two p) ≡ true
  finals_agree names p base = go (known.policy.passes p) refl
    where
      by_rule : (r : Rule) → rule_at known p ≡ r → known.policy.passes p ≡ true → same known.policy.compare (entry_by_rule known r p One) (entry_by_rule known r p Two) ≡ true
      by_rule Nothing e passes = nothing_same p passes (base passes) e
      by_rule (CopyFrom from) e passes = carried_same from p
      by_rule (DeleteOn on) e passes = refl
      by_rule Conflict e passes = settled (winner_at known p)
        where
          settled : (w : Option Side) → same known.policy.compare (settled_entry known w p One) (settled_entry known w p Two) ≡ true
          settled None = refl
          settled (Some w) = carried_same w p

      by_name : (v : Option Given) → known.policy.passes p ≡ true → same known.policy.compare (entry_by_name known v p One) (entry_by_name known v p Two) ≡ true
      by_name None passes = by_rule (rule_at known p) refl passes
      by_name (Some g) passes = carried_same g.side g.path

      go : (b : Bool) → known.policy.passes p ≡ b
          → same known.policy.compare (cond b (entry_by_name known (loser_named names p) p One) None) (cond b (entry_by_name known (loser_named names p) p Two) None) ≡ true
      go true passes = by_name (loser_named names p) passes
      go false passes = refl
