use Rattle.std.proofs.Common.{◌≡◌, ◌<◌, ◌++◌, ◌∷◌, [], Bor, List, true, length, arith, sym, ◌∙◌, ap, subst}
use Rattle.bisync_filter.specs.Passing.{rules_pass}
use Rattle.bisync_filter.specs.declared.rule_lists.Rule.{Rule}
use Rattle.bisync_tree.specs.Rows.{Rows, keys, IsAboveLast}
use Rattle.bisync_observe.proofs.NarrowLemmas.{passing_one, passing_none, passing_above}
use Rattle.bisync_observe.proofs.narrowing.narrow.Goals.{then-passes+in_ok-copy+in_ok-push, else-passes}
use Rattle.bisync_observe.proofs.narrowing.narrow.Goals as goal

pub push-requires : goal.push-requires
push-requires c =
    let i = c.loop-i.invariant in
    let less : c.loop-i.i < length c.args.listing.now = omega (arith, c.loop-i-test.true, c.len-i-end.ensures.count) in
    let passes : rules_pass c.args.rules.now c.path_at-path.result.now ≡ true = subst (λ rules. rules_pass rules c.path_at-path.result.now ≡ true) i.0 (sym c.passes.ensures.test ∙ c.if-passes.true) in
    let above = passing_above (rules_pass c.args.rules.now) c.args.listing.now c.loop-i.i c.path_at-path.result.now c.entry_at.result.now c.len-i-end.ensures.rising less c.path_at-path.ensures c.entry_at.ensures passes in
    let path : c.path_at-path.result.now ≡ c.in_ok-copy.field-0 = sym c.in_ok-copy.ensures in
    record { above = subst (λ p. IsAboveLast (keys c.loop-i.narrowed) p) path (subst (λ (rows : Rows). IsAboveLast (keys rows) c.path_at-path.result.now) (sym i.1) above) }

pub loop-i-preserved : goal.loop-i-preserved
loop-i-preserved c =
    let i = c.loop-i.invariant in
    let passes = rules_pass c.args.rules.now in
    let rows = c.args.listing.now in
    let less : c.loop-i.i < length rows = omega (arith, c.loop-i-test.true, c.len-i-end.ensures.count) in
    let test : c.passes.result ≡ passes c.path_at-path.result.now = subst (λ rules. c.passes.result ≡ rules_pass rules c.path_at-path.result.now) i.0 c.passes.ensures.test in
    let same = ap (λ (r : Bor (List Rule)). r.now) c.passes.ensures.rules ∙ i.0 in
    elim c.if-passes.branch [
      | then-passes+in_ok-copy+in_ok-push w ↦
          let one = passing_one passes rows c.loop-i.i c.path_at-path.result.now w.entry_at.result.now less c.path_at-path.ensures w.entry_at.ensures (sym test ∙ w.if-passes.true) in
          let pushed : w.push.new.self ≡ c.loop-i.narrowed ++ (w.in_ok-copy.field-0, w.entry_at.result.now) ∷ [] = w.in_ok-push.ensures.ok in
          let copied = ap (λ p. c.loop-i.narrowed ++ (p, w.entry_at.result.now) ∷ []) w.in_ok-copy.ensures in
          let so_far = ap (λ (rs : Rows). rs ++ (c.path_at-path.result.now, w.entry_at.result.now) ∷ []) i.1 in
          (same, w.narrowed-is ∙ pushed ∙ copied ∙ so_far ∙ sym one)
      | else-passes w ↦
          (same, w.narrowed-is ∙ i.1 ∙ sym (passing_none passes rows c.loop-i.i c.path_at-path.result.now less c.path_at-path.ensures (sym test ∙ w.if-passes.false)))
    ]
