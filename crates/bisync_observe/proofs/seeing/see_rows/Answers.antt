use Rattle.std.proofs.Common.{◌≡◌, ◌<◌, ◌++◌, length, ◌∷◌, [], true, Bor, List, IsTrue, refl, sym, ◌∙◌, ap, subst}
use Rattle.bisync_filter.specs.Passing.{rules_pass}
use Rattle.bisync_filter.specs.declared.rule_lists.Rule.{Rule}
use Rattle.bisync_tree.specs.Rows.{keys, IsAboveLast}
use Rattle.bisync_observe.proofs.SeenLemmas.{skipped, named, listed, listing_above, next_row, lacks_at_start, seeing_at}
use Rattle.bisync_observe.proofs.seeing.see_rows.Goals.{then-passes+in-Ok+in_ok-copy+in_ok-push, else-passes}
use Rattle.bisync_observe.proofs.seeing.see_rows.Goals as goal

pub loop-path-preserved-then-not-may_push : goal.loop-path-preserved-then-not-may_push
loop-path-preserved-then-not-may_push g c =
    let i = c.loop-path.invariant in
    let no = λ (above : IsAboveLast c.loop-path.names c.in-Some.path). let t = c.may_push.ensures.1 above in let f : ⊥ = cc c.if-not-may_push.true in f in
    (tt, tt, i.2, i.3, skipped _ _ _ _ _ _ _ _ _ _ (c.in-Some.path, c.in-Some.listed) i.4 c.requires.ordered c.in-Some.ensures.steps.0 no)

pub entry-requires-clause-no_digest : goal.entry-requires-clause-no_digest
entry-requires-clause-no_digest g c =
    let i = c.loop-path.invariant in
    let above : IsAboveLast c.loop-path.names c.in-Some.path = c.may_push.ensures.0 c.if-not-may_push.false in
    c.requires.no_digests c.in-Some.path c.in-Some.listed (next_row _ _ _ _ _ _ _ _ _ _ (c.in-Some.path, c.in-Some.listed) i.4 c.in-Some.ensures.steps.0 above)

pub returns-in-Err-Moved-clause-unseen : goal.returns-in-Err-Moved-clause-unseen
returns-in-Err-Moved-clause-unseen g c =
    let i = c.loop-path.invariant in
    let above : IsAboveLast c.loop-path.names c.in-Some.path = c.may_push.ensures.0 c.if-not-may_push.false in
    let row = next_row _ _ _ _ _ _ _ _ _ _ (c.in-Some.path, c.in-Some.listed) i.4 c.in-Some.ensures.steps.0 above in
    let none = rw c.in-Err-Moved.field-0-is at c.in-Err-Moved.ensures.none in
    record {
      moved = record {
        compared = none.0;
        passed = subst (λ rules. rules_pass rules c.in-Some.path ≡ true) i.2 (sym c.passes.ensures.test ∙ c.if-passes.true);
        no_digest = c.requires.no_digests c.in-Some.path c.in-Some.listed row;
        differs = rw c.in-Err-Moved.field-0-is none.1;
      };
      row = row;
      lacks = lacks_at_start _ _ _ _ _ i.4.kept none.2;
    }

pub push-requires : goal.push-requires
push-requires g c =
    let i = c.loop-path.invariant in
    let above : IsAboveLast c.loop-path.names c.in-Some.path = c.may_push.ensures.0 c.if-not-may_push.false in
    record { above = subst (λ p. IsAboveLast (keys c.loop-path.listing) p) (sym c.in_ok-copy.ensures) (listing_above _ _ _ _ _ _ _ c.in-Some.path i.4.seen above) }

pub loop-path-preserved : goal.loop-path-preserved
loop-path-preserved g c =
    let i = c.loop-path.invariant in
    let above : IsAboveLast c.loop-path.names c.in-Some.path = c.may_push.ensures.0 c.if-not-may_push.false in
    let rules = ap (λ (r : Bor (List Rule)). r.now) c.passes.ensures.rules ∙ i.2 in
    let test = subst (λ rules. c.passes.result ≡ rules_pass rules c.in-Some.path) i.2 c.passes.ensures.test in
    elim c.if-passes.branch [
      | then-passes+in-Ok+in_ok-copy+in_ok-push w ↦
          let room : IsTrue c.args.compare.now.hash → 0 < length c.if-passes.buffer = rw w.buffer-is (λ h. subst (λ n. 0 < n) (sym w.entry.ensures.buffer) (i.3 h)) in
          let row = listed _ _ _ _ _ _ _ _ _ _ (c.in-Some.path, c.in-Some.listed) w.in-Ok.entry i.4 c.in-Some.ensures.steps.0 above (sym test ∙ w.if-passes.true)
          (g.R.Remote.state w.entry.new.remote) w.in-Ok.ensures.entry w.entry.ensures.only_reads (w.in-Ok.ensures.cause.kept refl) in
          let pushed = w.listing-is ∙ w.in_ok-push.ensures.ok ∙ ap (λ p. c.loop-path.listing ++ (p, w.in-Ok.entry) ∷ []) w.in_ok-copy.ensures in
          (tt, tt, rules, room, seeing_at _ _ _ _ _ _ _ _ _ _ _ _ (ap g.R.Remote.state w.remote-is) c.in_ok-push-2.ensures.ok pushed row)
      | else-passes w ↦
          let room : IsTrue c.args.compare.now.hash → 0 < length c.if-passes.buffer = rw w.buffer-is i.3 in
          let row = named _ _ _ _ _ _ _ _ _ _ (c.in-Some.path, c.in-Some.listed) i.4 c.in-Some.ensures.steps.0 above (sym test ∙ w.if-passes.false) in
          (tt, tt, rules, room, seeing_at _ _ _ _ _ _ _ _ _ _ _ _ (ap g.R.Remote.state w.remote-is) c.in_ok-push-2.ensures.ok w.listing-is row)
    ]
