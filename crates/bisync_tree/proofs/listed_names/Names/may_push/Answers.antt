use Rattle.std.proofs.Common.{◌↔◌, IsTrue, sym, ap, subst, ◌∙◌}
use Rattle.std.specs.Ordering.{is_lt}
use Rattle.bisync_tree.specs.Rows.{IsAboveLast}
use Rattle.bisync_tree.proofs.PathOrder.{order}
use Rattle.bisync_tree.proofs.SearchLemmas.{last_decides}
use Rattle.bisync_tree.proofs.listed_names.Names.may_push.Goals as goal

pub returns-in-Some : goal.returns-in-Some
returns-in-Some c =
    let paths = c.deref.result.now in
    let decides : IsTrue (is_lt (order c.in-Some.last.now c.args.path.now)) ↔ IsAboveLast paths c.args.path.now = last_decides paths c.in-Some.last.now c.args.path.now (sym c.in-Some.ensures.value) in
    let tested = subst (λ qs. IsTrue (is_lt (order c.in-Some.last.now c.args.path.now)) ↔ IsAboveLast qs c.args.path.now) (c.deref.ensures.value ∙ c.self.view_is) decides in
    subst (λ b. IsTrue b ↔ IsAboveLast c.args.self.now c.args.path.now) (ap is_lt (sym c.cmp.ensures) ∙ sym c.is_lt.ensures) tested
