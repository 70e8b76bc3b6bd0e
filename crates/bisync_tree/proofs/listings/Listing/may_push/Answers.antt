use Rattle.std.proofs.Common.{◌↔◌, IsTrue, sym, ap, subst, ◌∙◌}
use Rattle.std.specs.Ordering.{is_lt}
use Rattle.bisync_tree.specs.Rows.{keys, IsAboveLast}
use Rattle.bisync_tree.proofs.PathOrder.{order}
use Rattle.bisync_tree.proofs.SearchLemmas.{last_row_decides}
use Rattle.bisync_tree.proofs.listings.Listing.may_push.Goals as goal

pub returns-in-Some : goal.returns-in-Some
returns-in-Some c =
    let rows = c.deref.result.now in
    let decides : IsTrue (is_lt (order c.in-Some.row.now.0 c.args.path.now)) ↔ IsAboveLast (keys rows) c.args.path.now = last_row_decides rows c.in-Some.row.now c.args.path.now (sym c.in-Some.ensures.value) in
    let tested = subst (λ rs. IsTrue (is_lt (order c.in-Some.row.now.0 c.args.path.now)) ↔ IsAboveLast (keys rs) c.args.path.now) (c.deref.ensures.value ∙ c.self.view_is) decides in
    subst (λ b. IsTrue b ↔ IsAboveLast (keys c.args.self.now) c.args.path.now) (ap is_lt (sym c.cmp.ensures) ∙ sym c.is_lt.ensures) tested
