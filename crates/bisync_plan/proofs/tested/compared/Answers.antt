use Rattle.std.proofs.Common.{sym, ◌∙◌, ap}
use Rattle.bisync_tree.specs.Walk.{seen, cells, listings}
use Rattle.bisync_plan.specs.CellRows.{first_apart}
use Rattle.bisync_plan.proofs.FirstApart.{agree_from, apart_from}
use Rattle.bisync_plan.proofs.tested.compared.Goals as goal

pub returns-in-None-clause-agree : goal.returns-in-None-clause-agree
returns-in-None-clause-agree c =
    agree_from c.args.compare.now c.args.one.now c.args.two.now
    (ap (λ n. first_apart c.args.compare.now (cells (listings c.args.one.now c.args.two.now n n))) (sym c.new-none.ensures) ∙ ap (first_apart c.args.compare.now) (sym c.over-walk.ensures.cells) ∙ sym c.in-None.ensures)

pub returns-clause-fault : goal.returns-clause-fault
returns-clause-fault c =
    apart_from c.args.compare.now c.args.one.now c.args.two.now (seen c.in-Some.cell) _ _ _
    (ap (λ n. first_apart c.args.compare.now (cells (listings c.args.one.now c.args.two.now n n))) (sym c.new-none.ensures) ∙ ap (first_apart c.args.compare.now) (sym c.over-walk.ensures.cells) ∙ sym c.in-Some.ensures)
    c.in_ok-path-in-Some.ensures c.copied.ensures c.copied-in-Some.ensures
