use Rattle.std.proofs.Common.{rules}
use Rattle.std.specs.Cmp.Lexicographic.{nat_list_cmp_total}
use Rattle.std.proofs.lemmas.List.Sorted.{ranks_by, answers_always}
use Rattle.bisync_tree.specs.Rows.{PathBytes}
use Rattle.bisync_tree.specs.declared.entries.Entry.{Entry}
use Rattle.bisync_observe.proofs.RowLemmas.{in_order, is_below}
use Rattle.bisync_observe.proofs.listed_rows.put_in_order.Goals as goal

pub returns : goal.returns
returns c =
    let ranks = ranks_by nat_list_cmp_total (λ (r : PathBytes × Entry). r.0) in
    in_order _ _ c.sort_by.ensures.permutation
    (c.in_ok-sort_by.ensures.sorted is_below ranks (answers_always _ _ _ (λ f a r q k. search rules)))
    (c.sort_by.ensures.stable is_below ranks (answers_always _ _ _ (λ f a r q k. search rules)))
