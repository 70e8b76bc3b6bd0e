use Rattle.std.proofs.Common.{subst, ◌∙◌}
use Rattle.bisync_text.specs.Path.{IsPath}
use Rattle.bisync_observe.proofs.RowLemmas.{one_more}
use Rattle.bisync_observe.proofs.listed_rows.read_rows.Goals as goal

pub loop-item-preserved : goal.loop-item-preserved
loop-item-preserved c =
    let i = c.loop-item.invariant in
    let ok = c.in-Ok.ensures.ok in
    let more = one_more _ i.2 _ _ _ _ c.in-Some.item c.in-Ok.path c.listed_entry.result i.3 c.in-Some.ensures.steps.0 i.4 i.5
    (ok.0 ∙ c.as_bytes.ensures) (subst (λ t. IsPath t) c.as_bytes.ensures ok.1) c.listed_entry.ensures c.in_ok-push-in-Ok.ensures.items in
    (tt, tt, more.0, more.1, more.2, more.3)
