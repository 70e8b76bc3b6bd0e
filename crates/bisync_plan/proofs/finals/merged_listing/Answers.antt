use Rattle.std.proofs.Common.{◌≡◌, ◌∷◌, ◌++◌, sym, ◌∙◌, ap, subst}
use Rattle.std.specs.Prelude.{flat_map}
use Rattle.bisync_tree.specs.Rows.{keys, IsAboveLast}
use Rattle.bisync_plan.specs.CellRows.{row_of, kept_row}
use Rattle.bisync_plan.proofs.MergedRows.{front_rises, row_is_above}
use Rattle.bisync_plan.proofs.finals.merged_listing.Goals as goal

pub push_before-requires : goal.push_before-requires
push_before-requires c =
    let row = kept_row c.args.conflict.now c.args.compare.now c.args.window c.args.side in
    let is : flat_map row c.loop-cell.walk ≡ (c.in-Some.cell.path.now, c.in-Some-kept.entry) ∷ flat_map row c.next.new.self
    = ap (flat_map row) c.in-Some.ensures.cell ∙ ap (λ v. row_of c.in-Some.cell.path.now v ++ flat_map row c.next.new.self) (sym c.in-Some-kept.ensures) in
    record { rising = front_rises c.loop-cell.listing c.loop-cell.named.entries _ _ _ _ _ c.requires.rising c.loop-cell.invariant is }

pub push-requires : goal.push-requires
push-requires c =
    let row = kept_row c.args.conflict.now c.args.compare.now c.args.window c.args.side in
    let is : flat_map row c.loop-cell.walk ≡ (c.in-Some.cell.path.now, c.in-Some-kept.entry) ∷ flat_map row c.next.new.self
    = ap (flat_map row) c.in-Some.ensures.cell ∙ ap (λ v. row_of c.in-Some.cell.path.now v ++ flat_map row c.next.new.self) (sym c.in-Some-kept.ensures) in
    let above = row_is_above c.loop-cell.listing c.loop-cell.named.entries _ _ _ _ _ c.requires.rising c.loop-cell.invariant is in
    record {
      above = subst (λ p. IsAboveLast (keys c.push_before.new.listing) p) (sym c.in_ok-copy.ensures)
          (subst (λ l. IsAboveLast (keys l) c.in-Some.cell.path.now) (sym c.in_ok-push_before.ensures.listing) above);
    }
