use Rattle.std.proofs.Common.{◌≡◌, ◌<◌, ◌+◌, ◌-◌, ◌/◌, length, sym, ap, subst, ◌∙◌, arith}
use Rattle.std.specs.declared.cmp.Ordering.TheVariants.{Less, Equal, Greater}
use Rattle.bisync_tree.specs.Rows.{Rows, keys, look, AreRising}
use Rattle.bisync_tree.proofs.PathOrder.{order, order_same}
use Rattle.bisync_tree.proofs.SearchLemmas.{read_at, key_at, below_step, above_step, searched}
use Rattle.bisync_tree.proofs.LookLemmas.{found_row, look_unlisted}
use Rattle.bisync_tree.proofs.listings.Listing.get.Goals as goal

rising_from : (rows items : Rows) → rows ≡ items → AreRising (keys items) → AreRising (keys rows)
rising_from rows items e h = subst (λ r. AreRising (keys r)) (sym e) h

pub loop-low-preserved-in-Less : goal.loop-low-preserved-in-Less
loop-low-preserved-in-Less c =
    let rows = c.as_slice-rows.result.now in
    let m = c.loop-low.low + (c.loop-low.high - c.loop-low.low) / 2 in
    let x = c.index-rows-middle.result in
    let inside : m < length rows = omega arith in
    let at = key_at rows m x (read_at rows m x inside c.index-rows-middle.is) in
    let less : order x.0 c.args.path.now ≡ Less = sym c.cmp.ensures ∙ c.in-Less.is in
    record {
      in_range = omega arith;
      within = omega arith;
      below = below_step (keys rows) m x.0 c.args.path.now (rising_from _ _ c.as_slice-rows.ensures.value c.self.invariant) at less;
      beyond = c.loop-low.invariant.beyond;
    }

pub loop-low-preserved : goal.loop-low-preserved
loop-low-preserved c =
    let rows = c.as_slice-rows.result.now in
    let m = c.loop-low.low + (c.loop-low.high - c.loop-low.low) / 2 in
    let x = c.index-rows-middle.result in
    let inside : m < length rows = omega arith in
    let at = key_at rows m x (read_at rows m x inside c.index-rows-middle.is) in
    let greater : order x.0 c.args.path.now ≡ Greater = sym c.cmp.ensures ∙ c.in-Greater.is in
    record {
      in_range = omega arith;
      within = omega arith;
      below = c.loop-low.invariant.below;
      beyond = above_step (keys rows) m x.0 c.args.path.now (rising_from _ _ c.as_slice-rows.ensures.value c.self.invariant) at greater;
    }

pub returns-in-Equal : goal.returns-in-Equal
returns-in-Equal c =
    let rows = c.as_slice-rows.result.now in
    let m = c.loop-low.low + (c.loop-low.high - c.loop-low.low) / 2 in
    let x = c.index-rows-middle.result in
    let inside : m < length rows = omega arith in
    let at = read_at rows m x inside c.index-rows-middle.is in
    let equal : order x.0 c.args.path.now ≡ Equal = sym c.cmp.ensures ∙ c.in-Equal.is in
    sym (found_row rows m x c.args.path.now (rising_from _ _ c.as_slice-rows.ensures.value c.self.invariant) at (order_same x.0 c.args.path.now equal))
    ∙ ap (λ r. look r c.args.path.now) (c.as_slice-rows.ensures.value ∙ c.self.view_is)

pub returns : goal.returns
returns c =
    let rows = c.as_slice-rows.result.now in
    let i = c.loop-low.invariant in
    sym (look_unlisted rows c.args.path.now (searched (keys rows) c.args.path.now c.loop-low.low c.loop-low.high c.loop-low-test.false i.below i.beyond))
    ∙ ap (λ r. look r c.args.path.now) (c.as_slice-rows.ensures.value ∙ c.self.view_is)
