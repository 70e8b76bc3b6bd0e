use Rattle.std.proofs.Common.{◌≡◌, ◌<◌, ◌+◌, ◌-◌, ◌/◌, length, sym, ap, subst, ◌∙◌, arith}
use Rattle.std.specs.declared.cmp.Ordering.TheVariants.{Less, Equal, Greater}
use Rattle.bisync_tree.specs.Rows.{is_among, AreRising}
use Rattle.bisync_tree.proofs.PathOrder.{order, order_same}
use Rattle.bisync_tree.proofs.SearchLemmas.{read_at, below_step, above_step, searched, found}
use Rattle.bisync_tree.proofs.listed_names.Names.holds.Goals as goal

pub loop-low-preserved-in-Less : goal.loop-low-preserved-in-Less
loop-low-preserved-in-Less c =
    let paths = c.as_slice-paths.result.now in
    let m = c.loop-low.low + (c.loop-low.high - c.loop-low.low) / 2 in
    let x = c.index-paths-middle.result in
    let inside : m < length paths = omega arith in
    let less : order x c.args.path.now ≡ Less = sym c.cmp.ensures ∙ c.in-Less.is in
    record {
      in_range = omega arith;
      within = omega arith;
      below = below_step paths m x c.args.path.now (subst AreRising (sym c.as_slice-paths.ensures.value) c.self.invariant) (read_at paths m x inside c.index-paths-middle.is) less;
      beyond = c.loop-low.invariant.beyond;
    }

pub loop-low-preserved : goal.loop-low-preserved
loop-low-preserved c =
    let paths = c.as_slice-paths.result.now in
    let m = c.loop-low.low + (c.loop-low.high - c.loop-low.low) / 2 in
    let x = c.index-paths-middle.result in
    let inside : m < length paths = omega arith in
    let greater : order x c.args.path.now ≡ Greater = sym c.cmp.ensures ∙ c.in-Greater.is in
    record {
      in_range = omega arith;
      within = omega arith;
      below = c.loop-low.invariant.below;
      beyond = above_step paths m x c.args.path.now (subst AreRising (sym c.as_slice-paths.ensures.value) c.self.invariant) (read_at paths m x inside c.index-paths-middle.is) greater;
    }

pub returns-in-Equal : goal.returns-in-Equal
returns-in-Equal c =
    let paths = c.as_slice-paths.result.now in
    let m = c.loop-low.low + (c.loop-low.high - c.loop-low.low) / 2 in
    let x = c.index-paths-middle.result in
    let inside : m < length paths = omega arith in
    let equal : order x c.args.path.now ≡ Equal = sym c.cmp.ensures ∙ c.in-Equal.is in
    sym (found paths m x c.args.path.now (read_at paths m x inside c.index-paths-middle.is) (order_same x c.args.path.now equal))
    ∙ ap (is_among c.args.path.now) (c.as_slice-paths.ensures.value ∙ c.self.view_is)

pub returns : goal.returns
returns c =
    let paths = c.as_slice-paths.result.now in
    let i = c.loop-low.invariant in
    sym (searched paths c.args.path.now c.loop-low.low c.loop-low.high c.loop-low-test.false i.below i.beyond)
    ∙ ap (is_among c.args.path.now) (c.as_slice-paths.ensures.value ∙ c.self.view_is)
