use Rattle.std.proofs.Common.{◌∙◌, ap, w64}
use Rattle.std.proofs.lemmas.Int.{to_z-of_z}
use Rattle.bisync_tree.specs.Window.{window_number}
use Rattle.bisync_tree.proofs.WindowLemmas.{product_fits, product_is}
use Rattle.bisync_tree.proofs.windows.Window.brought.Goals as goal

pub overflow_mul-result : goal.overflow_mul-result
overflow_mul-result c =
    let number = c.number.ensures ∙ ap (window_number c.args.self) (to_z-of_z w64 _ c.ranges.time) in
    product_fits c.args.self c.args.time c.number.result c.ns.result number c.ns.ensures c.ranges.time

pub returns : goal.returns
returns c =
    let number = c.number.ensures ∙ ap (window_number c.args.self) (to_z-of_z w64 _ c.ranges.time) in
    product_is c.args.self c.args.time c.number.result c.ns.result number c.ns.ensures c.ranges.time
