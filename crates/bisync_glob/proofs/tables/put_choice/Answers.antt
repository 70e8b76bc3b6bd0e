use Rattle.std.proofs.Common.{◌∷◌, ◌++◌, [], List, take, arith}
use Rattle.std.proofs.lemmas.List.{take_more, take_all}
use Rattle.bisync_glob.specs.declared.parts.Simple.{Simple}
use Rattle.bisync_glob.specs.Deciding.{IsTable, alternative_then, any_then}
use Rattle.bisync_glob.proofs.TableLaws.{none_table, unite_table, any_more}
use Rattle.bisync_glob.proofs.tables.put_choice.Goals as goal

pub loop-alternative-init : goal.loop-alternative-init
loop-alternative-init c = λ q table. none_table c.args.text.now c.clear.new.table (omega arith) c.clear.ensures

pub loop-alternative-preserved : goal.loop-alternative-preserved
loop-alternative-preserved c = λ q table.
    let before : List (List Simple) = take c.loop-alternative.alternative-index c.args.alternatives.now in
    let last : List Simple = c.alternative-item.result in
    let work : IsTable q c.args.text.now c.copy_from_slice.new.self = rw c.copy_from_slice.ensures.after table in
    let second : IsTable (alternative_then last q) c.args.text.now c.put_alternative.new.table = rw c.parts.ensures at (c.put_alternative.ensures q work) in
    let first : IsTable (any_then before q) c.args.text.now c.loop-alternative.union = c.loop-alternative.invariant q table in
    let both : IsTable (any_then (before ++ last ∷ []) q) c.args.text.now c.unite.new.union =
    unite_table (any_then before q) (alternative_then last q) (any_then (before ++ last ∷ []) q) c.args.text.now c.loop-alternative.union c.put_alternative.new.table c.unite.new.union (any_more before last q) first second (omega arith) c.unite.ensures in
    rw (take_more c.args.alternatives.now c.loop-alternative.alternative-index last (omega arith)) (rw (← c.alternative-item.is) both)

pub returns : goal.returns
returns c = λ q table.
    rw c.copy_from_slice-2.ensures.after
    (rw (take_all c.loop-alternative.alternative-index c.args.alternatives.now (omega arith)) at (c.loop-alternative.invariant q table))
