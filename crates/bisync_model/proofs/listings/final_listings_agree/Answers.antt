use Rattle.std.proofs.Common.{sym, ◌∙◌}
use Rattle.bisync_tree.specs.Same.{same}
use Rattle.bisync_tree.specs.declared.sides.Side.TheVariants.{One, Two}
use Rattle.bisync_model.proofs.ListedRun.{Run}
use Rattle.bisync_model.proofs.WholePlan.{given_ok}
use Rattle.bisync_model.proofs.FinalEntries.{final_listed}
use Rattle.bisync_model.proofs.Agreement.{finals_agree}
use Rattle.bisync_model.proofs.listings.final_listings_agree.Goals as goal

pub returns-clause-path : goal.returns-clause-path
returns-clause-path c = λ known names finer p base. finals_agree known finer names p base

pub returns-clause-trees : goal.returns-clause-trees
returns-clause-trees c = λ known start paths names is finer base p passes.
    let run : Run = record { known = known; start = start; listed = is.listed } in
    let listed = final_listed run names (given_ok run paths names is.through is.given) in
    (λ i. same known.policy.compare (sym (listed One p passes) i) (sym (listed Two p passes) i)) ∙ finals_agree known finer names p (base p)
