use Rattle.bisync_model.proofs.ListedRun.{Run}
use Rattle.bisync_model.proofs.WholePlan.{given_ok}
use Rattle.bisync_model.proofs.StepEffects.{either_side}
use Rattle.bisync_tree.specs.declared.sides.Side.TheVariants.{One}
use Rattle.std.proofs.Common.{◌≡◌, None}
use Rattle.bisync_model.proofs.given_names.given_names_were_free.Goals as goal

pub returns-clause-trees : goal.returns-clause-trees
returns-clause-trees c = λ known start paths names is n g named side.
    let run : Run = record { known = known; start = start; listed = is.listed } in
    let free = (given_ok run paths names is.through is.given).free g n named in
    either_side (λ s. start s n ≡ None) One free.start1 free.start2 side

pub returns-clause-bases : goal.returns-clause-bases
returns-clause-bases c = λ known start paths names is n g named side.
    let run : Run = record { known = known; start = start; listed = is.listed } in
    let free = (given_ok run paths names is.through is.given).free g n named in
    either_side (λ s. known.base s n ≡ None) One free.base1 free.base2 side
