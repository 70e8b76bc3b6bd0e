use Rattle.bisync_model.proofs.ListedRun.{Run}
use Rattle.bisync_model.proofs.WholePlan.{given_ok}
use Rattle.bisync_model.proofs.SuffixNames.{name_of_name, name_of_given}
use Rattle.bisync_model.proofs.given_names.names_of_names_are_names.Goals as goal

pub returns-clause-candidates : goal.returns-clause-candidates
returns-clause-candidates c = name_of_name

pub returns-clause-given : goal.returns-clause-given
returns-clause-given c = λ known start paths names is.
    let run : Run = record { known = known; start = start; listed = is.listed } in
    name_of_given run names (given_ok run paths names is.through is.given)
