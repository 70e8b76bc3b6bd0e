use Rattle.std.proofs.Common.{refl, sym, subst}
use Rattle.std.specs.Prelude.{IsSome}
use Rattle.bisync_model.proofs.ListedRun.{Run}
use Rattle.bisync_model.proofs.WholePlan.{given_ok}
use Rattle.bisync_model.proofs.given_names.each_loser_has_its_own_name.Goals as goal

pub returns-clause-some : goal.returns-clause-some
returns-clause-some c = λ known start paths names is side p lost.
    let run : Run = record { known = known; start = start; listed = is.listed } in
    let named = (given_ok run paths names is.through is.given).total p side lost in
    subst (λ v. IsSome v) (sym named.1) refl

pub returns-clause-own : goal.returns-clause-own
returns-clause-own c = λ known start paths names is side p n named.
    let run : Run = record { known = known; start = start; listed = is.listed } in
    (given_ok run paths names is.through is.given).to_loser p side n named
