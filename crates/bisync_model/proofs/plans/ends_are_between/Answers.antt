use Rattle.std.proofs.Common.{◌∙◌, ap, inl, inr, refl}
use Rattle.bisync_model.specs.Outcome.{by_name}
use Rattle.bisync_model.proofs.ListedRun.{Run}
use Rattle.bisync_model.proofs.WholePlan.{given_ok}
use Rattle.bisync_model.proofs.StepsOfOnePath.{carried_own}
use Rattle.bisync_model.proofs.plans.ends_are_between.Goals as goal

pub returns-clause-outcome : goal.returns-clause-outcome
returns-clause-outcome c = λ known start paths names is.
    let run : Run = record { known = known; start = start; listed = is.listed } in
    let ok = given_ok run paths names is.through is.given in
    record {
      files = λ s p. inr (inl refl);
      losers = λ s p n lost named. inr (ap (λ v. by_name known start v n s) (ok.to_loser p s n named) ∙ carried_own run s p);
    }
