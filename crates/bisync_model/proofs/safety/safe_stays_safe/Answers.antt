use Rattle.std.proofs.Common.{Some}
use Rattle.bisync_model.proofs.ListedRun.{Run}
use Rattle.bisync_model.proofs.WholePlan.{given_ok}
use Rattle.bisync_model.proofs.SafeVersions.{safe_kept}
use Rattle.bisync_model.proofs.SafeAtBases.{safe_at_base}
use Rattle.bisync_model.proofs.safety.safe_stays_safe.Goals as goal

pub returns : goal.returns
returns c = λ known start paths names is named trees between base left p bytes safe.
    let run : Run = record { known = known; start = start; listed = is.listed } in
    safe_at_base known.policy (Some known.base) base trees left p bytes
    (safe_kept run names (given_ok run paths names is.through is.given) named trees between p bytes safe)
