use Rattle.std.proofs.Common.{[], ap, refl}
use Rattle.std.specs.Prelude.{option_map}
use Rattle.bisync_model.proofs.safety.all_is_safe_without_base.Goals as goal

pub returns-clause-itself : goal.returns-clause-itself
returns-clause-itself c = λ policy trees side p file there.
    record { side = side; name = p; named = ([], refl); held = ap (λ v. option_map (λ file. file.bytes) v) there; kept = tt }

pub returns-clause-names : goal.returns-clause-names
returns-clause-names c = λ policy trees side p n file named there.
    record { side = side; name = n; named = named; held = ap (λ v. option_map (λ file. file.bytes) v) there; kept = tt }
