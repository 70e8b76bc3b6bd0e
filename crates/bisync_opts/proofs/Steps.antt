-- One step after the other in the reading of words.
use Rattle.std.proofs.Common.{◌≡◌, refl, Result, Ok, Err}
use Rattle.std.specs.Result.{IsErrAnd}
use Rattle.std.proofs.lemmas.Result.{err_from_is_err_and}
use Rattle.bisync_opts.specs.Reading.{◌>>=◌, IsReadAs, IsRefusal}
use Rattle.bisync_opts.specs.declared.faults.OptFault.{OptFault}
use Rattle.bisync_opts.specs.declared.faults.OptFault.TheVariants.{Usage, OutOfMemory}
use Rattle.bisync_opts.specs.declared.faults.UsageKind.{UsageKind}

-- a step that gave a value
pub goes_on : {A B : Type 0} (step : Result A UsageKind) (next : A → Result B UsageKind) (x : A) (answer : Result B OptFault)
    → IsReadAs step (Ok x) → IsReadAs (next x) answer → IsReadAs (step >>= next) answer
unfolding ◌>>=◌
goes_on step next x answer is read = rw is.ok read

-- the last value
pub ends : {A : Type 0} (read : Result A UsageKind) (x : A) → read ≡ Ok x → IsReadAs read (Ok x)
ends read x is = record { ok = is; refused = tt }

-- the last step, where it refuses
pub refuses : {A : Type 0} (read : Result A UsageKind) (kind : UsageKind) → read ≡ Err kind → IsReadAs read (Err (Usage kind))
refuses read kind is = record { ok = tt; refused = is }

-- a step that was refused
pub stops : {A B : Type 0} (step : Result A UsageKind) (next : A → Result B UsageKind) (fault : OptFault)
    → IsRefusal step fault → IsRefusal (step >>= next) fault
unfolding ◌>>=◌
stops step next (Usage kind) refused = rw refused refl
stops step next OutOfMemory refused = tt

-- the exit of a `?` after such a step
pub leaves : {A B : Type 0} (step : Result A UsageKind) (next : A → Result B UsageKind) (fault : OptFault) (answer : Result B OptFault)
    → IsErrAnd answer (λ e. e ≡ fault) → IsReadAs step (Err fault) → IsReadAs (step >>= next) answer
leaves step next fault answer is read =
    let exit = err_from_is_err_and answer is in
    rw (exit.1, exit.2) (record { ok = tt; refused = stops step next fault read.refused })

-- the exit of a `?` where memory was refused
pub lacks_memory : {B : Type 0} (read : Result B UsageKind) (answer : Result B OptFault) → IsErrAnd answer (λ e. e ≡ OutOfMemory) → IsReadAs read answer
lacks_memory read answer is =
    let exit = err_from_is_err_and answer is in
    rw (exit.1, exit.2) (record { ok = tt; refused = tt })

-- a step whose value is known by another name
pub goes_on_at : {A B : Type 0} (step : Result A UsageKind) (next : A → Result B UsageKind) (x : A) (answer : Result B OptFault)
    → step ≡ Ok x → IsReadAs (next x) answer → IsReadAs (step >>= next) answer
unfolding ◌>>=◌
goes_on_at step next x answer is read = rw is read

pub leaves_at : {A B : Type 0} (step : Result A UsageKind) (next : A → Result B UsageKind) (fault : OptFault) (answer : Result B OptFault)
    → IsErrAnd answer (λ e. e ≡ fault) → IsRefusal step fault → IsReadAs (step >>= next) answer
leaves_at step next fault answer is refused =
    let exit = err_from_is_err_and answer is in
    rw (exit.1, exit.2) (record { ok = tt; refused = stops step next fault refused })
