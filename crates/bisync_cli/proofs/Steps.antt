-- What words ask for, from the options that are read in them.
use Rattle.std.proofs.Common.{◌≡◌, refl, ap, sym, Result, Ok, Err}
use Rattle.bisync_opts.specs.Reading.{◌>>=◌, IsReadAs, IsRefusal}
use Rattle.bisync_opts.specs.declared.faults.OptFault.{OptFault}
use Rattle.bisync_opts.specs.declared.faults.OptFault.TheVariants.{Usage, OutOfMemory}
use Rattle.bisync_opts.specs.declared.faults.UsageKind.{UsageKind}

module _ {A B : Type 0} (read : Result A UsageKind) (f : A → B) where
  -- something was read
  pub reads_on : (x : A) (y : B) → read ≡ Ok x → y ≡ f x → IsReadAs (read >>= λ x. Ok (f x)) (Ok y)
  unfolding ◌>>=◌
  reads_on x y is of = record { ok = rw is (ap Ok (sym of)); refused = tt }

  -- the words were refused, or memory was
  pub refuses_on : (fault : OptFault) → IsRefusal read fault → IsReadAs (read >>= λ x. Ok (f x)) (Err fault)
  unfolding ◌>>=◌
  refuses_on (Usage kind) is = record { ok = tt; refused = rw is refl }
  refuses_on OutOfMemory is = record { ok = tt; refused = tt }
