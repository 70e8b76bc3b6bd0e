use Rattle.std.proofs.Common.{refl}
use Rattle.bisync_work.proofs.found.found_none.Goals as goal

pub returns-clause-found : goal.returns-clause-found
returns-clause-found c = λ limit f small are is.
    record { base = (is, c.new.ensures, c.new-2.ensures, refl); bad = c.first_bad.ensures limit f are; stamp = c.new_stamp.ensures.new limit f small are }
