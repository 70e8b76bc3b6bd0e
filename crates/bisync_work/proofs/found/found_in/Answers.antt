use Rattle.std.proofs.Common.{refl}
use Rattle.bisync_work.proofs.found.found_in.Goals as goal

pub returns-clause-found : goal.returns-clause-found
returns-clause-found c = λ limit f small are is.
    record { base = (c.args.listings.header, is, refl); bad = c.first_bad.ensures limit f are; stamp = c.new_stamp.ensures.new limit f small are }
