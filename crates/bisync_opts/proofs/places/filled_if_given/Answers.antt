use Rattle.std.proofs.Common.{refl}
use Rattle.bisync_opts.proofs.Steps.{goes_on, ends, leaves}
use Rattle.bisync_opts.proofs.places.filled_if_given.Goals as goal

pub returns-in_err-text : goal.returns-in_err-text
returns-in_err-text c = rw c.in-Some.is (leaves _ _ _ _ c.from_residual.ensures.1 c.in_err-text.ensures)

pub returns : goal.returns
returns c = rw c.in-Some.is (goes_on _ _ _ _ c.in_ok-text.ensures (ends _ _ refl))
