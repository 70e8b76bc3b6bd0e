use Rattle.bisync_run.proofs.starting.see_digest.Goals as goal

pub returns : goal.returns
returns c = (c.told-bytes, c.fits-bytes)
