use Rattle.std.proofs.Common.{refl, None, arith}
use Rattle.bisync_listing.specs.declared.progress.Place.TheVariants.{Start}
use Rattle.bisync_listing.specs.declared.progress.Progress.{Progress}
use Rattle.bisync_listing.proofs.ReaderLaws.{new_reads}
use Rattle.bisync_listing.proofs.progress.Progress.new.Goals as goal

pub returns : goal.returns
returns c =
    let p : Progress = record { alloc = c.args.alloc; limit = c.args.limit; used = 0; lines = 0; place = Start; header = record { stamp = 1; fields = None }; rows = c.new.result; line = c.in_ok-new.field-0; fault = None } in
    let x = new_reads p refl c.new.ensures c.in_ok-new.ensures refl refl (omega (arith, c.ranges.limit.fits)) in
    (x.0, refl, x.1, refl)
