use Rattle.std.proofs.Common.{◌∙◌, refl, sym}
use Rattle.bisync_opts.proofs.Steps.{goes_on, ends, leaves, refuses}
use Rattle.bisync_opts.specs.Options.{options_from}
use Rattle.bisync_opts.proofs.reading.options.Goals as goal

pub returns-in_err-opts-clause-read : goal.returns-in_err-opts-clause-read
unfolding options_from
returns-in_err-opts-clause-read c = leaves _ _ _ _ c.from_residual.ensures.1 c.in_err-opts.ensures.read

pub returns-then-clash-clause-read : goal.returns-then-clash-clause-read
unfolding options_from
returns-then-clash-clause-read c =
    let clashing = sym c.clash.ensures ∙ c.if-clash.true in
    goes_on _ _ _ _ c.in_ok-opts.ensures.read (refuses _ _ (rw clashing refl))

pub returns-clause-read : goal.returns-clause-read
unfolding options_from
returns-clause-read c =
    let fitting = sym c.clash.ensures ∙ c.if-clash.false in
    goes_on _ _ _ _ c.in_ok-opts.ensures.read (ends _ _ (rw fitting refl))
