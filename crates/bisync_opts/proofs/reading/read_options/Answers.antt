use Rattle.std.proofs.Common.{◌≡◌, subst, sym, true}
use Rattle.clap.specs.Faults.{is_simple_and_free}
use Rattle.clap.specs.Simple.{App}
use Rattle.bisync_opts.proofs.CommandLemmas.{bisync_is_simple}
use Rattle.bisync_opts.proofs.Steps.{leaves_at}
use Rattle.bisync_opts.proofs.WordLemmas.{read_from, refused_from}
use Rattle.bisync_opts.specs.Command.{bisync_app}
use Rattle.bisync_opts.specs.Options.{options_of, options_from}
use Rattle.bisync_opts.proofs.reading.read_options.Goals as goal

pub returns-in_err-words-clause-read : goal.returns-in_err-words-clause-read
unfolding options_of
returns-in_err-words-clause-read c = leaves_at _ _ _ _ c.from_residual.ensures.1 c.in_err-words.ensures.refused

pub parse-requires : goal.parse-requires
parse-requires c = subst (λ (a : App). is_simple_and_free a ≡ true) (sym c.in_ok-command.ensures) bisync_is_simple

pub returns-in_err-matches-clause-read : goal.returns-in_err-matches-clause-read
unfolding options_of
returns-in_err-matches-clause-read c =
    refused_from options_from bisync_app _ _ _ _ _ _ c.in_ok-words.ensures.ok c.in_ok-command.ensures c.deref.ensures.value
    c.in_err-matches.ensures.refused c.from_residual-in_err-matches.ensures.1

pub returns-clause-read : goal.returns-clause-read
unfolding options_of
returns-clause-read c =
    read_from options_from bisync_app _ _ _ _ _ _ c.in_ok-words.ensures.ok c.in_ok-command.ensures c.deref.ensures.value
    c.in_ok-matches.ensures.ok c.options.ensures.read
