use Rattle.bisync_run.proofs.StartCases.{bad_name, no_base, starts_from}
use Rattle.bisync_run.proofs.starting.start_from.Goals as goal

pub returns-in-Some-clause-refusal : goal.returns-in-Some-clause-refusal
returns-in-Some-clause-refusal c limits f digest is stored = bad_name c.args.opts.now limits f digest c.args.found is stored c.in-Some.name c.in-Some.line c.in-Some.is

pub returns-in_default-pair-clause-refusal : goal.returns-in_default-pair-clause-refusal
returns-in_default-pair-clause-refusal c limits f digest is stored = no_base c.args.opts.now limits f digest c.args.found is stored c.in_default.is c.in_default-pair.is

pub returns-clause-starts : goal.returns-clause-starts
returns-clause-starts c limits f digest is stored =
    starts_from c.args.opts.now limits f digest c.args.found is stored c.in-Some-pair.pair c.in-Some-pair.is c.in_default.is (c.may_start.ensures.may c.if-not-may_start.false) c.in_default-other_fields.ensures.none
