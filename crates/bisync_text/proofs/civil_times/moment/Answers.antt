use Rattle.bisync_text.proofs.CivilLaws.{moment_is, civil_is, moment_found, moment_none}
use Rattle.bisync_text.proofs.civil_times.moment.Goals as goal

pub returns-clause-found : goal.returns-clause-found
returns-clause-found c =
    let d = c.in_ok-date.ensures.found in
    let t = c.in_ok-time.ensures.found in
    moment_found c.args.civil c.from_parts.result c.nanos_at.result
    (civil_is c.args.civil c.in_ok-date.date c.in_ok-time.time c.requires d.0 d.1 d.2 t.0 t.1 t.2 t.3)
    (moment_is c.args.civil c.in_ok-date.date c.in_ok-time.time c.from_parts.result c.from_parts.ensures.date c.from_parts.ensures.time d.0 d.1 d.2 t.0 t.1 t.2 t.3)
    c.nanos_at.ensures.found

pub returns-clause-none : goal.returns-clause-none
returns-clause-none c =
    let d = c.in_ok-date.ensures.found in
    let t = c.in_ok-time.ensures.found in
    moment_none c.args.civil c.from_parts.result c.nanos_at.result
    (moment_is c.args.civil c.in_ok-date.date c.in_ok-time.time c.from_parts.result c.from_parts.ensures.date c.from_parts.ensures.time d.0 d.1 d.2 t.0 t.1 t.2 t.3)
    c.nanos_at.ensures.none
