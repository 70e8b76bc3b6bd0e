use Rattle.bisync_listing.proofs.BadLineLaws.{bad_lines_one}
use Rattle.bisync_listing.proofs.laws.first_bad_lines_are_unique.Goals as goal

pub returns-clause-one : goal.returns-clause-one
returns-clause-one c = bad_lines_one

pub returns-clause-none : goal.returns-clause-none
returns-clause-none c = λ limit n h rows text listing first. first.no_listing h rows listing
