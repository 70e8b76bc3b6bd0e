use Rattle.bisync_filter.proofs.FirstMatchLaws.{first_match, none_matches}
use Rattle.bisync_filter.proofs.laws.first_match_decides.Goals as goal

pub returns-clause-first : goal.returns-clause-first
returns-clause-first c = first_match

pub returns-clause-none : goal.returns-clause-none
returns-clause-none c = none_matches
