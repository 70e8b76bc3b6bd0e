use Rattle.bisync_text.proofs.TimeLaws.{one_time_text, own_time_text, length-spelling, plain_spelling}
use Rattle.bisync_text.proofs.times.times_have_one_text.Goals as goal

pub returns-clause-one_text : goal.returns-clause-one_text
returns-clause-one_text c = one_time_text

pub returns-clause-own_text : goal.returns-clause-own_text
returns-clause-own_text c = own_time_text

pub returns-clause-long : goal.returns-clause-long
returns-clause-long c = length-spelling

pub returns-clause-plain : goal.returns-clause-plain
returns-clause-plain c = plain_spelling
