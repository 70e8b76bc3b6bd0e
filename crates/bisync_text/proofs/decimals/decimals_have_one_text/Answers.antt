use Rattle.bisync_text.proofs.DecimalLaws.{one_decimal, own_decimal, decimal_some, decimal_short, decimal_digits, decimal_first}
use Rattle.bisync_text.proofs.decimals.decimals_have_one_text.Goals as goal

pub returns-clause-one_text : goal.returns-clause-one_text
returns-clause-one_text c = one_decimal

pub returns-clause-own_text : goal.returns-clause-own_text
returns-clause-own_text c = own_decimal

pub returns-clause-some : goal.returns-clause-some
returns-clause-some c = decimal_some

pub returns-clause-short : goal.returns-clause-short
returns-clause-short c = decimal_short

pub returns-clause-digits : goal.returns-clause-digits
returns-clause-digits c = decimal_digits

pub returns-clause-first : goal.returns-clause-first
returns-clause-first c = decimal_first
