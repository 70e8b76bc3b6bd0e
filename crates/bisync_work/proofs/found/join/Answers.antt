use Rattle.bisync_work.proofs.FoundLaws.{join_pair, join_apart, join_fields}
use Rattle.bisync_work.proofs.found.join.Goals as goal

pub returns-in-Listed-two-clause-pair : goal.returns-in-Listed-two-clause-pair
returns-in-Listed-two-clause-pair c =
    join_pair c.in-Listed.header c.in-Listed-two.other c.in-Listed.first c.in-Listed-two.second c.args.one c.args.two c.join_listed.result c.in-Listed.is c.in-Listed-two.is c.join_listed.ensures.pair

pub returns-in-Listed-two-clause-apart : goal.returns-in-Listed-two-clause-apart
returns-in-Listed-two-clause-apart c =
    join_apart c.in-Listed.header c.in-Listed-two.other c.in-Listed.first c.in-Listed-two.second c.args.one c.args.two c.join_listed.result c.in-Listed.is c.in-Listed-two.is c.join_listed.ensures.apart

pub returns-in-Listed-two-clause-fields : goal.returns-in-Listed-two-clause-fields
returns-in-Listed-two-clause-fields c =
    join_fields c.in-Listed.header c.in-Listed-two.other c.in-Listed.first c.in-Listed-two.second c.args.one c.args.two c.join_listed.result c.in-Listed.is c.in-Listed-two.is c.join_listed.ensures.pair
