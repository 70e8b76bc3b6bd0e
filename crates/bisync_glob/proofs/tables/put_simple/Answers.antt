use Rattle.bisync_glob.proofs.tables.put_simple.Goals as goal

pub returns-in-Literal-clause-table : goal.returns-in-Literal-clause-table
returns-in-Literal-clause-table c = λ q table. rw c.in-Literal.is (c.put_literal.ensures.table q table)

pub returns-in-AnyChar-clause-table : goal.returns-in-AnyChar-clause-table
returns-in-AnyChar-clause-table c = λ q table. rw c.in-AnyChar.is (c.put_any_char.ensures.table q table)

pub returns-in-Class-clause-table : goal.returns-in-Class-clause-table
returns-in-Class-clause-table c = λ q table. rw c.in-Class.is (c.put_class.ensures.table q table)

pub returns-in-Star-clause-table : goal.returns-in-Star-clause-table
returns-in-Star-clause-table c = λ q table. rw c.in-Star.is (c.put_star.ensures q table)

pub returns-in-Stars-clause-table : goal.returns-in-Stars-clause-table
returns-in-Stars-clause-table c = λ q table. rw c.in-Stars.is (c.put_stars.ensures q table)
