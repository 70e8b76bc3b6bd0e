use Rattle.bisync_glob.proofs.tables.put_part.Goals as goal

pub returns-in-Plain-clause-table : goal.returns-in-Plain-clause-table
returns-in-Plain-clause-table c = λ q table. rw c.in-Plain.is (c.put_simple.ensures.table q table)

pub returns-in-Choice-clause-table : goal.returns-in-Choice-clause-table
returns-in-Choice-clause-table c = λ q table. rw c.in-Choice.is (rw c.alternatives.ensures at (c.put_choice.ensures q table))
