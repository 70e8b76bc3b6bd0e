use Rattle.bisync_glob.proofs.TableLaws.{end_table}
use Rattle.std.proofs.Common.{arith}
use Rattle.bisync_glob.proofs.tables.put_end.Goals as goal

pub returns-clause-table : goal.returns-clause-table
returns-clause-table c = end_table c.args.text.now c.clear.new.table (omega arith) c.clear.ensures
