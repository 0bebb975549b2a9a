use Rattle.flow_table.proofs.TablesOne.{starts_one, tables_one}
use Rattle.flow_table.proofs.laws.tables_are_one.Goals as goal

pub returns-clause-starts : goal.returns-clause-starts
returns-clause-starts c = starts_one

pub returns-clause-table : goal.returns-clause-table
returns-clause-table c = tables_one
