use Rattle.flow_table.proofs.RowFlows.{two_mappers_row}
use Rattle.flow_table.proofs.laws.rows_hold.Goals as goal

pub returns : goal.returns
returns c = record { two_mappers = two_mappers_row }
