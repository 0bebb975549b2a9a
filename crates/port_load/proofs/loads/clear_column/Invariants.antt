use Rattle.std.proofs.Common.{◌-◌, ◌≤◌, length}
use Rattle.port_load.specs.CellTable.{HasSizeOf, cells_in}
use Rattle.port_load.proofs.ColumnSteps.{ClearedSoFar}
use Rattle.port_load.proofs.loads.clear_column.Given as goal

abbrev pub invariant-rows : goal.invariant-rows
invariant-rows l = record {
  size : HasSizeOf l.fn.cells l.cells;
  within : l.row ≤ length l.fn.totals;
  cleared : ClearedSoFar (cells_in l.fn.cells) l.fn.totals (cells_in l.cells) l.totals l.fn.cells.columns l.column l.row;
}

abbrev pub decreases-rows : goal.decreases-rows
decreases-rows l = length l.initial.totals - l.row
