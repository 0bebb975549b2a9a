-- What a table of loads keeps beside its cells: the total of each row, and marks of where load may be.
use Rattle.std.specs.Prelude.{◌≡◌, ◌≢◌, ℕ, ◌+◌, ◌*◌, ◌<◌, ◌≤◌, List, length, slice_index, sum_by}
use Rattle.coflow_units.specs.declared.limits.TheConstants.{MAX_COFLOWS, MAX_PORTS}
use Rattle.std.specs.List.{range_with_len}
use Rattle.port_load.specs.CellTable.{CellTable, cells_in}
use Rattle.port_load.specs.MarkTable.{MarkTable, mark_at}

-- the sum of a row of a table with n columns
abbrev pub row_total : List ℕ → ℕ → ℕ → ℕ
row_total cells n row = sum_by (λ column. slice_index cells (row * n + column)) (range_with_len 0 n)

pub record IsKept (coflows ports : ℕ) (cells totals : List ℕ) (by_port by_coflow : MarkTable) : Type 0 where
  pub coflows_limit : coflows ≤ MAX_COFLOWS
  pub has_ports : 1 ≤ ports
  pub ports_limit : ports ≤ MAX_PORTS + 1
  pub cells_len : length cells ≡ (ports + ports) * coflows
  pub totals_len : length totals ≡ ports + ports
  pub port_rows : by_port.rows ≡ ports + ports
  pub port_columns : by_port.columns ≡ coflows
  pub coflow_rows : by_coflow.rows ≡ coflows
  pub coflow_columns : by_coflow.columns ≡ ports + ports
  pub total : (row : ℕ) → row < ports + ports → slice_index totals row ≡ row_total cells coflows row
  pub by_port_none : (coflow row : ℕ) → coflow < coflows → row < ports + ports → mark_at by_port row coflow ≡ 0 →
      slice_index cells (row * coflows + coflow) ≡ 0
  pub by_coflow_none : (coflow row : ℕ) → coflow < coflows → row < ports + ports → mark_at by_coflow coflow row ≡ 0 →
      slice_index cells (row * coflows + coflow) ≡ 0

-- the same of the table that holds the cells
pub record IsKeptIn (coflows ports : ℕ) (cells : CellTable) (totals : List ℕ) (by_port by_coflow : MarkTable) : Type 0
  where
    pub rows : cells.rows ≡ ports + ports
    pub columns : cells.columns ≡ coflows
    pub kept : IsKept coflows ports (cells_in cells) totals by_port by_coflow

-- a column was cleared, and each of its cells taken from the total of its row
pub record IsColumnCleared (before totals_before cells totals : List ℕ) (n column : ℕ) : Type 0 where
  pub cells_len : length cells ≡ length before
  pub totals_len : length totals ≡ length totals_before
  pub gone : (row : ℕ) → row < length totals_before → slice_index cells (row * n + column) ≡ 0
  pub others : (row other : ℕ) → row < length totals_before → other < n → other ≢ column →
      slice_index cells (row * n + other) ≡ slice_index before (row * n + other)
  pub taken : (row : ℕ) → row < length totals_before →
      slice_index totals row + slice_index before (row * n + column) ≡ slice_index totals_before row
