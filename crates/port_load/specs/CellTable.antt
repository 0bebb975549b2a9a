-- A table of numbers in blocks of 64 columns of a row; a row's block is there from the first number that is set in it.
use Rattle.std.specs.Prelude.{◌≡◌, ◌≢◌, ℕ, ◌+◌, ◌*◌, ◌/◌, ◌%◌, ◌<◌, ◌≤◌, ◌==◌, if◌then◌else◌, List, length, map}
use Rattle.std.specs.Prelude.{slice_index, sum_by}
use Rattle.coflow_units.specs.declared.limits.TheConstants.{MAX_COFLOWS}
use Rattle.std.specs.List.{range_with_len}
use Rattle.port_load.specs.MarkTable.{width}

-- the number of each block, row by row, and the numbers of the blocks
pub record CellTable : Type 0 where
  pub rows : ℕ
  pub columns : ℕ
  pub blocks : List ℕ
  pub numbers : List ℕ

-- stands for a block that is not there
abbrev pub no_block : ℕ
no_block = 4294967295

-- no number stands behind a block that is not there, so a cell of it is read as 0
abbrev pub cell_of : ℕ → List ℕ → List ℕ → ℕ → ℕ → ℕ
cell_of columns blocks numbers row column =
    slice_index numbers (slice_index blocks (row * width columns + column / 64) * 64 + column % 64)

-- all cells, row by row
abbrev pub cells_in : CellTable → List ℕ
cells_in t = map (λ k. cell_of t.columns t.blocks t.numbers (k / t.columns) (k % t.columns))
    (range_with_len 0 (t.rows * t.columns))

-- how many blocks are there
abbrev pub opened : List ℕ → ℕ
opened blocks = sum_by (λ k. if slice_index blocks k == no_block then 0 else 1) (range_with_len 0 (length blocks))

-- the blocks that are there have 64 numbers each, and no two of them the same; and there is room for all
pub record IsBlocks (rows columns : ℕ) (blocks numbers : List ℕ) (room : ℕ) : Type 0 where
  pub rows_limit : rows ≤ MAX_COFLOWS
  pub columns_limit : columns ≤ MAX_COFLOWS
  pub blocks_len : length blocks ≡ rows * width columns
  pub numbers_len : length numbers ≡ opened blocks * 64
  pub inside : (k : ℕ) → k < length blocks → slice_index blocks k ≢ no_block →
      slice_index blocks k * 64 + 64 ≤ length numbers
  pub apart : (j k : ℕ) → j < length blocks → k < length blocks → slice_index blocks j ≢ no_block →
      slice_index blocks j ≡ slice_index blocks k → j ≡ k
  pub room_is : length blocks * 64 ≤ room

-- the two tables have the same numbers of rows and columns
pub record HasSizeOf (old new : CellTable) : Type 0 where
  pub rows : new.rows ≡ old.rows
  pub columns : new.columns ≡ old.columns
