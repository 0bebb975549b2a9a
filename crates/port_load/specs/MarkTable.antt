-- Marks of the columns of each row of a table, in words of 64 bits.
use Rattle.std.specs.Prelude.{◌≡◌, ℕ, ◌+◌, ◌*◌, ◌/◌, ◌%◌, ◌≤◌, List, length, slice_index}
use Rattle.coflow_units.specs.declared.limits.TheConstants.{MAX_COFLOWS}
use Rattle.std.specs.Int.{bit_at}

pub record MarkTable : Type 0 where
  pub rows : ℕ
  pub columns : ℕ
  pub words : List ℕ

-- how many words a row takes
abbrev pub width : ℕ → ℕ
width columns = columns / 64 + 1

-- each row has its words
pub record IsMarking (rows columns : ℕ) (words : List ℕ) : Type 0 where
  pub columns_limit : columns ≤ MAX_COFLOWS
  pub words_len : length words ≡ rows * width columns

-- the bit of a column: 1 where it is marked
abbrev pub bit_of : List ℕ → ℕ → ℕ → ℕ → ℕ
bit_of words columns row column = bit_at (slice_index words (row * width columns + column / 64)) (column % 64)

abbrev pub mark_at : MarkTable → ℕ → ℕ → ℕ
mark_at m row column = bit_of m.words m.columns row column

-- the two tables have the same numbers of rows and columns
pub record HasShapeOf (old new : MarkTable) : Type 0 where
  pub rows : new.rows ≡ old.rows
  pub columns : new.columns ≡ old.columns
