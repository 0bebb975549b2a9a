-- Rows of ranks, and for each row the ports to which its ranks owe.
use Rattle.std.specs.Prelude.{◌≡◌, ℕ, ◌+◌, ◌*◌, ◌/◌, ◌%◌, ◌^◌, ◌<◌, ◌≤◌, List, Option, None, Some, length, slice_index}
use Rattle.std.specs.Int.{bit_at}
use Rattle.matching.specs.declared.rows.Rows.{Rows}
use Rattle.matching.specs.Kept.{Graph}

-- the bit of a port in words from a place on
abbrev pub bit_of : List ℕ → ℕ → ℕ → ℕ
bit_of words start e = bit_at (slice_index words (start + e / 64)) (e % 64)

-- 1 where the row has a rank that ends at the port and owes
abbrev pub owes_at : Rows → ℕ → ℕ → ℕ
owes_at rows k e = bit_of rows.owes.items (k * rows.width) e

-- the row of a rank
abbrev pub row_of : Rows → ℕ → ℕ
row_of rows r = slice_index rows.row.items r

-- a row has a bit for each port, and the table has its rows
pub record IsShaped (ports : ℕ) (rows : Rows) : Type 0 where
  pub wide : ports ≤ 64 * rows.width
  pub words : length rows.owes.items ≡ length rows.first.items * rows.width
  pub few : length rows.first.items < 2 ^ 32

-- no bit is set
abbrev pub IsBlank : Rows → Type 0
IsBlank rows = (k e : ℕ) → owes_at rows k e ≡ 0

-- no bit is set behind the rows that are in use
pub record HoldsRows (ports : ℕ) (rows : Rows) : Type 0 where
  pub shape : IsShaped ports rows
  pub fits : rows.count ≤ length rows.first.items
  pub behind : (k e : ℕ) → rows.count ≤ k → k < length rows.first.items → e < 64 * rows.width → owes_at rows k e ≡ 0

-- The first ranks have rows: they follow one another, and in a row the ports of the second side rise.
-- The bits are set exactly where a rank of the row owes.
pub record IsRows (ports : ℕ) (g : Graph) (left : ℕ → ℕ) (rows : Rows) : Type 0 where
  pub shape : IsShaped ports rows
  pub fits : rows.count ≤ length rows.first.items
  pub ranked : rows.ranked ≤ g.count
  pub known : rows.ranked ≤ length rows.row.items
  pub inside : (k : ℕ) → k < rows.count → slice_index rows.first.items k < ports
  pub row : (r : ℕ) → r < rows.ranked → row_of rows r < rows.count
  pub first : (r : ℕ) → r < rows.ranked → slice_index rows.first.items (row_of rows r) ≡ g.first r
  pub follows : (r s : ℕ) → r < s → s < rows.ranked → row_of rows r ≤ row_of rows s
  pub rises : (r s : ℕ) → r < s → s < rows.ranked → row_of rows r ≡ row_of rows s → g.second r < g.second s
  pub owed : (r e : ℕ) → r < rows.ranked → 0 < left r → g.second r ≡ ports + e → owes_at rows (row_of rows r) e ≡ 1
  pub only : (k e : ℕ) → k < length rows.first.items → e < 64 * rows.width → owes_at rows k e ≡ 1 →
      (r : ℕ) × (r < rows.ranked) × (row_of rows r ≡ k) × (g.second r ≡ ports + e) × (0 < left r)

-- the last rank that has a row is in the last row
abbrev pub HasLast : Rows → Type 0
HasLast rows = (r : ℕ) → r + 1 ≡ rows.ranked → row_of rows r + 1 ≡ rows.count

-- the rank begins where the one before it does, and ends at a later port
abbrev pub GoesOn : Graph → ℕ → Type 0
GoesOn g rank = (r : ℕ) × (r + 1 ≡ rank) × (g.first r ≡ g.first rank) × (g.second r < g.second rank)

-- the last row can take the rank
pub record IsOpen (g : Graph) (rows : Rows) (rank : ℕ) : Type 0 where
  pub some : 0 < rows.count
  pub first : (k : ℕ) → k + 1 ≡ rows.count → slice_index rows.first.items k ≡ g.first rank
  pub later : (r : ℕ) → r < rows.ranked → row_of rows r + 1 ≡ rows.count → g.second r < g.second rank

-- the first port that is free and to which the row owes
abbrev pub IsLeastFree : Rows → List ℕ → ℕ → Option ℕ → Type 0
IsLeastFree rows free k None = (e : ℕ) → e < 64 * rows.width → owes_at rows k e ≡ 1 → bit_of free 0 e ≡ 0
IsLeastFree rows free k (Some least) =
    (least < 64 * rows.width) × (owes_at rows k least ≡ 1) × (bit_of free 0 least ≡ 1) ×
    ((e : ℕ) → e < least → owes_at rows k e ≡ 1 → bit_of free 0 e ≡ 0)
