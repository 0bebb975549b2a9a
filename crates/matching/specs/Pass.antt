-- A pass over the rows: the grants of one row after another.
use Rattle.std.specs.Prelude.{◌≡◌, ◌≢◌, ℕ, ◌+◌, ◌<◌, ◌⊎◌, List, length, slice_index}
use Rattle.matching.specs.declared.rows.Rows.{Rows}
use Rattle.matching.specs.declared.tables.Tables.{Tables}
use Rattle.matching.specs.Kept.{Graph, IsCovered}
use Rattle.matching.specs.Board.{graph_of, no_rank, IsBoard, Stands}
use Rattle.matching.specs.Rows.{bit_of, row_of}
use Rattle.matching.specs.Sound.{IsFirstOfPair, left_at}

-- the rank is below a bound, or in one of the first k rows
abbrev pub IsPassed : Rows → ℕ → ℕ → ℕ → Type 0
IsPassed rows bound k r = (r < bound) ⊎ (row_of rows r < k)

-- a port of the second side is free where nothing stands there
pub record IsFree (ports : ℕ) (at bits : List ℕ) : Type 0 where
  pub free : (e : ℕ) → e < ports → bit_of bits 0 e ≡ 1 → slice_index at (ports + e) ≡ no_rank
  pub taken : (e : ℕ) → e < ports → bit_of bits 0 e ≡ 0 → slice_index at (ports + e) ≢ no_rank

-- the ranks that are granted owe and were passed, and each rank that was passed and owes is covered
pub record IsPassing (ports : ℕ) (g : Graph) (left : ℕ → ℕ) (rows : Rows) (at bits : List ℕ) (bound k : ℕ) :
    Type 0 where
  pub board : IsBoard ports g at
  pub owed : (r : ℕ) → Stands g at r → 0 < left r
  pub top : IsFirstOfPair g left (Stands g at)
  pub before : (r : ℕ) → Stands g at r → IsPassed rows bound k r
  pub covered : (r : ℕ) → r < g.count → 0 < left r → IsPassed rows bound k r → IsCovered g (Stands g at) r
  pub free : IsFree ports at bits

-- the same, in tables, with the ranks below the bound that was settled
abbrev pub IsPassingIn : Tables → List ℕ → ℕ → Type 0
IsPassingIn m free k =
    IsPassing m.ranks.ports (graph_of m.ranks) (left_at m) m.heads.rows m.board.at.items free m.settled k

-- a bit is set exactly where nothing stands
pub record IsFreeBits (at bits : List ℕ) : Type 0 where
  pub free : (e : ℕ) → e < length at → bit_of bits 0 e ≡ 1 → slice_index at e ≡ no_rank
  pub taken : (e : ℕ) → e < length at → bit_of bits 0 e ≡ 0 → slice_index at e ≢ no_rank
