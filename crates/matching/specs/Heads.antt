-- For two ports, the least rank between them that owes.
use Rattle.std.specs.Prelude.{◌≡◌, ℕ, ◌+◌, ◌-◌, ◌*◌, ◌<◌, ◌≤◌, ◌⊎◌, if◌then◌else◌, List, length, nat_lt, slice_index}
use Rattle.matching.specs.Kept.{Graph, Touches}
use Rattle.matching.specs.Board.{no_rank}

-- the least of the heads that are below the numbers at their places
pub record IsLeastOpen (heads others : List ℕ) (least : ℕ) : Type 0 where
  pub below : (k : ℕ) → k < length heads → slice_index heads k < slice_index others k → least ≤ slice_index heads k
  pub found : (least ≡ no_rank)
      ⊎ ((k : ℕ) × (k < length heads) × (slice_index heads k ≡ least) × (least < slice_index others k))

-- the k-th port of the other side
abbrev pub opposite : ℕ → ℕ → ℕ → ℕ
opposite ports port k = if nat_lt port ports then ports + k else k

-- the head between a port and the k-th port of the other side
abbrev pub head_at : ℕ → List ℕ → ℕ → ℕ → ℕ
head_at ports heads port k = slice_index heads (port * ports + k)

-- the least of the port's heads that come before what stands at their other ports
pub record IsLooked (ports : ℕ) (heads at : List ℕ) (port least : ℕ) : Type 0 where
  pub below : (k : ℕ) → k < ports → head_at ports heads port k < slice_index at (opposite ports port k) →
      least ≤ head_at ports heads port k
  pub found : (least ≡ no_rank)
      ⊎ ((k : ℕ) × (k < ports) × (head_at ports heads port k ≡ least) ×
      (least < slice_index at (opposite ports port k)))

-- the least rank between two ports that owes, if there is one
pub record IsHead (g : Graph) (left : ℕ → ℕ) (p q head : ℕ) : Type 0 where
  pub one : (head ≡ no_rank) ⊎ ((head < g.count) × (0 < left head) × Touches g p head × Touches g q head)
  pub least : (r : ℕ) → r < g.count → 0 < left r → Touches g p r → Touches g q r → head ≤ r

-- the table has the head between each two ports, in the rows of both
pub record IsHeads (ports : ℕ) (g : Graph) (left : ℕ → ℕ) (heads : List ℕ) : Type 0 where
  pub size : length heads ≡ (ports + ports) * ports
  pub head : (p k : ℕ) → p < ports + ports → k < ports → IsHead g left p (opposite ports p k) (head_at ports heads p k)

-- the two ports are those of the k-th place of a row
abbrev pub IsBetween : ℕ → ℕ → ℕ → ℕ → ℕ → Type 0
IsBetween ports first second p k =
    ((p ≡ first) × (opposite ports p k ≡ second)) ⊎ ((p ≡ second) × (opposite ports p k ≡ first))

-- the head between two ports is another now
pub record IsReplaced (ports : ℕ) (old new : List ℕ) (first second head : ℕ) : Type 0 where
  pub here : (p k : ℕ) → p < ports + ports → k < ports → IsBetween ports first second p k → head_at ports new p k ≡ head
  pub others : (p k : ℕ) → p < ports + ports → k < ports → (IsBetween ports first second p k → ⊥) →
      head_at ports new p k ≡ head_at ports old p k

-- the next rank between the same ports, if there is one
pub record IsNext (g : Graph) (r next : ℕ) : Type 0 where
  pub one : (next ≡ no_rank)
      ⊎ ((next < g.count) × (r < next) × (g.first next ≡ g.first r) × (g.second next ≡ g.second r))
  pub least : (s : ℕ) → s < g.count → r < s → g.first s ≡ g.first r → g.second s ≡ g.second r → next ≤ s

-- from a rank on the table has the next ones
pub record IsChain (g : Graph) (next : List ℕ) (from : ℕ) : Type 0 where
  pub fits : g.count ≤ length next
  pub next_is : (r : ℕ) → from ≤ r → r < g.count → IsNext g r (slice_index next r)

-- behind a rank that owes, all ranks between its ports owe
abbrev pub IsOwingBehind : Graph → (ℕ → ℕ) → Type 0
IsOwingBehind g left = (r s : ℕ) → r < s → s < g.count → g.first s ≡ g.first r → g.second s ≡ g.second r → 0 < left r →
    0 < left s

-- exactly the ranks from a number on owe
abbrev pub from_on : ℕ → ℕ → ℕ
from_on k r = r + 1 - k
