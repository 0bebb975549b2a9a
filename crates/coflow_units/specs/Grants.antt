-- The grants of one slot: the greedy matching of the flows, taken in the order of the line. It is the one set of flows
-- that the rule below describes.
-- This is the greedy allocation of Sincronia (Agarwal, Rajakrishnan, Narayan, Agarwal, Shmoys and Vahdat, "Sincronia:
-- near-optimal network design for coflows", SIGCOMM 2018), in slots of one unit.
use Rattle.std.specs.Prelude.{◌≡◌, ℕ, ◌<◌, ◌≤◌, ◌⊎◌, ◌==◌, List, All, Contains, length, position, unwrap_or}
use Rattle.std.specs.List.Sorted.{IsStrictlyIncreasing}
use Rattle.coflow_units.specs.declared.fabric.Flow.{Flow}
use Rattle.coflow_units.specs.Flows.{coflow_of, SharesPort}

-- the place of a coflow in a line, or the length of the line where it is not there
abbrev pub place_in : List ℕ → ℕ → ℕ
place_in line coflow = unwrap_or (position (λ x. x == coflow) line) (length line)

-- flows come by the place of their coflow in the line, then by number
abbrev pub ComesBefore : List Flow → List ℕ → ℕ → ℕ → Type 0
ComesBefore flows line g f =
    (place_in line (coflow_of flows g) < place_in line (coflow_of flows f))
    ⊎ ((place_in line (coflow_of flows g) ≡ place_in line (coflow_of flows f)) × (g < f))

-- the flows of the first k coflows of the line, and those of the next coflow with a number below n
abbrev pub IsLookedAt : List Flow → List ℕ → ℕ → ℕ → ℕ → Type 0
IsLookedAt flows line k n f =
    (place_in line (coflow_of flows f) < k) ⊎ ((place_in line (coflow_of flows f) ≡ k) × (f < n))

-- a granted flow that comes before has a port in common
abbrev pub IsBlocked : List Flow → List ℕ → List ℕ → ℕ → Type 0
IsBlocked flows line granted f = (g : ℕ) × Contains granted g × ComesBefore flows line g f × SharesPort flows g f

-- A granted flow has units left and is not blocked. A flow of the line that has units left is granted or blocked.
pub record IsGrants (flows : List Flow) (line : List ℕ) (left : ℕ → ℕ) (granted : List ℕ) : Type 0 where
  pub ascending : IsStrictlyIncreasing granted
  pub flow : All (λ f. f < length flows) granted
  pub in_line : All (λ f. Contains line (coflow_of flows f)) granted
  pub owed : (f : ℕ) → Contains granted f → 0 < left f
  pub free : (f : ℕ) → Contains granted f → IsBlocked flows line granted f → ⊥
  pub rest : (f : ℕ) → f < length flows → Contains line (coflow_of flows f) → 0 < left f →
      Contains granted f ⊎ IsBlocked flows line granted f

-- how many slots the grants may be served as they are: at most the number asked for, and as long as each granted flow
-- has units left
pub record IsRunLength (left : ℕ → ℕ) (granted : List ℕ) (most n : ℕ) : Type 0 where
  pub asked : n ≤ most
  pub owed : (f : ℕ) → Contains granted f → n ≤ left f
  pub longest : (n ≡ most) ⊎ ((f : ℕ) × Contains granted f × (left f ≡ n))
