-- A slot's grants after some of the flows were looked at, in the order of the line.
use Rattle.std.specs.Prelude.{◌≡◌, ℕ, ◌<◌, ◌≤◌, ◌⊎◌, Bool, true, false, List, Option, Some, Contains, length}
use Rattle.std.specs.List.{slice_index_or}
use Rattle.coflow_units.specs.declared.fabric.Flow.{Flow}
use Rattle.coflow_units.specs.Flows.{coflow_of, ingress_of, egress_of, IsDistinct, SharesPort}
use Rattle.coflow_units.specs.Grants.{place_in, ComesBefore, IsLookedAt}
use Rattle.greedy_rates.specs.Room.{flow_at_ingress}

-- the flow stands at its ingress
abbrev pub Stands : List Flow → List (Option ℕ) → ℕ → Type 0
Stands flows at f = flow_at_ingress at (ingress_of flows f) ≡ Some f

-- a flow that stands comes before and has a port in common
abbrev pub IsCrossed : List Flow → List ℕ → List (Option ℕ) → ℕ → Type 0
IsCrossed flows line at f = (g : ℕ) × Stands flows at g × ComesBefore flows line g f × SharesPort flows g f

-- The flows that stand were looked at and owe, no two of them share a port, and the egress ports marked as busy are
-- theirs.
-- A flow that was looked at and owes stands too, or one that stands comes before it and has a port in common.
pub record IsGranting (flows : List Flow) (line : List ℕ) (left : ℕ →
    ℕ) (k n : ℕ) (at : List (Option ℕ)) (busy : List Bool) : Type 0 where
  pub own : (ingress f : ℕ) → flow_at_ingress at ingress ≡ Some f → ingress_of flows f ≡ ingress
  pub flow : (f : ℕ) → Stands flows at f → f < length flows
  pub looked_at : (f : ℕ) → Stands flows at f → IsLookedAt flows line k n f
  pub owed : (f : ℕ) → Stands flows at f → 0 < left f
  pub apart : (f g : ℕ) → Stands flows at f → Stands flows at g → egress_of flows f ≡ egress_of flows g → f ≡ g
  pub used : (f : ℕ) → Stands flows at f → slice_index_or busy (egress_of flows f) false ≡ true
  pub by : (egress : ℕ) → slice_index_or busy egress false ≡ true →
      (f : ℕ) × Stands flows at f × (egress_of flows f ≡ egress)
  pub rest : (f : ℕ) → f < length flows → IsLookedAt flows line k n f → 0 < left f →
      Stands flows at f ⊎ IsCrossed flows line at f

-- the flows from the first number up to the end are those of the coflow at place k of the line
pub record IsNext (flows : List Flow) (line : List ℕ) (k first end : ℕ) : Type 0 where
  pub placed : (f : ℕ) → first ≤ f → f < end → place_in line (coflow_of flows f) ≡ k
  pub all : (f : ℕ) → f < length flows → place_in line (coflow_of flows f) ≡ k → (first ≤ f) × (f < end)

-- the list has each flow that stands at one of the first n ingress ports, once
pub record IsListing (at : List (Option ℕ)) (n : ℕ) (granted : List ℕ) : Type 0 where
  pub from : (f : ℕ) → Contains granted f → (ingress : ℕ) × (ingress < n) × (flow_at_ingress at ingress ≡ Some f)
  pub all : (ingress f : ℕ) → ingress < n → flow_at_ingress at ingress ≡ Some f → Contains granted f
  pub once : IsDistinct granted
