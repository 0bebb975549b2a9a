-- The ranks after some of the flows were looked at, in the order of the line.
use Rattle.std.specs.Prelude.{◌≡◌, ℕ, ◌+◌, ◌<◌, ◌≤◌, List, Contains, length}
use Rattle.coflow_units.specs.declared.fabric.Flow.{Flow}
use Rattle.coflow_units.specs.Flows.{coflow_of, ingress_of, egress_of}
use Rattle.coflow_units.specs.Grants.{place_in, ComesBefore, IsLookedAt}
use Rattle.matching.specs.declared.ranks.Ranks.{Ranks}
use Rattle.matching.specs.Board.{ranked_at, first_of, second_of}

-- the number of the flow at a rank
abbrev pub number_of : Ranks → ℕ → ℕ
number_of ranks r = (ranked_at ranks.flows.items r).number

-- the flows from the first number up to the end are those of the coflow at place k of the line
pub record IsCoflowAt (flows : List Flow) (line : List ℕ) (k first end : ℕ) : Type 0 where
  pub placed : (f : ℕ) → first ≤ f → f < end → place_in line (coflow_of flows f) ≡ k
  pub all : (f : ℕ) → f < length flows → place_in line (coflow_of flows f) ≡ k → (first ≤ f) × (f < end)

-- the ranks are the flows that were looked at and owe, in their order
pub record IsRanking (flows : List Flow) (line : List ℕ) (left : ℕ → ℕ) (k n : ℕ) (ranks : Ranks) : Type 0 where
  pub flow : (r : ℕ) → r < ranks.count → number_of ranks r < length flows
  pub looked_at : (r : ℕ) → r < ranks.count → IsLookedAt flows line k n (number_of ranks r)
  pub owed : (r : ℕ) → r < ranks.count → 0 < left (number_of ranks r)
  pub rises : (r s : ℕ) → r < s → s < ranks.count → ComesBefore flows line (number_of ranks r) (number_of ranks s)
  pub all : (f : ℕ) → f < length flows → IsLookedAt flows line k n f → 0 < left f →
      (r : ℕ) × (r < ranks.count) × (number_of ranks r ≡ f)
  pub first_is : (r : ℕ) → r < ranks.count → first_of ranks r ≡ ingress_of flows (number_of ranks r)
  pub second_is : (r : ℕ) → r < ranks.count → second_of ranks r ≡ ranks.ports + egress_of flows (number_of ranks r)
  pub sources : (r : ℕ) → r < ranks.count → Contains ranks.sources.ports (first_of ranks r)
