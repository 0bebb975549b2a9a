-- Grants that are kept while flows lose units: the granted ranks, and the ports at which something may be to be had.
-- A rank is the place of a flow in the order in which flows are granted. An ingress port has its own number as a port,
-- and an egress port comes after all of these.
use Rattle.std.specs.Prelude.{◌≡◌, ◌≢◌, ℕ, ◌+◌, ◌<◌, ◌≤◌, ◌⊎◌, List, Contains, length}
use Rattle.std.specs.List.Sorted.{IsStrictlyIncreasing}
use Rattle.coflow_units.specs.declared.fabric.Flow.{Flow}
use Rattle.coflow_units.specs.Flows.{coflow_of, ingress_of, egress_of}
use Rattle.coflow_units.specs.Grants.{ComesBefore}

-- how many ranks there are, and the two ports of each
pub record Graph : Type 0 where
  pub count : ℕ
  pub first : ℕ → ℕ
  pub second : ℕ → ℕ

-- the two ranks have a port in common
abbrev pub Meets : Graph → ℕ → ℕ → Type 0
Meets g r s = (g.first r ≡ g.first s) ⊎ (g.second r ≡ g.second s)

-- the rank has the port
abbrev pub Touches : Graph → ℕ → ℕ → Type 0
Touches g port r = (g.first r ≡ port) ⊎ (g.second r ≡ port)

-- the rank is granted, or one that is granted comes before it and has a port in common
abbrev pub IsCovered : Graph → (ℕ → Type 0) → ℕ → Type 0
IsCovered g granted r = (s : ℕ) × granted s × (s ≤ r) × Meets g s r

-- The granted ranks owe, and no two of them share a port. A rank that owes is covered, or one of its ports waits.
pub record IsKept (g : Graph) (left : ℕ → ℕ) (granted waits : ℕ → Type 0) : Type 0 where
  pub known : (r : ℕ) → granted r → r < g.count
  pub owed : (r : ℕ) → granted r → 0 < left r
  pub apart : (r s : ℕ) → granted r → granted s → Meets g r s → r ≡ s
  pub rest : (r : ℕ) → r < g.count → 0 < left r → IsCovered g granted r ⊎ (waits (g.first r) ⊎ waits (g.second r))

-- below a bound nothing is to be had at the port
abbrev pub IsClear : Graph → (ℕ → ℕ) → (ℕ → Type 0) → ℕ → ℕ → Type 0
IsClear g left granted port bound = (r : ℕ) → r < bound → r < g.count → 0 < left r → Touches g port r →
    IsCovered g granted r

-- A rank goes in at a port that waits: it is the least that is to be had there, and comes before what is granted at its
-- ports.
-- What was granted there goes out, and its other port waits then. The port at which the rank went in may leave.
pub record IsPutIn (g : Graph) (left : ℕ → ℕ) (granted after waits more : ℕ → Type 0) (port rank : ℕ) : Type 0 where
  pub sides : (r s : ℕ) → r < g.count → s < g.count → g.first r ≢ g.second s
  pub known : rank < g.count
  pub owes : 0 < left rank
  pub here : Touches g port rank
  pub later : (s : ℕ) → granted s → Meets g s rank → rank < s
  pub clear : IsClear g left granted port rank
  pub in' : after rank
  pub from : (r : ℕ) → after r → (r ≡ rank) ⊎ (granted r × (Meets g r rank → ⊥))
  pub keeps : (r : ℕ) → granted r → (Meets g r rank → ⊥) → after r
  pub stays : (q : ℕ) → waits q → (q ≡ port) ⊎ more q
  pub freed_first : (s : ℕ) → granted s → Meets g s rank → (g.first s ≡ g.first rank) ⊎ more (g.first s)
  pub freed_second : (s : ℕ) → granted s → Meets g s rank → (g.second s ≡ g.second rank) ⊎ more (g.second s)

-- A rank owes nothing any more: it goes out, and both of its ports wait.
pub record IsEnded (g : Graph) (left lower : ℕ → ℕ) (granted after waits more : ℕ → Type 0) (rank : ℕ) : Type 0 where
  pub ended : lower rank ≡ 0
  pub others : (r : ℕ) → r ≢ rank → lower r ≡ left r
  pub from : (r : ℕ) → after r → granted r × (r ≢ rank)
  pub keeps : (r : ℕ) → granted r → r ≢ rank → after r
  pub stays : (q : ℕ) → waits q → more q
  pub first : more (g.first rank)
  pub second : more (g.second rank)

-- ranks and ports as lists
abbrev pub IsKeptList : Graph → (ℕ → ℕ) → List ℕ → List ℕ → Type 0
IsKeptList g left granted waits = IsKept g left (λ r. Contains granted r) (λ p. Contains waits p)

-- The ranks are flows of the line, in the order in which they are granted; a flow of the line that owes has a rank.
pub record IsLined (flows : List Flow) (line : List ℕ) (left : ℕ → ℕ) (ports : ℕ) (number : ℕ →
    ℕ) (g : Graph) : Type 0 where
  pub flow : (r : ℕ) → r < g.count → number r < length flows
  pub in_line : (r : ℕ) → r < g.count → Contains line (coflow_of flows (number r))
  pub rises : (r s : ℕ) → r < s → s < g.count → ComesBefore flows line (number r) (number s)
  pub all : (f : ℕ) → f < length flows → Contains line (coflow_of flows f) → 0 < left f →
      (r : ℕ) × (r < g.count) × (number r ≡ f)
  pub first_is : (r : ℕ) → r < g.count → g.first r ≡ ingress_of flows (number r)
  pub second_is : (r : ℕ) → r < g.count → g.second r ≡ ports + egress_of flows (number r)

-- the list has the numbers of the granted ranks, ascending
pub record IsTold (number : ℕ → ℕ) (granted : ℕ → Type 0) (told : List ℕ) : Type 0 where
  pub ascending : IsStrictlyIncreasing told
  pub from : (f : ℕ) → Contains told f → (r : ℕ) × granted r × (number r ≡ f)
  pub all : (r : ℕ) → granted r → Contains told (number r)
