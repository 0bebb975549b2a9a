-- Certificates: solutions of the dual of the linear program of the parallel inequalities, in fixed point. A feasible
-- one bounds the cost of every schedule from below (Mastrolilli, Queyranne, Schulz, Svensson and Uhan, "Minimizing the
-- sum of weighted completion times in a concurrent open shop", Operations Research Letters 2010).
-- A list of entries is taken from the last place to the first. So the head of the list is its last place, the tail
-- holds the places before it, and the front of the head's place is all coflows of the list. A report that begins with
-- place 1 is turned by `reverse`.
use Rattle.std.specs.Prelude.{ℕ, ◌<◌, ◌≤◌, ◌+◌, ◌-◌, ◌*◌, ◌/◌, ◌^◌, ◌==◌, if◌then◌else◌, List, [], ◌∷◌, All, Contains}
use Rattle.std.specs.Prelude.{length, map, reverse, sum_by, take}
use Rattle.std.specs.List.{list_any, range_with_len, slice_index_or}
use Rattle.coflow_units.specs.declared.fabric.Flow.{Flow}
use Rattle.coflow_units.specs.declared.plan.Place.{Place}
use Rattle.coflow_units.specs.declared.fabric.Port.{Port}
use Rattle.coflow_units.specs.declared.fabric.Side.TheVariants.{Ingress}
use Rattle.coflow_units.specs.Flows.{Instance, IsDistinct}
use Rattle.coflow_units.specs.Load.{load, load_of_all, squares_of_loads}

-- the budget of a coflow of weight 1
abbrev pub scale : ℕ
scale = 2 ^ 40

-- the quotient, rounded up
abbrev pub div_up : ℕ → ℕ → ℕ
div_up n d = (n + (d - 1)) / d

-- what a coflow has to spend
abbrev pub budget : (ℕ → ℕ) → ℕ → ℕ
budget weight coflow = weight coflow * scale

-- a place of a certificate: its coflow, its port, and what each unit of the port's load costs there
pub record Entry : Type 0 where
  pub coflow : ℕ
  pub port : Port
  pub y : ℕ

-- the coflow, the port and the y of a place; its rest and its load are left out
abbrev pub entry_of : Place → Entry
entry_of x = record { coflow = x.coflow; port = x.port; y = x.y }

-- the coflows of the places up to the head's
abbrev pub front : List Entry → List ℕ
front entries = map (λ (e : Entry). e.coflow) entries

-- the load of the head's port over its front
abbrev pub front_load : List Flow → List Entry → ℕ
front_load flows [] = 0
front_load flows (e ∷ before) = load_of_all flows (front (e ∷ before)) e.port

-- what the coflow spends: y times its load on the place's port, over the places in whose fronts it is
abbrev pub used : List Flow → List Entry → ℕ → ℕ
used flows [] coflow = 0
used flows (e ∷ before) coflow =
    (if list_any (λ c. c == coflow) (front (e ∷ before)) then e.y * load flows coflow e.port else 0) +
    used flows before coflow

-- 2 * scale times the value of the dual solution: the sum over the places of y times (the square of the front's load
-- and the squares of its coflows' loads)
abbrev pub dual_value : List Flow → List Entry → ℕ
dual_value flows [] = 0
dual_value flows (e ∷ before) =
    e.y * (front_load flows (e ∷ before) * front_load flows (e ∷ before) +
    squares_of_loads flows (front (e ∷ before)) e.port) + dual_value flows before

-- the lower bound that a feasible certificate proves
abbrev pub bound : List Flow → List Entry → ℕ
bound flows entries = div_up (dual_value flows entries) (2 * scale)

-- no coflow spends more than its budget
abbrev pub IsFeasible : List Flow → (ℕ → ℕ) → List Entry → Type 0
IsFeasible flows weight entries = (coflow : ℕ) → used flows entries coflow ≤ budget weight coflow

-- what a coflow keeps of its budget; in a feasible certificate the difference is exact
abbrev pub rest : List Flow → (ℕ → ℕ) → List Entry → ℕ → ℕ
rest flows weight entries coflow = budget weight coflow - used flows entries coflow

-- the sum over the places of the number given for the coflow times the load of the front
abbrev pub over_places : List Flow → (ℕ → ℕ) → List Entry → ℕ
over_places flows number [] = 0
over_places flows number (e ∷ before) = number e.coflow * front_load flows (e ∷ before) +
    over_places flows number before

-- the sum over the places of rest times the load of the front
abbrev pub unspent : List Flow → (ℕ → ℕ) → List Entry → ℕ
unspent flows weight entries = over_places flows (rest flows weight entries) entries

-- the sum over the places of the placed coflow's load on the place's port times the load of the front
abbrev pub own_loads : List Flow → List Entry → ℕ
own_loads flows [] = 0
own_loads flows (e ∷ before) = load flows e.coflow e.port * front_load flows (e ∷ before) + own_loads flows before

-- the sum over the places of the load of the front
abbrev pub front_loads : List Flow → List Entry → ℕ
front_loads flows [] = 0
front_loads flows (e ∷ before) = front_load flows (e ∷ before) + front_loads flows before

-- what the factor of four lacks at most
abbrev pub slack : List Flow → (ℕ → ℕ) → List Entry → ℕ
slack flows weight entries = div_up (2 * unspent flows weight entries) scale

-- the entries name each coflow of the instance once, and their ports are in range
pub record IsCertificate (i : Instance) (entries : List Entry) : Type 0 where
  pub once : IsDistinct (front entries)
  pub coflow : All (Contains i.coflows) (front entries)
  pub all : All (Contains (front entries)) i.coflows
  pub port : All (λ (e : Entry). e.port.number < i.ports) entries

-- no port in range has more load of a place's front than the place's port
abbrev pub TakesGreatestPorts : List Flow → ℕ → List Entry → Type 0
TakesGreatestPorts flows ports [] = Unit {0}
TakesGreatestPorts flows ports (e ∷ before) =
    ((port : Port) → port.number < ports → load_of_all flows (front (e ∷ before)) port ≤ front_load flows (e ∷ before))
    × TakesGreatestPorts flows ports before

-- where a place's front has load on its port, the number given for its coflow is below the coflow's load there
abbrev pub IsBelowLoads : List Flow → (ℕ → ℕ) → List Entry → Type 0
IsBelowLoads flows number [] = Unit {0}
IsBelowLoads flows number (e ∷ before) =
    (0 < front_load flows (e ∷ before) → number e.coflow < load flows e.coflow e.port) ×
    IsBelowLoads flows number before

-- the order that the certificate gives: the coflow of place 1 first
abbrev pub order_of : List Entry → List ℕ
order_of entries = reverse (front entries)

-- ---- the same counted from place 1, as a report lists the places

-- the coflows of the first k places
abbrev pub first_coflows : ℕ → List Entry → List ℕ
first_coflows k places = map (λ (e : Entry). e.coflow) (take k places)

-- the sum over the places of what the term gives for the place and the coflows up to it
abbrev pub by_number : (Entry → List ℕ → ℕ) → List Entry → ℕ
by_number term places = sum_by
    (λ k. term (slice_index_or places k record { coflow = 0; port = record { side = Ingress; number = 0 }; y = 0 })
    (first_coflows (k + 1) places)) (range_with_len 0 (length places))

-- what the coflow spends: y times its load on the place's port, over the places that come no earlier than its own
abbrev pub used_by_number : List Flow → List Entry → ℕ → ℕ
used_by_number flows places coflow =
    by_number (λ (e : Entry) (up_to : List ℕ). if list_any (λ c. c == coflow) up_to then e.y * load flows coflow e.port
    else 0) places

-- 2 * scale times the value of the dual solution
abbrev pub dual_value_by_number : List Flow → List Entry → ℕ
dual_value_by_number flows places =
    by_number (λ (e : Entry) (up_to : List ℕ).
    e.y * (load_of_all flows up_to e.port * load_of_all flows up_to e.port + squares_of_loads flows up_to e.port))
    places

-- the sum over the places of the number given for the coflow times the load of the coflows up to it
abbrev pub over_places_by_number : List Flow → (ℕ → ℕ) → List Entry → ℕ
over_places_by_number flows number places =
    by_number (λ (e : Entry) (up_to : List ℕ). number e.coflow * load_of_all flows up_to e.port) places
