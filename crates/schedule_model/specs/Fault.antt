-- The first fault of a schedule: numbers that are no flow's come before clashes at ports, and these before wrong
-- numbers of units. Slots count from 1.
use Rattle.std.specs.Prelude.{◌≡◌, ◌≢◌, ℕ, ◌<◌, ◌≤◌, ◌-◌, ◌⊎◌, true, List, [], All, Contains, length, Option, Some}
use Rattle.std.specs.Prelude.{None}
use Rattle.std.specs.List.{slice_index_or}
use Rattle.coflow_units.specs.declared.fabric.Flow.{Flow}
use Rattle.coflow_units.specs.declared.fabric.Port.{Port}
use Rattle.coflow_units.specs.declared.fabric.Side.{Side}
use Rattle.coflow_units.specs.declared.fabric.Side.TheVariants.{Ingress, Egress}
use Rattle.coflow_units.specs.Flows.{flow_at, units_of, uses}
use Rattle.coflow_units.specs.Schedule.{IsClear, IsValid, times}
use Rattle.schedule_model.specs.declared.fault.ScheduleFault.{ScheduleFault}
use Rattle.schedule_model.specs.declared.fault.ScheduleFault.TheVariants.{NoFlow, Clash, Units}
use Rattle.schedule_model.specs.RunList.{NamesFlows}

-- the number stands in the slot
pub record StandsIn (slots : List (List ℕ)) (slot f : ℕ) : Type 0 where
  pub counted : 1 ≤ slot
  pub inside : slot ≤ length slots
  pub has : Contains (slice_index_or slots (slot - 1) []) f

-- two flows of the slot use the port
pub record ClashesAt (flows : List Flow) (slots : List (List ℕ)) (slot : ℕ) (port : Port) : Type 0 where
  pub one : ℕ
  pub other : ℕ
  pub apart : one ≢ other
  pub one_stands : StandsIn slots slot one
  pub other_stands : StandsIn slots slot other
  pub one_uses : uses port (flow_at flows one) ≡ true
  pub other_uses : uses port (flow_at flows other) ≡ true

-- ports come by side, ingress first, and then by number
abbrev pub number_no_later : Side → ℕ → Side → ℕ → Type 0
number_no_later Ingress a Ingress b = a ≤ b
number_no_later Ingress a Egress b = Unit {0}
number_no_later Egress a Ingress b = ⊥
number_no_later Egress a Egress b = a ≤ b

abbrev pub IsNoLater : Port → Port → Type 0
IsNoLater port other = number_no_later port.side port.number other.side other.number

-- the slot is the first with a number that is no flow's, and the number is the least such number in it
pub record IsFirstNoFlow (flows : List Flow) (slots : List (List ℕ)) (slot f : ℕ) : Type 0 where
  pub stands : StandsIn slots slot f
  pub no_flow : length flows ≤ f
  pub first : (t g : ℕ) → StandsIn slots t g → length flows ≤ g → (slot < t) ⊎ ((slot ≡ t) × (f ≤ g))

-- all numbers are flows', the slot is the first with a clash, and the port is the first that clashes in it
pub record IsFirstClash (flows : List Flow) (slots : List (List ℕ)) (slot : ℕ) (port : Port) : Type 0 where
  pub names : NamesFlows (length flows) slots
  pub clashes : ClashesAt flows slots slot port
  pub first : (t : ℕ) (other : Port) → ClashesAt flows slots t other → (slot < t) ⊎ ((slot ≡ t) × IsNoLater port other)

-- no slot has a fault, and the flow is the first that stands in another number of slots than it has units
pub record IsFirstMiscount (flows : List Flow) (slots : List (List ℕ)) (f have want : ℕ) : Type 0 where
  pub clear : All (IsClear flows) slots
  pub flow : f < length flows
  pub stands_in : times slots f ≡ have
  pub wants : units_of flows f ≡ want
  pub differ : have ≢ want
  pub first : (g : ℕ) → g < f → times slots g ≡ units_of flows g

-- the schedule is valid, or this is its first fault
abbrev pub IsFirstFault : List Flow → List (List ℕ) → Option ScheduleFault → Type 0
IsFirstFault flows slots None = IsValid flows slots
IsFirstFault flows slots (Some (NoFlow slot f)) = IsFirstNoFlow flows slots slot f
IsFirstFault flows slots (Some (Clash slot port)) = IsFirstClash flows slots slot port
IsFirstFault flows slots (Some (Units f have want)) = IsFirstMiscount flows slots f have want
