-- The action that an online run takes: the first of a list that applies.
use Rattle.std.specs.Prelude.{◌≡◌, ℕ, ◌+◌, ◌<◌, ◌≤◌, List, None, slice_index}
use Rattle.coflow_units.specs.declared.limits.TheConstants.{MAX_PUBLISHINGS}
use Rattle.epochs.specs.declared.action.Action.{Action}
use Rattle.epochs.specs.declared.action.Action.TheVariants.{Register, Withdraw, Publish, Run, Skip, End, TooMany}
use Rattle.epochs.specs.Course.{ComesFirst, Course, IsEpochStart, IsFirstServed, IsNextArrival, IsNextStop, IsPresent}
use Rattle.epochs.specs.Course.{ServedFirst, SomeOwes, Waits, arrival_of}

-- the coflow has arrived and not joined, and is the first such coflow by arrival and then by number
pub record Registers (s : Course) (time coflow : ℕ) : Type 0 where
  pub waits : Waits s coflow
  pub arrived : arrival_of s coflow ≤ time
  pub first : (other : ℕ) → Waits s other → arrival_of s other ≤ time → ComesFirst s.arrivals coflow other

-- an epoch starts whose order was not published yet, and some coflow that is present owes a unit
pub record IsDue (s : Course) (time : ℕ) (owed : List ℕ) : Type 0 where
  pub start : IsEpochStart s time
  pub owing : SomeOwes s.registered s.withdrawn owed

-- an order is due, and the coflow is the first by number that is present and owes nothing
pub record Withdraws (s : Course) (time : ℕ) (owed : List ℕ) (coflow : ℕ) : Type 0 where
  pub due : IsDue s time owed
  pub served : ServedFirst s.registered s.withdrawn owed coflow

-- an order is due, and each coflow that is present owes a unit
pub record IsReady (s : Course) (time : ℕ) (owed : List ℕ) : Type 0 where
  pub due : IsDue s time owed
  pub owing : (coflow : ℕ) → IsPresent s.registered s.withdrawn coflow → 0 < slice_index owed coflow

-- one more order may be published
abbrev pub Publishes : Course → ℕ → List ℕ → Type 0
Publishes s time owed = IsReady s time owed × (s.published < MAX_PUBLISHINGS)

-- as many orders were published as may be; the count is that of one more
pub record IsTooMany (s : Course) (time : ℕ) (owed : List ℕ) (count : ℕ) : Type 0 where
  pub ready : IsReady s time owed
  pub published : s.published ≡ MAX_PUBLISHINGS
  pub is_next : count ≡ MAX_PUBLISHINGS + 1

-- some coflow that is present owes a unit, and `most` slots on an epoch starts or a coflow arrives for the first time
pub record Runs (s : Course) (time : ℕ) (owed : List ℕ) (most : ℕ) : Type 0 where
  pub owing : SomeOwes s.registered s.withdrawn owed
  pub stop : IsNextStop s time (time + most)

-- some coflow has not joined, and the slot is the one after the next arrival
pub record Skips (s : Course) (time : ℕ) (to : ℕ) : Type 0 where
  pub some : (coflow : ℕ) × Waits s coflow
  pub arrival : (at : ℕ) × IsNextArrival s.arrivals time at × (to ≡ at + 1)

-- the action applies at the time, where the coflows owe so many units
abbrev pub Applies : Course → ℕ → List ℕ → Action → Type 0
Applies s time owed (Register coflow) = Registers s time coflow
Applies s time owed (Withdraw coflow) = Withdraws s time owed coflow
Applies s time owed Publish = Publishes s time owed
Applies s time owed (TooMany count) = IsTooMany s time owed count
Applies s time owed (Run most) = Runs s time owed most
Applies s time owed (Skip to) = Skips s time to
Applies s time owed End = Unit {0}

-- the place of an action in the list, in which actions are tried
abbrev pub place : Action → ℕ
place (Register coflow) = 1
place (Withdraw coflow) = 2
place Publish = 3
place (TooMany count) = 3
place (Run most) = 4
place (Skip to) = 5
place End = 6

-- the action applies, and none that comes before it in the list does
pub record IsFirstAction (s : Course) (time : ℕ) (owed : List ℕ) (action : Action) : Type 0 where
  pub applies : Applies s time owed action
  pub first : (other : Action) → Applies s time owed other → place action ≤ place other

-- ---- parts of the choice

-- what is done where an order is due: a coflow that owes nothing leaves, or else the order is published, or there are
-- too many
abbrev pub IsOrderAction : Course → List ℕ → Action → Type 0
IsOrderAction s owed (Withdraw coflow) = ServedFirst s.registered s.withdrawn owed coflow
IsOrderAction s owed Publish = IsFirstServed s.registered s.withdrawn owed None × (s.published < MAX_PUBLISHINGS)
IsOrderAction s owed (TooMany count) =
    IsFirstServed s.registered s.withdrawn owed None × (s.published ≡ MAX_PUBLISHINGS) × (count ≡ MAX_PUBLISHINGS + 1)
IsOrderAction s owed other = ⊥

-- what is done where nobody owes anything and everybody who arrived has joined
abbrev pub IsIdleAction : Course → ℕ → Action → Type 0
IsIdleAction s time (Skip to) = Skips s time to
IsIdleAction s time End = (coflow : ℕ) → Waits s coflow → ⊥
IsIdleAction s time other = ⊥
