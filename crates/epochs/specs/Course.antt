-- The course of an online run: which coflows joined and left, and when an order was published last.
use Rattle.std.specs.Prelude.{◌≡◌, ◌≢◌, ℕ, ◌+◌, ◌%◌, ◌^◌, ◌<◌, ◌≤◌, ◌⊎◌, Bool, true, false, List, All, Option, None}
use Rattle.std.specs.Prelude.{Some, length, replicate, slice_index, slice_set}
use Rattle.coflow_units.specs.declared.limits.TheConstants.{MAX_COFLOWS, MAX_OPTION_SLOTS, MAX_PUBLISHINGS}
use Rattle.std.specs.List.{slice_index_or}
use Rattle.epochs.specs.declared.action.Action.{Action}
use Rattle.epochs.specs.declared.action.Action.TheVariants.{Register, Withdraw, Publish, Run, Skip, End, TooMany}

-- the times at which coflows arrive, by number; the slots from the start of an epoch to the next; the coflows that
-- joined and those that left, marked by number;
-- how many orders were published, and at which time the last one was
pub record Course : Type 0 where
  pub arrivals : List ℕ
  pub every : ℕ
  pub registered : List Bool
  pub withdrawn : List Bool
  pub published : ℕ
  pub last : Option ℕ

-- the coflow is marked; a number without a mark is not
abbrev pub is_marked : List Bool → ℕ → Bool
is_marked marks coflow = slice_index_or marks coflow false

abbrev pub arrival_of : Course → ℕ → ℕ
arrival_of s coflow = slice_index s.arrivals coflow

-- nobody joined or left, and no order was published
abbrev pub at_first : List ℕ → ℕ → Course
at_first arrivals every = record {
  arrivals = arrivals;
  every = every;
  registered = replicate (length arrivals) false;
  withdrawn = replicate (length arrivals) false;
  published = 0;
  last = None;
}

-- the course once the action was carried out at the time
abbrev pub after : Course → ℕ → Action → Course
after s time (Register coflow) = record {
  arrivals = s.arrivals;
  every = s.every;
  registered = slice_set s.registered coflow true;
  withdrawn = s.withdrawn;
  published = s.published;
  last = s.last;
}
after s time (Withdraw coflow) = record {
  arrivals = s.arrivals;
  every = s.every;
  registered = s.registered;
  withdrawn = slice_set s.withdrawn coflow true;
  published = s.published;
  last = s.last;
}
after s time Publish = record {
  arrivals = s.arrivals;
  every = s.every;
  registered = s.registered;
  withdrawn = s.withdrawn;
  published = s.published + 1;
  last = Some time;
}
after s time (Run most) = s
after s time (Skip to) = s
after s time End = s
after s time (TooMany count) = s

-- ---- who waits, who is present, who owes

-- the coflow has not joined
pub record IsWaiting (arrivals : List ℕ) (registered : List Bool) (coflow : ℕ) : Type 0 where
  pub coflow_in : coflow < length arrivals
  pub waits : is_marked registered coflow ≡ false

abbrev pub Waits : Course → ℕ → Type 0
Waits s coflow = IsWaiting s.arrivals s.registered coflow

-- the coflow comes no later than the other one: by arrival, and then by number
abbrev pub ComesFirst : List ℕ → ℕ → ℕ → Type 0
ComesFirst arrivals coflow other =
    (slice_index arrivals coflow < slice_index arrivals other) ⊎
    ((slice_index arrivals coflow ≡ slice_index arrivals other) × (coflow ≤ other))

-- the coflow waits, and comes first among those that do
pub record WaitsFirst (arrivals : List ℕ) (registered : List Bool) (coflow : ℕ) : Type 0 where
  pub waits : IsWaiting arrivals registered coflow
  pub first : (other : ℕ) → IsWaiting arrivals registered other → ComesFirst arrivals coflow other

-- the coflow that waits first, or none where none waits
abbrev pub IsFirstWaiting : List ℕ → List Bool → Option ℕ → Type 0
IsFirstWaiting arrivals registered None = (coflow : ℕ) → IsWaiting arrivals registered coflow → ⊥
IsFirstWaiting arrivals registered (Some coflow) = WaitsFirst arrivals registered coflow

-- everybody who arrived by the time has joined
abbrev pub HaveJoined : Course → ℕ → Type 0
HaveJoined s time = (coflow : ℕ) → Waits s coflow → time < arrival_of s coflow

-- the coflow that waits first and has arrived by the time, or none where everybody who arrived has joined
abbrev pub IsArrived : Course → ℕ → Option ℕ → Type 0
IsArrived s time None = HaveJoined s time
IsArrived s time (Some coflow) = WaitsFirst s.arrivals s.registered coflow × (arrival_of s coflow ≤ time)

-- the coflow joined and has not left
pub record IsPresent (registered withdrawn : List Bool) (coflow : ℕ) : Type 0 where
  pub joined : is_marked registered coflow ≡ true
  pub stays : is_marked withdrawn coflow ≡ false

-- a coflow that is present owes a unit
abbrev pub SomeOwes : List Bool → List Bool → List ℕ → Type 0
SomeOwes registered withdrawn owed =
    (coflow : ℕ) × IsPresent registered withdrawn coflow × (0 < slice_index owed coflow)

-- the coflow is present and owes nothing, and is the first such coflow by number
pub record ServedFirst (registered withdrawn : List Bool) (owed : List ℕ) (coflow : ℕ) : Type 0 where
  pub is_present : IsPresent registered withdrawn coflow
  pub served : slice_index owed coflow ≡ 0
  pub first : (other : ℕ) → IsPresent registered withdrawn other → slice_index owed other ≡ 0 → coflow ≤ other

-- the first served coflow that is present, or none where each that is present owes a unit
abbrev pub IsFirstServed : List Bool → List Bool → List ℕ → Option ℕ → Type 0
IsFirstServed registered withdrawn owed None =
    (coflow : ℕ) → IsPresent registered withdrawn coflow → 0 < slice_index owed coflow
IsFirstServed registered withdrawn owed (Some coflow) = ServedFirst registered withdrawn owed coflow

-- ---- times

-- an epoch starts at the time, and its order was not published yet
pub record IsEpochStart (s : Course) (time : ℕ) : Type 0 where
  pub multiple : time % s.every ≡ 0
  pub unpublished : s.last ≢ Some time

-- some coflow arrives at the time
abbrev pub IsArrival : List ℕ → ℕ → Type 0
IsArrival arrivals time = (coflow : ℕ) × (coflow < length arrivals) × (slice_index arrivals coflow ≡ time)

-- the time is the first after `now` at which a coflow arrives
pub record IsNextArrival (arrivals : List ℕ) (now time : ℕ) : Type 0 where
  pub later : now < time
  pub arrival : IsArrival arrivals time
  pub first : (other : ℕ) → now < other → IsArrival arrivals other → time ≤ other

-- the first arrival after `now`, or none where there is none
abbrev pub IsLaterArrival : List ℕ → ℕ → Option ℕ → Type 0
IsLaterArrival arrivals now None = (other : ℕ) → now < other → IsArrival arrivals other → ⊥
IsLaterArrival arrivals now (Some time) = IsNextArrival arrivals now time

-- an epoch starts or a coflow arrives at the time
abbrev pub IsStop : Course → ℕ → Type 0
IsStop s time = (time % s.every ≡ 0) ⊎ IsArrival s.arrivals time

-- the time is the first after `now` at which an epoch starts or a coflow arrives
pub record IsNextStop (s : Course) (now time : ℕ) : Type 0 where
  pub later : now < time
  pub stop : IsStop s time
  pub first : (other : ℕ) → now < other → IsStop s other → time ≤ other

-- ---- what an `Epochs` keeps

-- numbers within their limits, a mark of each kind for each coflow, and the coflow that joins next
pub record IsSound (s : Course) (upcoming : Option ℕ) : Type 0 where
  pub coflows_limit : length s.arrivals ≤ MAX_COFLOWS
  pub arrivals_fit : All (λ a. a ≤ 2 ^ 32) s.arrivals
  pub epoch_some : 1 ≤ s.every
  pub epoch_fits : s.every ≤ MAX_OPTION_SLOTS
  pub registered_len : length s.registered ≡ length s.arrivals
  pub withdrawn_len : length s.withdrawn ≡ length s.arrivals
  pub published_limit : s.published ≤ MAX_PUBLISHINGS
  pub joins_next : IsFirstWaiting s.arrivals s.registered upcoming
