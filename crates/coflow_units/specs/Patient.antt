-- Schedules that keep an order and leave no port idle that could serve. Sincronia (Agarwal and others, SIGCOMM 2018)
-- calls them order-preserving and work-conserving.
use Rattle.std.specs.Prelude.{ℕ, ◌+◌, ◌<◌, ◌≤◌, ◌⊎◌, List, [], Contains, length, take}
use Rattle.std.specs.List.{slice_index_or}
use Rattle.coflow_units.specs.declared.fabric.Flow.{Flow}
use Rattle.coflow_units.specs.declared.fabric.Port.{Port}
use Rattle.coflow_units.specs.declared.fabric.Side.TheVariants.{Ingress, Egress}
use Rattle.coflow_units.specs.Flows.{coflow_of, ingress_of, egress_of, units_of, SharesPort}
use Rattle.coflow_units.specs.Grants.{place_in}
use Rattle.coflow_units.specs.Schedule.{times}

-- the slot holds the flow, or a flow of a coflow no later in the order that has a port in common with it
abbrev pub IsServedOrWaits : List Flow → List ℕ → List ℕ → ℕ → Type 0
IsServedOrWaits flows order slot f =
    Contains slot f
    ⊎ ((g : ℕ) × Contains slot g × SharesPort flows g f ×
    (place_in order (coflow_of flows g) ≤ place_in order (coflow_of flows f)))

-- in each slot, each flow that stood in fewer slots than it has units is served, or waits for a coflow no later in the
-- order
abbrev pub IsPatient : List Flow → List ℕ → List (List ℕ) → Type 0
IsPatient flows order slots =
    (t f : ℕ) → t < length slots → f < length flows → times (take t slots) f < units_of flows f →
    IsServedOrWaits flows order (slice_index_or slots t []) f

-- the coflows of the order up to this one
abbrev pub up_to : List ℕ → ℕ → List ℕ
up_to order coflow = take (place_in order coflow + 1) order

-- the two ports of a flow
abbrev pub ingress_port : List Flow → ℕ → Port
ingress_port flows f = record { side = Ingress; number = ingress_of flows f }

abbrev pub egress_port : List Flow → ℕ → Port
egress_port flows f = record { side = Egress; number = egress_of flows f }
