-- Small cases on which definitions hold, and ones on which they do not.
use Rattle.std.specs.Prelude.{◌≡◌, ℕ, List, [], ◌∷◌}
use Rattle.coflow_units.specs.declared.fabric.Flow.{Flow}
use Rattle.coflow_units.specs.declared.fabric.Port.{Port}
use Rattle.coflow_units.specs.declared.fabric.Side.TheVariants.{Ingress, Egress}
use Rattle.coflow_units.specs.declared.trace.CoflowLine.{CoflowLine}
use Rattle.coflow_units.specs.declared.trace.Trace.{Trace}
use Rattle.coflow_units.specs.Flows.{Instance, IsInstance, IsWhole, SharesPort, units_of}
use Rattle.coflow_units.specs.Load.{load, load_of_all}
use Rattle.coflow_units.specs.Grants.{IsGrants, IsRunLength}
use Rattle.coflow_units.specs.Schedule.{IsClear, IsRuns, IsValid, slots_of}
use Rattle.coflow_units.specs.Completion.{completion, cost}
use Rattle.coflow_units.specs.Patient.{IsPatient}
use Rattle.coflow_units.specs.Served.{IsServed}
use Rattle.coflow_units.specs.Certificate.{Entry, IsBelowLoads, IsCertificate, IsFeasible, TakesGreatestPorts, slack}
use Rattle.coflow_units.specs.PortWord.{FitsWord}
use Rattle.coflow_units.specs.Trace.{IsCoflowLine, IsTrace}
use Rattle.coflow_units.specs.Rows.{equal_weights, equal_weights_places, equal_weights_slots, two_flows}

abbrev pub one_each : ℕ → ℕ
one_each c = 1

abbrev pub first_ingress : Port
first_ingress = record { side = Ingress; number = 0 }

-- coflow 0 first, then coflow 1, as runs and as slots
abbrev pub longer_first : List (ℕ × List ℕ)
longer_first = (3, 0 ∷ []) ∷ (1, 1 ∷ []) ∷ []

abbrev pub longer_first_slots : List (List ℕ)
longer_first_slots = slots_of longer_first

-- the longer flow is served one unit too few
abbrev pub one_too_few : List (List ℕ)
one_too_few = slots_of ((2, 0 ∷ []) ∷ (1, 1 ∷ []) ∷ [])

-- the same slots with the longer run cut in two
abbrev pub cut_in_two : List (ℕ × List ℕ)
cut_in_two = (1, 0 ∷ []) ∷ (2, 0 ∷ []) ∷ (1, 1 ∷ []) ∷ []

-- a slot without flows stands before the others
abbrev pub idle_first : List (List ℕ)
idle_first = [] ∷ longer_first_slots

-- flows that cross: one from port 0 to port 1, the other from port 1 to port 0
abbrev pub crossing : List Flow
crossing = record { coflow = 0; ingress = 0; egress = 1; units = 1 } ∷ record {
  coflow = 1;
  ingress = 1;
  egress = 0;
  units = 1;
} ∷ []

-- one more than the ordering certificate's y at its last place
abbrev pub too_dear : List Entry
too_dear = record { coflow = 0; port = first_ingress; y = 366503875926 } ∷ record {
  coflow = 1;
  port = first_ingress;
  y = 733007751851;
} ∷ []

-- the ordering certificate of the instance where all is equal, but with the second ingress port at the last place
abbrev pub at_a_later_port : List Entry
at_a_later_port = record { coflow = 1; port = record { side = Ingress; number = 1 }; y = 1099511627776 } ∷
    record { coflow = 0; port = record { side = Egress; number = 0 }; y = 0 } ∷ []

-- a certificate that names one coflow twice
abbrev pub named_twice : List Entry
named_twice = record { coflow = 0; port = first_ingress; y = 0 } ∷ record {
  coflow = 0;
  port = first_ingress;
  y = 0;
} ∷ []

-- two places that charge nothing, so that all budgets are kept
abbrev pub free_places : List Entry
free_places =
    record { coflow = 0; port = first_ingress; y = 0 }
    ∷ record { coflow = 1; port = first_ingress; y = 0 } ∷ []

-- a certificate without coflow 1
abbrev pub one_left_out : List Entry
one_left_out = record { coflow = 0; port = first_ingress; y = 0 } ∷ []

-- a certificate that charges port 3, where ports count from 0 to 2
abbrev pub past_the_ports : List Entry
past_the_ports =
    record { coflow = 0; port = first_ingress; y = 0 }
    ∷ record { coflow = 1; port = record { side = Ingress; number = 3 }; y = 0 } ∷ []

-- the fabric has one port a side, and a flow goes to port 1
abbrev pub out_of_range : Instance
out_of_range = record { coflows = 0 ∷ 1 ∷ []; weight = one_each; ports = 1; flows = two_flows }

-- the same fabric, and a flow comes from port 1
abbrev pub from_port_one : Instance
from_port_one = record {
  coflows = 0 ∷ [];
  weight = one_each;
  ports = 1;
  flows = record { coflow = 0; ingress = 1; egress = 0; units = 1 } ∷ [];
}

-- the first place charges a port without load
abbrev pub at_an_idle_port : List Entry
at_an_idle_port = record { coflow = 0; port = first_ingress; y = 0 } ∷ record {
  coflow = 1;
  port = record { side = Ingress; number = 2 };
  y = 0;
} ∷ []

-- the flows stand from the last coflow to the first
abbrev pub turned : Instance
turned = record {
  coflows = 0 ∷ 1 ∷ [];
  weight = one_each;
  ports = 3;
  flows = record { coflow = 1; ingress = 0; egress = 1; units = 1 } ∷ record {
    coflow = 0;
    ingress = 0;
    egress = 1;
    units = 3;
  } ∷ [];
}

-- a flow that has no units left
abbrev pub all_sent : Instance
all_sent = record {
  coflows = 0 ∷ [];
  weight = one_each;
  ports = 3;
  flows = record { coflow = 0; ingress = 0; egress = 1; units = 0 } ∷ [];
}

-- a coflow line with a mapper at location 0 and a reducer of 3 megabytes at location 1
abbrev pub line_of : ℕ → CoflowLine
line_of id = record {
  id = id;
  arrival = 0;
  mappers = 0 ∷ [];
  reducers = record { location = 1; millionths = 3000000 } ∷ [];
}

-- a trace of one port with these coflow lines; its locations are 0 and 1
abbrev pub trace_with : List CoflowLine → Trace
trace_with lines = record { number = 1; coflows = lines }

-- what holds
pub record TwoFlowsHold : Type 0 where
  pub first_load : load two_flows 0 first_ingress ≡ 3
  pub both_loads : load_of_all two_flows (0 ∷ 1 ∷ []) first_ingress ≡ 4
  pub valid : IsValid two_flows longer_first_slots
  pub runs : IsRuns longer_first_slots longer_first
  pub ends : completion two_flows longer_first_slots 1 ≡ 4
  pub costs : cost two_flows one_each (0 ∷ 1 ∷ []) longer_first_slots ≡ 7
  pub granted : IsGrants two_flows (0 ∷ 1 ∷ []) (units_of two_flows) (0 ∷ [])
  pub served : IsServed two_flows (0 ∷ 1 ∷ []) longer_first_slots
  pub patient : IsPatient two_flows (0 ∷ 1 ∷ []) longer_first_slots
  pub feasible : IsFeasible two_flows one_each equal_weights_places
  pub certificate : IsCertificate equal_weights equal_weights_places
  pub all_kept : slack two_flows one_each free_places ≡ 10
  pub length : IsRunLength (units_of two_flows) (0 ∷ []) 2 2
  pub apart : IsClear crossing (0 ∷ 1 ∷ [])
  pub greatest : TakesGreatestPorts two_flows 3 equal_weights_places
  pub below : IsBelowLoads two_flows (λ c. 0) equal_weights_places
  pub whole : IsWhole equal_weights
  pub line : IsCoflowLine 1 (line_of 7)
  pub trace : IsTrace (trace_with (line_of 7 ∷ line_of 8 ∷ []))
  pub fits : FitsWord 2199023255551 1048575

-- what does not hold
pub record TwoFlowsRefuse : Type 0 where
  pub instance : IsInstance out_of_range → ⊥
  pub shared : IsClear two_flows (0 ∷ 1 ∷ []) → ⊥
  pub crossed : SharesPort crossing 0 1 → ⊥
  pub valid : IsValid two_flows one_too_few → ⊥
  pub runs : IsRuns longer_first_slots cut_in_two → ⊥
  pub granted : IsGrants two_flows (0 ∷ 1 ∷ []) (units_of two_flows) [] → ⊥
  pub shorter : IsRunLength (units_of two_flows) (0 ∷ []) 2 1 → ⊥
  pub longer : IsRunLength (units_of two_flows) (0 ∷ []) 4 4 → ⊥
  pub served : IsServed two_flows (0 ∷ 1 ∷ []) equal_weights_slots → ⊥
  pub patient : IsPatient two_flows (0 ∷ 1 ∷ []) idle_first → ⊥
  pub feasible : IsFeasible two_flows one_each too_dear → ⊥
  pub certificate : IsCertificate equal_weights named_twice → ⊥
  pub left_out : IsCertificate equal_weights one_left_out → ⊥
  pub port_in_range : IsCertificate equal_weights past_the_ports → ⊥
  pub ingress_in_range : IsInstance from_port_one → ⊥
  pub greatest : TakesGreatestPorts two_flows 3 at_an_idle_port → ⊥
  pub below : IsBelowLoads two_flows one_each equal_weights_places → ⊥
  pub unsorted : IsWhole turned → ⊥
  pub without_units : IsWhole all_sent → ⊥
  pub line : IsCoflowLine 0 (line_of 7) → ⊥
  pub trace : IsTrace (trace_with (line_of 7 ∷ line_of 7 ∷ [])) → ⊥
  pub late_slot : FitsWord 2199023255552 0 → ⊥
  pub large_flow : FitsWord 0 1048576 → ⊥
