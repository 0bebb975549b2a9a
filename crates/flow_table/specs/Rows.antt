-- A trace and its flows, worked out by hand.
use Rattle.std.specs.Prelude.{◌≡◌, ℕ, List, [], ◌∷◌}
use Rattle.coflow_units.specs.declared.fabric.Flow.{Flow}
use Rattle.coflow_units.specs.declared.trace.CoflowLine.{CoflowLine}
use Rattle.coflow_units.specs.declared.trace.Trace.{Trace}
use Rattle.flow_table.specs.FlowsOf.{IsFlowsOf}
use Rattle.flow_table.specs.Sent.{sent_of}
use Rattle.flow_table.specs.Units.{units_in_all}

-- a coflow with mappers at locations 0 and 2, and a reducer of 2.5 megabytes at location 1
abbrev pub two_mappers_line : CoflowLine
two_mappers_line = record {
  id = 7;
  arrival = 0;
  mappers = 0 ∷ 2 ∷ [];
  reducers = record { location = 1; millionths = 2500000 } ∷ [];
}

abbrev pub two_mappers : Trace
two_mappers = record { number = 2; coflows = two_mappers_line ∷ [] }

abbrev pub two_mappers_flows : List Flow
two_mappers_flows =
    record { coflow = 0; ingress = 0; egress = 1; units = 2 }
    ∷ record { coflow = 0; ingress = 2; egress = 1; units = 1 } ∷ []

-- With units of 1 megabyte there are 3 units. The first mapper sends 2 of them, and the second one.
pub record TwoMappers : Type 0 where
  pub units : units_in_all two_mappers 1 ≡ 3
  pub first : sent_of two_mappers_line 3 0 ≡ 2
  pub second : sent_of two_mappers_line 3 2 ≡ 1
  pub flows : IsFlowsOf two_mappers 1 two_mappers_flows
