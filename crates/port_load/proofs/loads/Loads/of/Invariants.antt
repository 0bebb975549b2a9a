use Rattle.std.proofs.Common.{◌≡◌, take}
use Rattle.port_load.specs.LoadTable.{HasLoads}
use Rattle.port_load.proofs.loads.Loads.of.Given as goal

abbrev pub invariant-loop-flow : goal.invariant-loop-flow
invariant-loop-flow l = record {
  coflows_are : l.loads.coflows ≡ l.coflows;
  ports_are : l.loads.ports ≡ l.ports;
  loads_are : HasLoads (take l.flow-index l.flows) l.loads;
}
