-- the flows and the ports of the pairs so far
use Rattle.std.proofs.Common.{◌≡◌, ◌≤◌, map, take}
use Rattle.std.specs.Prelude.{vec_capacity}
use Rattle.matching.proofs.AnewSteps.{flow_of, port_of}
use Rattle.matching.proofs.anew.split.Given as goal

abbrev pub invariant-loop-listed : goal.invariant-loop-listed
invariant-loop-listed l = record {
  flows : l.flows.items ≡ map flow_of (take l.listed-index l.pairs);
  ports : l.ports.items ≡ map port_of (take l.listed-index l.pairs);
  flows_room : vec_capacity l.fn.flows ≤ vec_capacity l.flows;
  ports_room : vec_capacity l.fn.ports ≤ vec_capacity l.ports;
}
