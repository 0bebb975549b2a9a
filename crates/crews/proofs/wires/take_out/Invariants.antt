use Rattle.std.proofs.Common.{◌≡◌, take, vec_capacity}
use Rattle.crews.specs.Wires.{AreTaken}
use Rattle.crews.proofs.wires.take_out.Given as goal

abbrev pub invariant-loop-port : goal.invariant-loop-port
invariant-loop-port g l = record {
  taken : AreTaken (take l.port-index l.ports) l.fn.wires l.wires l.outlets.items;
  room : vec_capacity l.outlets ≡ vec_capacity l.fn.outlets;
}
