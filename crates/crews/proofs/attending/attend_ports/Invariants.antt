use Rattle.std.proofs.Common.{◌≡◌, take}
use Rattle.crews.proofs.Driving.{DriveSoFar}
use Rattle.crews.proofs.attending.attend_ports.Given as goal

abbrev pub invariant-loop-port : goal.invariant-loop-port
invariant-loop-port g l = record {
  own : l.agent.at ≡ l.fn.agent.at;
  same : l.agent.id ≡ l.fn.agent.id;
  so_far : DriveSoFar g.W.Wire.faults g.W.Wire.runs l.board.ports (take l.port-index l.ports) l.fn.agent.view l.agent.view l.fn.wires l.wires;
}
